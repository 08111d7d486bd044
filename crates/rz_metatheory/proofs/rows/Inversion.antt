-- What a typing row leads back to.
use Rattle.std.proofs.Common.{[], refl}
use Rattle.rz_rules.specs.declared.kinds.Kind.TheVariants as kind
use Rattle.rz_rules.specs.declared.rows.Row.TheVariants as row
use Rattle.rz_rules.specs.Tree.{Tree, At, Nil, And}
use Rattle.std.proofs.Common.{Bool}
use Rattle.std.specs.Cmp.{first_so, second_so}
use Rattle.rz_metatheory.specs.Place.{Valuation, is_true, with_tope}
use Rattle.rz_metatheory.specs.Good.{IsGood}
use Rattle.rz_metatheory.specs.Scope.{binders_in}
use Rattle.rz_metatheory.proofs.Places.{both_so}
use Rattle.rz_metatheory.proofs.Values.{AreCubes-front}
use Rattle.rz_metatheory.proofs.Keeping.{RowReturns}
use Rattle.rz_metatheory.proofs.Letters as the
use Rattle.rz_metatheory.proofs.Moves.{narrowed, stays_good, good_everywhere, put_term_good, put_over, put_entails, at_point_good}
use Rattle.rz_metatheory.proofs.rows.Terms.{cubes, motives_good, motive_at_good, on_face_too, allowed_without, allowed_true}

pub universe : RowReturns row.Universe
universe L last = ((last.0, tt), ((last.0, (last.1, (refl, tt, tt))), tt))

pub constant : RowReturns row.Constant
constant L last =
    let parts = last.1.2 in (
      (tt, (parts.0, (refl, tt, tt))),
      (
        (tt, (parts.1.0, parts.0)),
        (
          (last.0, tt),
          ((last.0, (last.1, good_everywhere (the.here L) (cubes L last.0) (the.A L) parts.0)), tt),
        ),
      ),
    )

pub postulate : RowReturns row.Postulate
postulate L last =
    let parts = last.1.2 in (
      (tt, (parts.0, (refl, tt, tt))),
      (
        (last.0, tt),
        ((last.0, (last.1, good_everywhere (the.here L) (cubes L last.0) (the.A L) parts.0)), tt),
      ),
    )

pub pi : RowReturns row.Pi
pi L last =
    let parts = last.1.2 in
    ((last.0, (parts.0, (refl, tt, tt))), (((last.0, parts.0), (parts.1.0, (refl, tt, tt))), ((last.0, (last.1, (refl, tt, tt))), tt)))

pub sigma : RowReturns row.Sigma
sigma L last =
    let parts = last.1.2 in
    ((last.0, (parts.0, (refl, tt, tt))), (((last.0, parts.0), (parts.1.0, (refl, tt, tt))), ((last.0, (last.1, (refl, tt, tt))), tt)))

pub lambda : RowReturns row.Lambda
lambda L last =
    let parts = last.1.2 in (
      (last.0, ((refl, tt, (parts.0, (parts.1.0, tt))), (refl, tt, tt))),
      (
        ((last.0, parts.0), (parts.1.1.0, parts.1.0)),
        ((last.0, (last.1, (refl, tt, (parts.0, (parts.1.0, tt))))), tt),
      ),
    )

pub application : RowReturns row.Application
application L last =
    let parts = last.1.2 in (
      (last.0, (parts.1.1.0, (refl, tt, (parts.0, (parts.1.0, tt))))),
      (
        (last.0, (parts.1.1.1.0, parts.0)),
        ((last.0, (last.1, put_term_good (the.here L) (the.X L) (cubes L last.0) parts.1.1.1.0 (the.B L) parts.1.0)), tt),
      ),
    )

pub pair : RowReturns row.Pair
pair L last =
    let parts = last.1.2 in (
      (last.0, ((refl, tt, (parts.0, (parts.1.0, tt))), (refl, tt, tt))),
      (
        (last.0, (parts.1.1.0, parts.0)),
        (
          (last.0, (parts.1.1.1.0, put_term_good (the.here L) (the.X L) (cubes L last.0) parts.1.1.0 (the.B L) parts.1.0)),
          ((last.0, (last.1, (refl, tt, (parts.0, (parts.1.0, tt))))), tt),
        ),
      ),
    )

pub first : RowReturns row.First
first L last =
    let parts = last.1.2 in
    ((last.0, (parts.1.1.0, (refl, tt, (parts.0, (parts.1.0, tt))))), ((last.0, (last.1, parts.0)), tt))

pub second : RowReturns row.Second
second L last =
    let parts = last.1.2 in (
      (last.0, (parts.1.1.0, (refl, tt, (parts.0, (parts.1.0, tt))))),
      (
        (
          last.0,
          (
            last.1,
            put_term_good (the.here L) (At kind.First 0 [] (And (the.A L) (And (the.B L) (And (the.H L) Nil)))) (cubes L last.0)
                (refl, tt, (parts.0, (parts.1.0, (parts.1.1.0, tt)))) (the.B L) parts.1.0,
          ),
        ),
        tt,
      ),
    )

pub identity : RowReturns row.Identity
identity L last =
    let parts = last.1.2 in
    ((last.0, (parts.0, (refl, tt, tt))), ((last.0, (parts.1.0, parts.0)), ((last.0, (parts.1.1.0, parts.0)), ((last.0, (last.1, (refl, tt, tt))), tt))))

pub reflexivity : RowReturns row.Reflexivity
reflexivity L last =
    let parts = last.1.2 in
    ((last.0, (parts.1.0, parts.0)), ((last.0, (last.1, (refl, tt, (parts.0, (parts.1.0, (parts.1.0, tt)))))), tt))

pub identity_induction : RowReturns row.IdentityInduction
identity_induction L last =
    let parts = last.1.2 in
    let a = parts.0 in
    let x = parts.1.0 in
    let m = parts.1.1.0 in
    let g = parts.1.1.1.0 in
    let y = parts.1.1.1.1.0 in
    let h = parts.1.1.1.1.1.0 in
    let at = motive_at_good (the.here L) (cubes L last.0) (the.A L) (the.X L) (the.M L) in (
      (last.0, (m, (refl, tt, (a, (motives_good (the.here L) (cubes L last.0) (the.A L) (the.X L) a x, tt))))),
      (
        (last.0, (g, at (the.X L) (At kind.Reflexivity 0 [] (And (the.A L) (And (the.X L) Nil))) a x m x (refl, tt, (a, (x, tt))))),
        (
          (last.0, (y, a)),
          (
            (last.0, (h, (refl, tt, (a, (x, (y, tt)))))),
            ((last.0, (last.1, at (the.Y L) (the.H L) a x m y h)), tt),
          ),
        ),
      ),
    )

pub unit_type : RowReturns row.UnitType
unit_type L last = ((last.0, tt), ((last.0, (last.1, (refl, tt, tt))), tt))

pub star : RowReturns row.Star
star L last = ((last.0, tt), ((last.0, (last.1, (refl, tt, tt))), tt))

pub extension : RowReturns row.Extension
extension L last =
    let shape = last.1.0 in
    let parts = last.1.2 in
    let bound = AreCubes-front (the.I L) (the.here L).scope.cubes shape.cube_is.tree (cubes L last.0) in (
      (((last.0, shape.cube_is), shape.tope_is), (parts.0, (refl, tt, tt))),
      (
        (
          (((last.0, shape.cube_is), shape.tope_is), shape.face_is),
          (parts.1.0, on_face_too (the.here L) (the.I L) (the.P L) (the.Q L) bound (the.A L) parts.0),
        ),
        ((last.0, (last.1, (refl, tt, tt))), tt),
      ),
    )

pub extension_lambda : RowReturns row.ExtensionLambda
extension_lambda L last =
    let shape = last.1.0 in
    let parts = last.1.2 in
    let bound = AreCubes-front (the.I L) (the.here L).scope.cubes shape.cube_is.tree (cubes L last.0) in
    let face = on_face_too (the.here L) (the.I L) (the.P L) (the.Q L) bound in (
      (last.0, ((shape, tt, (parts.0, (parts.1.0, tt))), (refl, tt, tt))),
      (
        (((last.0, shape.cube_is), shape.tope_is), (parts.1.1.0, parts.0)),
        (
          ((((last.0, shape.cube_is), shape.tope_is), shape.face_is), (face (the.Y L) parts.1.1.0, parts.1.0, face (the.A L) parts.0)),
          ((last.0, (last.1, (shape, tt, (parts.0, (parts.1.0, tt))))), tt),
        ),
      ),
    )

pub extension_application : RowReturns row.ExtensionApplication
extension_application L last =
    let shape = last.1.0.0 in
    let point = last.1.0.1 in
    let so = last.1.1 in
    let parts = last.1.2 in
    let is = shape.cube_is.tree in (
      (last.0, (parts.1.1.0, (shape, tt, (parts.0, (parts.1.0, tt))))),
      (
        (
          last.0,
          (
            put_over (the.here L) (the.I L) (the.P L) (the.S L) (cubes L last.0) is point shape.tope_is,
            put_entails (the.here L) (the.I L) (the.P L) (the.S L) (cubes L last.0) is point shape.tope_is so,
          ),
        ),
        ((last.0, (last.1, at_point_good (the.here L) (the.I L) (the.P L) (the.S L) (cubes L last.0) is point so (the.A L) parts.0)), tt),
      ),
    )

pub rec_or : RowReturns row.RecOr
rec_or L last =
    let parts = last.1.2 in
    let here = the.here L in
    let bound = cubes L last.0 in
    let both : Tree = At kind.Conjunction 0 [] (And (the.P L) (And (the.Q L) Nil)) in
    let truth : Valuation → Tree → Bool = λ v p. is_true (binders_in here.scope) v p in
    let under : (tope t : Tree) → IsGood here t → IsGood (with_tope tope here) t = λ tope t good. (stays_good t).under_tope here tope bound good in
    let left : IsGood (with_tope both here) (the.X L) = narrowed (with_tope (the.P L) here) (with_tope both here) bound refl
    (λ v allowed. both_so (here.allows v) (truth v (the.P L)) (allowed_without here both v allowed).allowed
    (first_so (truth v (the.P L)) (truth v (the.Q L)) (allowed_true here both v allowed))) (the.X L) parts.1.0 in
    let right : IsGood (with_tope both here) (the.Y L) = narrowed (with_tope (the.Q L) here) (with_tope both here) bound refl
    (λ v allowed. both_so (here.allows v) (truth v (the.Q L)) (allowed_without here both v allowed).allowed
    (second_so (truth v (the.P L)) (truth v (the.Q L)) (allowed_true here both v allowed))) (the.Y L) parts.1.1.0 in (
      (last.0, (parts.0, (refl, tt, tt))),
      (
        (last.0, (last.1.0, last.1.1)),
        (
          ((last.0, last.1.0.0), (parts.1.0, under (the.P L) (the.A L) parts.0)),
          (
            ((last.0, last.1.0.1), (parts.1.1.0, under (the.Q L) (the.A L) parts.0)),
            (
              ((last.0, last.1.0), (left, right, under both (the.A L) parts.0)),
              ((last.0, (last.1, parts.0)), tt),
            ),
          ),
        ),
      ),
    )

pub rec_bottom : RowReturns row.RecBottom
rec_bottom L last =
    let parts = last.1.2 in
    ((last.0, (parts.0, (refl, tt, tt))), ((last.0, (tt, (λ v allowed. absurd (last.1.1 v allowed)))), ((last.0, (last.1, parts.0)), tt)))
