-- The rows of congruence.
use Rattle.std.proofs.Common.{refl}
use Rattle.std.proofs.Common.{[], true≢false, sym}
use Rattle.rz_rules.specs.declared.kinds.Kind.TheVariants as kind
use Rattle.rz_rules.specs.declared.rows.Row.TheVariants as row
use Rattle.rz_rules.specs.Tree.{At, Nil, And}
use Rattle.rz_metatheory.specs.Place.{value, with_value}
use Rattle.rz_metatheory.specs.Good.{IsTrueAt}
use Rattle.rz_metatheory.proofs.Keeping.{RowKeeps}
use Rattle.rz_metatheory.proofs.Letters as the
use Rattle.rz_metatheory.proofs.Moves.{put_term_good, true_at, at_point_good}
use Rattle.rz_metatheory.proofs.Values.{AreCubes-front}
use Rattle.rz_metatheory.proofs.rows.Terms.{cubes, motive_at_good, true_at_equal, allowed_at, shape_narrowed, face_narrowed}

pub same_reflexive : RowKeeps row.SameReflexive
same_reflexive L met x tree over = (x.0, (x.1.0, x.1.0, x.1.1))

pub same_symmetric : RowKeeps row.SameSymmetric
same_symmetric L met same tree over = (same.0, (same.1.1, same.1.0, same.1.2))

pub same_transitive : RowKeeps row.SameTransitive
same_transitive L met first second tree over = (first.0, (first.1.0, second.1.1, first.1.2))

pub same_conversion : RowKeeps row.SameConversion
same_conversion L met same types tree over = (same.0, (same.1.0, same.1.1, types.1.1))

pub pi : RowKeeps row.PiCongruence
pi L met a b tree over = (a.0, ((refl, tt, (a.1.0, (b.1.0, tt))), (refl, tt, (a.1.1, (b.1.1, tt))), (refl, tt, tt)))

pub sigma : RowKeeps row.SigmaCongruence
sigma L met a b tree over = (a.0, ((refl, tt, (a.1.0, (b.1.0, tt))), (refl, tt, (a.1.1, (b.1.1, tt))), (refl, tt, tt)))

pub lambda : RowKeeps row.LambdaCongruence
lambda L met a b y tree over =
    (a.0, ((refl, tt, (a.1.0, (b.1.0, (y.1.0, tt)))), (refl, tt, (a.1.1, (b.1.1, (y.1.1, tt)))), (refl, tt, (a.1.0, (b.1.0, tt)))))

pub application : RowKeeps row.ApplicationCongruence
application L met a b f x tree over = (
  a.0,
  (
    (refl, tt, (a.1.0, (b.1.0, (f.1.0, (x.1.0, tt))))),
    (refl, tt, (a.1.1, (b.1.1, (f.1.1, (x.1.1, tt))))),
    put_term_good (the.here L) (the.X L) (cubes L a.0) x.1.0 (the.B L) b.1.0,
  ),
)

pub pair : RowKeeps row.PairCongruence
pair L met a b x y tree over =
    (a.0, ((refl, tt, (a.1.0, (b.1.0, (x.1.0, (y.1.0, tt))))), (refl, tt, (a.1.1, (b.1.1, (x.1.1, (y.1.1, tt))))), (refl, tt, (a.1.0, (b.1.0, tt)))))

pub first : RowKeeps row.FirstCongruence
first L met a b h tree over =
    (a.0, ((refl, tt, (a.1.0, (b.1.0, (h.1.0, tt)))), (refl, tt, (a.1.1, (b.1.1, (h.1.1, tt)))), a.1.0))

pub second : RowKeeps row.SecondCongruence
second L met a b h tree over = (
  a.0,
  (
    (refl, tt, (a.1.0, (b.1.0, (h.1.0, tt)))),
    (refl, tt, (a.1.1, (b.1.1, (h.1.1, tt)))),
    put_term_good (the.here L) (At kind.First 0 [] (And (the.A L) (And (the.B L) (And (the.H L) Nil)))) (cubes L a.0)
        (refl, tt, (a.1.0, (b.1.0, (h.1.0, tt)))) (the.B L) b.1.0,
  ),
)

pub identity : RowKeeps row.IdentityCongruence
identity L met a x y tree over =
    (a.0, ((refl, tt, (a.1.0, (x.1.0, (y.1.0, tt)))), (refl, tt, (a.1.1, (x.1.1, (y.1.1, tt)))), (refl, tt, tt)))

pub reflexivity : RowKeeps row.ReflexivityCongruence
reflexivity L met a x tree over =
    (a.0, ((refl, tt, (a.1.0, (x.1.0, tt))), (refl, tt, (a.1.1, (x.1.1, tt))), (refl, tt, (a.1.0, (x.1.0, (x.1.0, tt))))))

pub identity_induction : RowKeeps row.IdentityInductionCongruence
identity_induction L met a x m g y h tree over = (
  a.0,
  (
    (refl, tt, (a.1.0, (x.1.0, (m.1.0, (g.1.0, (y.1.0, (h.1.0, tt))))))),
    (refl, tt, (a.1.1, (x.1.1, (m.1.1, (g.1.1, (y.1.1, (h.1.1, tt))))))),
    motive_at_good (the.here L) (cubes L a.0) (the.A L) (the.X L) (the.M L) (the.Y L) (the.H L) a.1.0 x.1.0 m.1.0 y.1.0 h.1.0,
  ),
)

pub extension : RowKeeps row.ExtensionCongruence
extension L met forth back a face_forth face_back x tree over =
    let here = the.here L in
    let bound = AreCubes-front (the.I L) here.scope.cubes a.0.0.1.tree (cubes L a.0.0.0) in (
      a.0.0.0,
      (
        (record { cube_is = a.0.0.1; tope_is = a.0.1; face_is = x.0.1 }, tt, (a.1.0, (x.1.0, tt))),
        (
          record { cube_is = a.0.0.1; tope_is = forth.1.0; face_is = face_forth.1.0 },
          tt,
          (
            shape_narrowed here (the.I L) (the.P L) (the.P1 L) (the.Q L) (the.Q1 L) bound back.1.1 face_back.1.1 (the.A1 L) a.1.1,
            (face_narrowed here (the.I L) (the.P L) (the.P1 L) (the.Q L) (the.Q1 L) bound back.1.1 face_back.1.1 (the.X1 L) x.1.1, tt),
          ),
        ),
        (refl, tt, tt),
      ),
    )

pub extension_lambda : RowKeeps row.ExtensionLambdaCongruence
extension_lambda L met function forth back a face_forth face_back x y tree over =
    let here = the.here L in
    let bound = AreCubes-front (the.I L) here.scope.cubes a.0.0.1.tree (cubes L function.0) in
    let on = shape_narrowed here (the.I L) (the.P L) (the.P1 L) (the.Q L) (the.Q1 L) bound back.1.1 face_back.1.1 in (
      function.0,
      (
        function.1.0,
        (
          record { cube_is = a.0.0.1; tope_is = forth.1.0; face_is = face_forth.1.0 },
          tt,
          (
            on (the.A1 L) a.1.1,
            (
              face_narrowed here (the.I L) (the.P L) (the.P1 L) (the.Q L) (the.Q1 L) bound back.1.1 face_back.1.1 (the.X1 L) x.1.1,
              (on (the.Y1 L) y.1.1, tt),
            ),
          ),
        ),
        function.1.1,
      ),
    )

pub extension_application : RowKeeps row.ExtensionApplicationCongruence
extension_application L met forth back a face_forth face_back x f equal holds tree over =
    let here = the.here L in
    let bound = AreCubes-front (the.I L) here.scope.cubes a.0.0.1.tree (cubes L f.0) in
    let is = a.0.0.1.tree in
    let so = true_at here (the.I L) (the.P L) (the.S L) (cubes L f.0) is equal.1.0.0 a.0.1 holds.1.1 in
    let so_there = true_at_equal here (the.I L) (the.P L) (the.S L) (the.S1 L) so equal.1.1 in
    let so_right : IsTrueAt here (the.I L) (the.P1 L) (the.S1 L) =
    λ v allowed. forth.1.1 (with_value (value (the.binders L) v (the.S1 L)) v) (allowed_at here (the.I L) (the.P L) (the.S1 L) v allowed equal.1.0.1 so_there) in (
      f.0,
      (
        ((record { cube_is = a.0.0.1; tope_is = a.0.1; face_is = x.0.1 }, equal.1.0.0), so, (a.1.0, (x.1.0, (f.1.0, tt)))),
        (
          (record { cube_is = a.0.0.1; tope_is = forth.1.0; face_is = face_forth.1.0 }, equal.1.0.1),
          so_right,
          (
            shape_narrowed here (the.I L) (the.P L) (the.P1 L) (the.Q L) (the.Q1 L) bound back.1.1 face_back.1.1 (the.A1 L) a.1.1,
            (
              face_narrowed here (the.I L) (the.P L) (the.P1 L) (the.Q L) (the.Q1 L) bound back.1.1 face_back.1.1 (the.X1 L) x.1.1,
              (f.1.1, tt),
            ),
          ),
        ),
        at_point_good here (the.I L) (the.P L) (the.S L) (cubes L f.0) is equal.1.0.0 so (the.A L) a.1.0,
      ),
    )

pub rec_or : RowKeeps row.RecOrCongruence
rec_or L met rec a x y tree over = (rec.0, (rec.1.0, (rec.1.0.0, rec.1.0.1, (a.1.1, (x.1.1, (y.1.1, tt)))), rec.1.1))

pub rec_bottom : RowKeeps row.RecBottomCongruence
rec_bottom L met a never tree over = (
  a.0,
  (
    (refl, (λ v allowed. absurd (true≢false (sym (never.1.1 v allowed)))), (a.1.0, tt)),
    (refl, (λ v allowed. absurd (true≢false (sym (never.1.1 v allowed)))), (a.1.1, tt)),
    a.1.0,
  ),
)
