-- The typing rows.
use Rattle.std.proofs.Common.{refl}
use Rattle.std.proofs.Common.{[], true≢false, sym}
use Rattle.rz_rules.specs.declared.kinds.Kind.TheVariants as kind
use Rattle.rz_rules.specs.declared.rows.Row.TheVariants as row
use Rattle.rz_rules.specs.Tree.{At, Nil, And}
use Rattle.rz_metatheory.proofs.Keeping.{RowKeeps}
use Rattle.rz_metatheory.proofs.Letters as the
use Rattle.rz_metatheory.proofs.Moves.{good_everywhere, put_term_good, true_at, at_point_good}
use Rattle.rz_metatheory.proofs.rows.Terms.{cubes, motive_at_good}

pub universe : RowKeeps row.Universe
universe L met context tree over = (context.0, ((refl, tt, tt), (refl, tt, tt)))

pub constant : RowKeeps row.Constant
constant L met type body context tree over =
    (context.0, ((refl, tt, (type.1.0, (body.1.0, tt))), good_everywhere (the.here L) (cubes L context.0) (the.A L) type.1.0))

pub postulate : RowKeeps row.Postulate
postulate L met type context tree over =
    (context.0, ((refl, tt, (type.1.0, tt)), good_everywhere (the.here L) (cubes L context.0) (the.A L) type.1.0))

pub pi : RowKeeps row.Pi
pi L met a b tree over = (a.0, ((refl, tt, (a.1.0, (b.1.0, tt))), (refl, tt, tt)))

pub sigma : RowKeeps row.Sigma
sigma L met a b tree over = (a.0, ((refl, tt, (a.1.0, (b.1.0, tt))), (refl, tt, tt)))

pub lambda : RowKeeps row.Lambda
lambda L met pi y tree over = (pi.0, ((refl, tt, (pi.1.0.2.0, (pi.1.0.2.1.0, (y.1.0, tt)))), pi.1.0))

pub application : RowKeeps row.Application
application L met f x tree over =
    let parts = f.1.1.2 in
    (f.0, ((refl, tt, (parts.0, (parts.1.0, (f.1.0, (x.1.0, tt))))), put_term_good (the.here L) (the.X L) (cubes L f.0) x.1.0 (the.B L) parts.1.0))

pub pair : RowKeeps row.Pair
pair L met sig x y tree over =
    let parts = sig.1.0.2 in
    (sig.0, ((refl, tt, (parts.0, (parts.1.0, (x.1.0, (y.1.0, tt))))), sig.1.0))

pub first : RowKeeps row.First
first L met h tree over =
    let parts = h.1.1.2 in
    (h.0, ((refl, tt, (parts.0, (parts.1.0, (h.1.0, tt)))), parts.0))

pub second : RowKeeps row.Second
second L met h tree over =
    let parts = h.1.1.2 in (
      h.0,
      (
        (refl, tt, (parts.0, (parts.1.0, (h.1.0, tt)))),
        put_term_good (the.here L) (At kind.First 0 [] (And (the.A L) (And (the.B L) (And (the.H L) Nil)))) (cubes L h.0)
            (refl, tt, (parts.0, (parts.1.0, (h.1.0, tt)))) (the.B L) parts.1.0,
      ),
    )

pub identity : RowKeeps row.Identity
identity L met a x y tree over = (a.0, ((refl, tt, (a.1.0, (x.1.0, (y.1.0, tt)))), (refl, tt, tt)))

pub reflexivity : RowKeeps row.Reflexivity
reflexivity L met x tree over = (x.0, ((refl, tt, (x.1.1, (x.1.0, tt))), (refl, tt, (x.1.1, (x.1.0, (x.1.0, tt))))))

pub identity_induction : RowKeeps row.IdentityInduction
identity_induction L met m g y h tree over =
    let parts = h.1.1.2 in (
      m.0,
      (
        (refl, tt, (parts.0, (parts.1.0, (m.1.0, (g.1.0, (y.1.0, (h.1.0, tt))))))),
        motive_at_good (the.here L) (cubes L m.0) (the.A L) (the.X L) (the.M L) (the.Y L) (the.H L) parts.0 parts.1.0 m.1.0 y.1.0 h.1.0,
      ),
    )

pub unit_type : RowKeeps row.UnitType
unit_type L met context tree over = (context.0, ((refl, tt, tt), (refl, tt, tt)))

pub star : RowKeeps row.Star
star L met context tree over = (context.0, ((refl, tt, tt), (refl, tt, tt)))

pub extension : RowKeeps row.Extension
extension L met a x tree over =
    (a.0.0.0, ((record { cube_is = a.0.0.1; tope_is = a.0.1; face_is = x.0.1 }, tt, (a.1.0, (x.1.0, tt))), (refl, tt, tt)))

pub extension_lambda : RowKeeps row.ExtensionLambda
extension_lambda L met ext y agree tree over =
    let parts = ext.1.0.2 in
    (ext.0, ((ext.1.0.0, tt, (parts.0, (parts.1.0, (y.1.0, tt)))), ext.1.0))

pub extension_application : RowKeeps row.ExtensionApplication
extension_application L met f holds tree over =
    let shape = f.1.1.0 in
    let parts = f.1.1.2 in
    let so = true_at (the.here L) (the.I L) (the.P L) (the.S L) (cubes L f.0) shape.cube_is.tree met.0 shape.tope_is holds.1.1 in (
      f.0,
      (
        ((shape, met.0), so, (parts.0, (parts.1.0, (f.1.0, tt)))),
        at_point_good (the.here L) (the.I L) (the.P L) (the.S L) (cubes L f.0) shape.cube_is.tree met.0 so (the.A L) parts.0,
      ),
    )

pub rec_or : RowKeeps row.RecOr
rec_or L met a either x y agree tree over = (a.0, ((either.1.0, either.1.1, (a.1.0, (x.1.0, (y.1.0, tt)))), a.1.0))

pub rec_bottom : RowKeeps row.RecBottom
rec_bottom L met a never tree over = (a.0, ((refl, (λ v allowed. absurd (true≢false (sym (never.1.1 v allowed)))), (a.1.0, tt)), a.1.0))

pub conversion : RowKeeps row.Conversion
conversion L met x same tree over = (x.0, (x.1.0, same.1.1))
