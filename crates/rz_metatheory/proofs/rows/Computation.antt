-- The rows of computation.
use Rattle.std.proofs.Common.{[], true≢false, refl, sym, arith}
use Rattle.std.specs.Cmp.{first_so}
use Rattle.rz_rules.specs.declared.rows.Row.TheVariants as row
use Rattle.rz_rules.specs.Tree.{Tree}
use Rattle.rz_metatheory.specs.Place.{is_true, with_tope}
use Rattle.rz_metatheory.specs.Good.{IsGood}
use Rattle.rz_metatheory.specs.Scope.{binders_in}
use Rattle.rz_metatheory.proofs.Keeping.{RowKeeps}
use Rattle.rz_metatheory.proofs.Letters as the
use Rattle.rz_metatheory.proofs.Places.{both_so}
use Rattle.rz_metatheory.proofs.Moves.{narrowed, good_everywhere, put_term_good, shift_term_good, shift_inner_term_good, true_at, at_point_good, at_face_good, again_shape, again_true, again_on_shape, again_on_face, again_outside}
use Rattle.rz_metatheory.proofs.rows.Terms.{cubes, true_at_equal}

pub beta : RowKeeps row.Beta
beta L met y x tree over =
    let put = put_term_good (the.here L) (the.X L) (cubes L x.0) x.1.0 in
    (x.0, ((refl, tt, (y.0.1, (y.1.1, ((refl, tt, (y.0.1, (y.1.1, (y.1.0, tt)))), (x.1.0, tt))))), put (the.Y L) y.1.0, put (the.B L) y.1.1))

pub eta : RowKeeps row.Eta
eta L met f tree over =
    let parts = f.1.1.2 in
    let up = shift_term_good (the.here L) (cubes L f.0) in
    let up_inner = shift_inner_term_good (the.here L) (cubes L f.0) (the.B L) parts.1.0 in (
      f.0,
      (
        f.1.0,
        (refl, tt, (parts.0, (parts.1.0, ((refl, tt, (up (the.A L) parts.0, (up_inner, (up (the.F L) f.1.0, ((omega arith, tt, tt), tt))))), tt)))),
        f.1.1,
      ),
    )

pub first_beta : RowKeeps row.FirstBeta
first_beta L met pair tree over =
    let parts = pair.1.0.2 in
    (pair.0, ((refl, tt, (parts.0, (parts.1.0, (pair.1.0, tt)))), parts.1.1.0, parts.0))

pub second_beta : RowKeeps row.SecondBeta
second_beta L met pair tree over =
    let parts = pair.1.0.2 in (
      pair.0,
      (
        (refl, tt, (parts.0, (parts.1.0, (pair.1.0, tt)))),
        parts.1.1.1.0,
        put_term_good (the.here L) (the.X L) (cubes L pair.0) parts.1.1.0 (the.B L) parts.1.0,
      ),
    )

pub pair_eta : RowKeeps row.PairEta
pair_eta L met h tree over =
    let parts = h.1.1.2 in
    (h.0, (h.1.0, (refl, tt, (parts.0, (parts.1.0, ((refl, tt, (parts.0, (parts.1.0, (h.1.0, tt)))), ((refl, tt, (parts.0, (parts.1.0, (h.1.0, tt)))), tt))))), h.1.1))

pub identity_induction_beta : RowKeeps row.IdentityInductionBeta
identity_induction_beta L met j tree over = (j.0, (j.1.0, j.1.0.2.1.1.1.0, j.1.1))

pub unit_eta : RowKeeps row.UnitEta
unit_eta L met x tree over = (x.0, (x.1.0, (refl, tt, tt), x.1.1))

pub delta : RowKeeps row.Delta
delta L met constant tree over = (constant.0, (constant.1.0, good_everywhere (the.here L) (cubes L constant.0) (the.Y L) constant.1.0.2.1.0, constant.1.1))

pub extension_beta : RowKeeps row.ExtensionBeta
extension_beta L met function holds tree over =
    let shape = function.1.0.0 in
    let parts = function.1.0.2 in
    let so = true_at (the.here L) (the.I L) (the.P L) (the.S L) (cubes L function.0) shape.cube_is.tree met.0 shape.tope_is holds.1.1 in
    let put = at_point_good (the.here L) (the.I L) (the.P L) (the.S L) (cubes L function.0) shape.cube_is.tree met.0 so in
    (function.0, (((shape, met.0), so, (parts.0, (parts.1.0, (function.1.0, tt)))), put (the.Y L) parts.1.1.0, put (the.A L) parts.0))

pub extension_eta : RowKeeps row.ExtensionEta
extension_eta L met f tree over =
    let shape = f.1.1.0 in
    let parts = f.1.1.2 in
    let here = the.here L in
    let bound = cubes L f.0 in
    let on = again_on_shape here (the.I L) (the.P L) (the.Q L) bound shape in
    let face = again_on_face here (the.I L) (the.P L) (the.Q L) bound shape in
    let up = again_outside here (the.I L) (the.P L) (the.Q L) bound shape in (
      f.0,
      (
        f.1.0,
        (
          shape,
          tt,
          (
            parts.0,
            (
              parts.1.0,
              (
                (
                  (again_shape here (the.I L) (the.P L) (the.Q L) bound shape, refl),
                  again_true here (the.I L) (the.P L) (the.Q L) bound shape [],
                  (on (the.A L) parts.0, (face (the.X L) parts.1.0, (up (the.F L) f.1.0, tt))),
                ),
                tt,
              ),
            ),
          ),
        ),
        f.1.1,
      ),
    )

pub face : RowKeeps row.Face
face L met f holds on tree over =
    let shape = f.1.1.0 in
    let parts = f.1.1.2 in
    let so = true_at (the.here L) (the.I L) (the.P L) (the.S L) (cubes L f.0) shape.cube_is.tree met.0 shape.tope_is holds.1.1 in
    let so_face = true_at (the.here L) (the.I L) (the.Q L) (the.S L) (cubes L f.0) shape.cube_is.tree met.0 shape.face_is on.1.1 in (
      f.0,
      (
        ((shape, met.0), so, (parts.0, (parts.1.0, (f.1.0, tt)))),
        at_face_good (the.here L) (the.I L) (the.P L) (the.S L) (cubes L f.0) shape.cube_is.tree met.0 (the.Q L) so so_face (the.X L) parts.1.0,
        at_point_good (the.here L) (the.I L) (the.P L) (the.S L) (cubes L f.0) shape.cube_is.tree met.0 so (the.A L) parts.0,
      ),
    )

pub rec_or_left : RowKeeps row.RecOrLeft
rec_or_left L met rec holds tree over =
    let parts = rec.1.0.2 in (
      rec.0,
      (
        rec.1.0,
        narrowed (with_tope (the.P L) (the.here L)) (the.here L) (cubes L rec.0) refl
            (λ v allowed. both_so ((the.here L).allows v) (is_true (binders_in (the.here L).scope) v (the.P L)) allowed.allowed (holds.1.1 v allowed)) (the.X L) parts.1.0,
        rec.1.1,
      ),
    )

pub rec_or_right : RowKeeps row.RecOrRight
rec_or_right L met rec holds tree over =
    let parts = rec.1.0.2 in (
      rec.0,
      (
        rec.1.0,
        narrowed (with_tope (the.Q L) (the.here L)) (the.here L) (cubes L rec.0) refl
            (λ v allowed. both_so ((the.here L).allows v) (is_true (binders_in (the.here L).scope) v (the.Q L)) allowed.allowed (holds.1.1 v allowed)) (the.Y L) parts.1.1.0,
        rec.1.1,
      ),
    )

pub rec_or_eta : RowKeeps row.RecOrEta
rec_or_eta L met z either tree over =
    let under : (tope : Tree) → IsGood (with_tope tope (the.here L)) (the.Z L) = λ tope. narrowed (the.here L) (with_tope tope (the.here L)) (cubes L z.0) refl
    (λ v allowed. first_so ((the.here L).allows v) (is_true (binders_in (the.here L).scope) v tope) allowed.allowed) (the.Z L) z.1.0 in
    (z.0, (z.1.0, (either.1.0, either.1.1, (z.1.1, (under (the.P L), (under (the.Q L), tt)))), z.1.1))

pub rec_bottom_eta : RowKeeps row.RecBottomEta
rec_bottom_eta L met x never tree over =
    (x.0, (x.1.0, (refl, (λ v allowed. absurd (true≢false (sym (never.1.1 v allowed)))), (x.1.1, tt)), x.1.1))

pub point_replacement : RowKeeps row.PointReplacement
point_replacement L met x equal holds tree over =
    let here = the.here L in
    let bound = cubes L equal.0 in
    let is = x.0.0.1.tree in
    let so = true_at here (the.I L) (the.P L) (the.S L) bound is equal.1.0.0 x.0.1 holds.1.1 in
    let there = true_at_equal here (the.I L) (the.P L) (the.S L) (the.T L) so equal.1.1 in
    let put = at_point_good here (the.I L) (the.P L) (the.S L) bound is equal.1.0.0 so in
    (equal.0, (put (the.X L) x.1.0, at_point_good here (the.I L) (the.P L) (the.T L) bound is equal.1.0.1 there (the.X L) x.1.0, put (the.A L) x.1.1))
