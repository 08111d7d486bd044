use Rattle.std.proofs.Common.{◌≡◌, ℕ, ◌<◌, ◌&&◌}
use Rattle.std.specs.Prelude.{◌==◌, ◌||◌, nat_lt}
use Rattle.rz_tope_proof.specs.Place.{IsPlaces}
use Rattle.rz_tope_proof.specs.Proving.{Extends}
use Rattle.rz_tope_search.specs.Showing.{Setting, ProvesTable}
use Rattle.rz_tope_search.specs.Table.{order_of}
use Rattle.rz_tope_search.proofs.table.Table.new.Given as goal

abbrev pub invariant-loop-place : goal.invariant-loop-place
invariant-loop-place l = record {
  order : (x y : ℕ) → x < 10 → y < 10 → order_of l.table x y
      ≡ (((x == y) && nat_lt x l.place) || ((x == 0) && nat_lt y l.place) || ((y == 1) && nat_lt x l.place));
  extends : Extends l.initial.proof l.proof;
  proves : (at : Setting) → IsPlaces at.nodes at.context l.places → ProvesTable at l.proof l.places l.table;
}
