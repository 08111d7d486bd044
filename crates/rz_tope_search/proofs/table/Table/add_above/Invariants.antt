use Rattle.std.proofs.Common.{◌≡◌, ℕ, ◌<◌, ◌&&◌}
use Rattle.std.specs.Prelude.{◌==◌, ◌||◌, nat_lt}
use Rattle.rz_tope_proof.specs.Place.{IsPlaces}
use Rattle.rz_tope_proof.specs.Proving.{Extends}
use Rattle.rz_tope_search.specs.Showing.{Setting, Shows, ProvesTable, places_tope}
use Rattle.rz_tope_search.specs.Table.{order_of}
use Rattle.rz_tope_search.proofs.table.Table.add_above.Given as goal

abbrev pub invariant-loop-high : goal.invariant-loop-high
invariant-loop-high l = record {
  order : (x y : ℕ) → x < l.places.count → y < l.places.count → order_of l.self x y
      ≡ (order_of l.initial.self x y || ((x == l.low) && order_of l.before l.second y && nat_lt y l.high));
  extends : Extends l.initial.proof l.proof;
  proves : (at : Setting) → IsPlaces at.nodes at.context l.places → ProvesTable at l.initial.proof l.places l.before
      → Shows at l.initial.proof l.step (places_tope at.nodes l.places l.low l.second)
      → ProvesTable at l.initial.proof l.places l.initial.self → ProvesTable at l.proof l.places l.self;
}
