use Rattle.std.proofs.Common.{◌≡◌, ◌≤◌}
use Rattle.rz_tope_proof.specs.Order.{how_many, is_below}
use Rattle.rz_tope_search.specs.Table.{order_of}
use Rattle.rz_tope_search.proofs.table.Table.rank.Given as goal

abbrev pub invariant-loop-other : goal.invariant-loop-other
invariant-loop-other l = record {
  is : l.rank ≡ how_many (λ y. is_below (order_of l.self) y l.place) l.other;
  small : l.rank ≤ l.other;
}
