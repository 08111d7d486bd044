use Rattle.std.proofs.Common.{◌≡◌, take}
use Rattle.rz_tope_proof.specs.Order.{rank}
use Rattle.rz_tope_proof.specs.Ranks.{ranks_from}
use Rattle.rz_tope_search.specs.Table.{order_of}
use Rattle.rz_tope_search.proofs.solving.ranks.Given as goal

abbrev pub invariant-loop-position : goal.invariant-loop-position
invariant-loop-position l = l.ranks ≡ ranks_from (rank l.places.count (order_of l.table)) 2 (take l.position l.list)
