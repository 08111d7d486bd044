use Rattle.std.proofs.Common.{length, nat_eq}
use Rattle.std.specs.HashMap.{get}
use Rattle.rz_pool.specs.Pool.{Grows}
use Rattle.rz_cube.specs.Cached.{IsPoints}
use Rattle.rz_cube.proofs.Caching.{IsCaching}
use Rattle.rz_tope.specs.Tope.{HasAnswer, list_of}
use Rattle.rz_tope.proofs.occurrences.compared_with_cubes.Given as goal

-- the ids that are left are still to be cached, and the pool grew
abbrev pub invariant-loop-part : goal.invariant-loop-part
invariant-loop-part l = record {
  points : IsPoints l.pool.nodes l.points;
  grows : Grows l.initial.pool.nodes l.pool.nodes;
  caching : IsCaching l.initial.pool.nodes l.tope (HasAnswer list_of l.pool.nodes l.entries l.points (get nat_eq l.table)) l.parts.items;
}

abbrev pub decreases-loop-part : goal.decreases-loop-part
decreases-loop-part l = length l.parts.items
