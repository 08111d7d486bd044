use Rattle.std.proofs.Common.{length}
use Rattle.rz_pool.specs.Pool.{Grows}
use Rattle.rz_cube.specs.Cached.{IsPoints, Caches}
use Rattle.rz_cube.proofs.Caching.{IsCaching}
use Rattle.rz_cube.proofs.points.Points.cache_parts.Given as goal

-- the ids that are left are still to be cached, and the pool grew
abbrev pub invariant-loop-part : goal.invariant-loop-part
invariant-loop-part l = record {
  points : IsPoints l.pool.nodes l.self;
  grows : Grows l.initial.pool.nodes l.pool.nodes;
  caching : IsCaching l.initial.pool.nodes l.tree (Caches l.pool.nodes l.entries l.self) l.parts.items;
}

abbrev pub decreases-loop-part : goal.decreases-loop-part
decreases-loop-part l = length l.parts.items
