use Rattle.std.proofs.Common.{◌≡◌, length}
use Rattle.rz_pool.specs.Pool.{Grows}
use Rattle.rz_context.specs.Knowledge.{IsKnown, IsCaching, Caches}
use Rattle.rz_context.proofs.knowledge.Knowledge.cache_parts.Given as goal

-- the ids that are left are still to be cached, and the pool grew
abbrev pub invariant-loop-part : goal.invariant-loop-part
invariant-loop-part l = record {
  known : IsKnown l.pool.nodes l.self;
  summaries : l.self.summaries ≡ l.initial.self.summaries;
  grows : Grows l.initial.pool.nodes l.pool.nodes;
  caching : IsCaching l.initial.pool.nodes l.id (Caches l.self l.context) l.parts.items;
}

abbrev pub decreases-loop-part : goal.decreases-loop-part
decreases-loop-part l = length l.parts.items
