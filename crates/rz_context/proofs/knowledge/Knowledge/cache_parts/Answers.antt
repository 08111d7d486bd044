use Rattle.std.proofs.Common.{◌<◌, [], ◌∷◌, ◌++◌, length, arith, subst, ◌∙◌}
use Rattle.rz_pool.proofs.Nodes.{Grows-trans, length-Grows}
use Rattle.rz_context.specs.Knowledge.{IsCaching, Caches}
use Rattle.rz_context.proofs.Growing.{old_node}
use Rattle.rz_context.proofs.Noting.{IsCaching-pop, last_kids, last_live}
use Rattle.rz_context.proofs.knowledge.Knowledge.cache_parts.Goals as goal
use Rattle.rz_context.proofs.knowledge.Knowledge.cache_parts.Goals.{In-Some}

-- the ids before the loop's step, with the last one apart
caching : (c : In-Some) → IsCaching c.args.pool.now.nodes c.args.id (Caches c.loop-part.self c.args.context) (c.pop.new.self.items ++ c.in-Some.part ∷ [])
caching c = subst (IsCaching c.args.pool.now.nodes c.args.id (Caches c.loop-part.self c.args.context)) c.in-Some.ensures.items c.loop-part.invariant.caching

live : (c : In-Some) → c.in-Some.part < length c.args.pool.now.nodes
live c = last_live c.args.pool.now.nodes c.args.id (Caches c.loop-part.self c.args.context) c.pop.new.self.items c.in-Some.part (caching c)

pub cache-requires-clause-there : goal.cache-requires-clause-there
cache-requires-clause-there c = omega (arith, live (goal.at.cache-requires-clause-there c).In-Some, length-Grows c.args.pool.now.nodes c.loop-part.pool.nodes c.loop-part.invariant.grows)

pub cache-requires-clause-kids : goal.cache-requires-clause-kids
cache-requires-clause-kids c node at =
    let here = (goal.at.cache-requires-clause-kids c).In-Some in
    last_kids c.args.pool.now.nodes c.args.id (Caches c.loop-part.self c.args.context) c.pop.new.self.items c.in-Some.part (caching here)
    node (old_node c.args.pool.now.nodes c.loop-part.pool.nodes c.loop-part.invariant.grows c.in-Some.part node (live here) at)

pub loop-part-preserved : goal.loop-part-preserved
loop-part-preserved c =
    let old = c.args.pool.now.nodes in
    let cached = c.in_ok-cache.ensures in
    record {
      known = cached.known;
      summaries = cached.summaries ∙ c.loop-part.invariant.summaries;
      grows = Grows-trans old c.loop-part.pool.nodes c.cache.new.pool.nodes c.loop-part.invariant.grows cached.grows;
      caching = IsCaching-pop old c.args.id (Caches c.loop-part.self c.args.context) c.pop.new.self.items c.in-Some.part (caching (goal.at.loop-part-preserved c).In-Some)
          (Caches c.cache.new.self c.args.context) cached.cached cached.kept;
    }
