use Rattle.std.proofs.Common.{◌<◌, [], ◌∷◌, ◌++◌, length, arith, subst}
use Rattle.rz_pool.proofs.Nodes.{Grows-same, Grows-trans, length-Grows}
use Rattle.rz_cube.specs.Cached.{Caches}
use Rattle.rz_cube.proofs.CachedPoints.{AreCubes-Grows, old_node}
use Rattle.rz_cube.proofs.Caching.{IsCaching, IsCaching-start, IsCaching-pop, last_live, last_kids}
use Rattle.rz_cube.proofs.points.Points.cache_parts.Goals as goal
use Rattle.rz_cube.proofs.points.Points.cache_parts.Goals.{In-Some}
use Rattle.std.proofs.Common.{refl}

-- the ids before the loop's step, with the last one apart
caching : (c : In-Some) → IsCaching c.args.pool.now.nodes c.args.tree (Caches c.loop-part.pool.nodes c.args.entries.now c.loop-part.self) (c.pop.new.self.items ++ c.in-Some.part ∷ [])
caching c = subst (IsCaching c.args.pool.now.nodes c.args.tree (Caches c.loop-part.pool.nodes c.args.entries.now c.loop-part.self)) c.in-Some.ensures.items c.loop-part.invariant.caching

live : (c : In-Some) → c.in-Some.part < length c.args.pool.now.nodes
live c = last_live c.args.pool.now.nodes c.args.tree (Caches c.loop-part.pool.nodes c.args.entries.now c.loop-part.self) c.pop.new.self.items c.in-Some.part (caching c)

pub loop-part-init : goal.loop-part-init
loop-part-init c = record {
  points = c.requires.points;
  grows = Grows-same c.args.pool.now.nodes c.args.pool.now.nodes refl;
  caching = IsCaching-start c.args.pool.now.nodes c.args.tree (Caches c.args.pool.now.nodes c.args.entries.now c.args.self.now) c.in_ok-parts.parts.items c.in_ok-parts.ensures;
}

pub cache-requires-clause-there : goal.cache-requires-clause-there
cache-requires-clause-there c = omega (arith, live (goal.at.cache-requires-clause-there c).In-Some, length-Grows c.args.pool.now.nodes c.loop-part.pool.nodes c.loop-part.invariant.grows)

pub cache-requires-clause-entries : goal.cache-requires-clause-entries
cache-requires-clause-entries c = AreCubes-Grows c.args.pool.now.nodes c.loop-part.pool.nodes c.loop-part.invariant.grows c.args.entries.now c.requires.entries

pub cache-requires-clause-kids : goal.cache-requires-clause-kids
cache-requires-clause-kids c node at =
    last_kids c.args.pool.now.nodes c.args.tree (Caches c.loop-part.pool.nodes c.args.entries.now c.loop-part.self) c.pop.new.self.items c.in-Some.part (caching (goal.at.cache-requires-clause-kids c).In-Some)
    node (old_node c.args.pool.now.nodes c.loop-part.pool.nodes c.loop-part.invariant.grows c.in-Some.part node (live (goal.at.cache-requires-clause-kids c).In-Some) at)

pub loop-part-preserved : goal.loop-part-preserved
loop-part-preserved c =
    let old = c.args.pool.now.nodes in
    let made = c.in_ok-cache.ensures in
    record {
      points = made.points;
      grows = Grows-trans old c.loop-part.pool.nodes c.cache.new.pool.nodes c.loop-part.invariant.grows made.grows;
      caching = IsCaching-pop old c.args.tree (Caches c.loop-part.pool.nodes c.args.entries.now c.loop-part.self) c.pop.new.self.items c.in-Some.part (caching (goal.at.loop-part-preserved c).In-Some)
          (Caches c.cache.new.pool.nodes c.args.entries.now c.cache.new.self) made.cached made.kept;
    }
