use Rattle.std.proofs.Common.{[], ◌∷◌, ◌++◌, nat_eq, subst}
use Rattle.std.specs.HashMap.{get}
use Rattle.rz_cube.specs.Point.{HasPaths}
use Rattle.rz_cube.proofs.Caching.{IsCaching, IsCaching-start, IsCaching-pop, last_kids}
use Rattle.rz_cube.proofs.PathTables.{paths_here, paths_others}
use Rattle.rz_cube.proofs.paths.paths.Goals as goal
use Rattle.rz_cube.proofs.paths.paths.Goals.{In-Some, In_ok-insert}

-- the cubes before the loop's step, with the last one apart
caching : (c : In-Some) → IsCaching c.args.pool.now.nodes c.args.cube (HasPaths c.args.pool.now.nodes (get nat_eq c.loop-part.table)) (c.pop.new.self.items ++ c.in-Some.part ∷ [])
caching c = subst (IsCaching c.args.pool.now.nodes c.args.cube (HasPaths c.args.pool.now.nodes (get nat_eq c.loop-part.table))) c.in-Some.ensures.items c.loop-part.invariant

after : (c : In_ok-insert) → IsCaching c.args.pool.now.nodes c.args.cube (HasPaths c.args.pool.now.nodes (get nat_eq c.insert.new.self)) c.pop.new.self.items
after c =
    let ns = c.args.pool.now.nodes in
    IsCaching-pop ns c.args.cube (HasPaths ns (get nat_eq c.loop-part.table)) c.pop.new.self.items c.in-Some.part
    (subst (IsCaching ns c.args.cube (HasPaths ns (get nat_eq c.loop-part.table))) c.in-Some.ensures.items c.loop-part.invariant)
    (HasPaths ns (get nat_eq c.insert.new.self))
    (paths_here ns c.in-Some.part c.in_ok-list.list c.in_ok-list.ensures (get nat_eq c.loop-part.table) (get nat_eq c.insert.new.self) c.in_ok-insert.ensures.updates.0)
    (paths_others ns c.in-Some.part c.in_ok-list.list c.in_ok-list.ensures (get nat_eq c.loop-part.table) (get nat_eq c.insert.new.self) c.in_ok-insert.ensures.updates.0)

pub loop-part-init : goal.loop-part-init
loop-part-init c = IsCaching-start c.args.pool.now.nodes c.args.cube (HasPaths c.args.pool.now.nodes (get nat_eq c.new-table.result)) c.in_ok-parts.parts.items c.in_ok-parts.ensures

pub paths_by_kids-requires-clause-kids : goal.paths_by_kids-requires-clause-kids
paths_by_kids-requires-clause-kids c node at =
    last_kids c.args.pool.now.nodes c.args.cube (HasPaths c.args.pool.now.nodes (get nat_eq c.loop-part.table)) c.pop.new.self.items c.in-Some.part
    (caching (goal.at.paths_by_kids-requires-clause-kids c).In-Some) node at

pub loop-part-preserved-in_ok-insert : goal.loop-part-preserved-in_ok-insert
loop-part-preserved-in_ok-insert c = after (goal.at.loop-part-preserved-in_ok-insert c).In_ok-insert

pub loop-part-preserved : goal.loop-part-preserved
loop-part-preserved c = after (goal.at.loop-part-preserved c).In_ok-insert
