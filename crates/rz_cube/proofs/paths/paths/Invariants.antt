use Rattle.std.proofs.Common.{length, nat_eq}
use Rattle.std.specs.HashMap.{get}
use Rattle.rz_cube.specs.Point.{HasPaths}
use Rattle.rz_cube.proofs.Caching.{IsCaching}
use Rattle.rz_cube.proofs.paths.paths.Given as goal

-- the cubes that are left are still to be cached
abbrev pub invariant-loop-part : goal.invariant-loop-part
invariant-loop-part l = IsCaching l.pool.nodes l.cube (HasPaths l.pool.nodes (get nat_eq l.table)) l.parts.items

abbrev pub decreases-loop-part : goal.decreases-loop-part
decreases-loop-part l = length l.parts.items
