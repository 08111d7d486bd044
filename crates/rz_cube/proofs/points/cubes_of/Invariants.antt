use Rattle.std.proofs.Common.{◌≡◌, ◌<◌, ◌++◌, length, map}
use Rattle.rz_rules.specs.Tree.{tree_of}
use Rattle.rz_rules.specs.Cube.{cubes_of}
use Rattle.rz_pool.specs.Cubes.{AreCubes}
use Rattle.rz_cube.proofs.points.cubes_of.Given as goal

-- the cubes so far, and those of the context that is left
abbrev pub invariant-loop-last : goal.invariant-loop-last
invariant-loop-last l = record {
  there : l.at < length l.pool.nodes;
  live : AreCubes l.pool.nodes l.cubes.items;
  cubes : map (tree_of l.pool.nodes) l.cubes.items ++ cubes_of (tree_of l.pool.nodes l.at) ≡ cubes_of (tree_of l.pool.nodes l.context);
}

abbrev pub decreases-loop-last : goal.decreases-loop-last
decreases-loop-last l = l.at
