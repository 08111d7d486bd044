use Rattle.std.proofs.Common.{◌≡◌, ◌<◌, length, drop}
use Rattle.rz_rules.specs.Tree.{tree_of}
use Rattle.rz_pool.specs.Pool.{Grows}
use Rattle.rz_rules.specs.Tope.{point_variable}
use Rattle.rz_rules.specs.Coordinate.{part_at}
use Rattle.rz_tope_normal.proofs.points.part_of.Given as goal

-- the point at the end of the ways that are left is the one that is asked for
abbrev pub invariant-loop-way : goal.invariant-loop-way
invariant-loop-way l = record {
  live : l.point < length l.pool.nodes;
  tree : part_at (tree_of l.pool.nodes l.point) (drop l.way-index l.way-items) ≡ part_at (point_variable l.index) l.path;
  grows : Grows l.fn.pool.nodes l.pool.nodes;
}
