use Rattle.std.proofs.Common.{◌≡◌, ℕ, ◌+◌, ◌<◌, length, Some}
use Rattle.std.specs.Prelude.{slice_get}
use Rattle.rz_rules.specs.declared.coordinates.Coord.{Coord}
use Rattle.rz_rules.specs.declared.coordinates.Coord.TheVariants as coordinate
use Rattle.rz_rules.specs.Tree.{tree_of}
use Rattle.rz_rules.specs.Cube.{cube_two}
use Rattle.rz_pool.specs.Pool.{Grows}
use Rattle.rz_tope_normal.proofs.Placing.{PointIs}
use Rattle.rz_tope_normal.proofs.places.places.Given as goal

-- the points of the ends and of the coordinates so far are there
abbrev pub invariant-loop-position : goal.invariant-loop-position
invariant-loop-position l = record {
  many : length l.points ≡ 10;
  there : l.interval < length l.pool.nodes;
  interval : tree_of l.pool.nodes l.interval ≡ cube_two;
  zero : PointIs l.pool.nodes l.points 0 coordinate.Zero;
  one : PointIs l.pool.nodes l.points 1 coordinate.One;
  each : (k : ℕ) (c : Coord) → k < l.position → slice_get l.list k ≡ Some c → PointIs l.pool.nodes l.points (k + 2) c;
  grows : Grows l.fn.pool.nodes l.pool.nodes;
}
