use Rattle.std.proofs.Common.{◌≡◌, map}
use Rattle.rz_rules.specs.declared.coordinates.Coord.TheVariants.{Of}
use Rattle.rz_cube.proofs.points.variable_coordinates.Given as goal

abbrev pub invariant-loop-path : goal.invariant-loop-path
invariant-loop-path l = l.list ≡ map (λ path. Of l.variable path) l.yielded
