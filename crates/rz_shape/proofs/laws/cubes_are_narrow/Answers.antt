use Rattle.rz_shape.proofs.Readings.{cube_leaves, cube_sort}
use Rattle.rz_shape.proofs.laws.cubes_are_narrow.Goals as goal

pub returns : goal.returns
returns c = record { cube = cube_sort; narrow = cube_leaves }
