use Rattle.rz_shape.proofs.Readings.{point_of}
use Rattle.rz_shape.proofs.laws.points_are_of_their_cubes.Goals as goal

pub returns : goal.returns
returns c = point_of
