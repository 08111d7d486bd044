use Rattle.rz_shape.proofs.Readings.{tope_over}
use Rattle.rz_shape.proofs.laws.topes_are_over_their_cubes.Goals as goal

pub returns : goal.returns
returns c = tope_over
