use Rattle.rz_reduction.proofs.Coordinates.{occurring_are}
use Rattle.rz_reduction.proofs.laws.coordinates.Goals as goal

pub returns : goal.returns
returns c = occurring_are
