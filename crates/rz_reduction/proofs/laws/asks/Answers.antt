use Rattle.rz_reduction.proofs.Asks.{at_most_three}
use Rattle.rz_reduction.proofs.laws.asks.Goals as goal

pub returns : goal.returns
returns c = at_most_three
