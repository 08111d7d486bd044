use Rattle.rz_print.proofs.Alone.{one_tree}
use Rattle.rz_print.proofs.laws.one_term.Goals as goal

pub returns : goal.returns
returns c = one_tree c.one_reading.ensures c.one_reading-2.ensures.steps
