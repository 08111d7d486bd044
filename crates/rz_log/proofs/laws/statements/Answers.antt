use Rattle.rz_log.proofs.Saying.{said_is}
use Rattle.rz_log.proofs.laws.statements.Goals as goal

pub returns : goal.returns
returns c = said_is
