use Rattle.rz_log.proofs.Worlds.{mark_stays}
use Rattle.rz_log.proofs.laws.marks.Goals as goal

pub returns : goal.returns
returns c old new mark grows within below = mark_stays old new mark grows within below
