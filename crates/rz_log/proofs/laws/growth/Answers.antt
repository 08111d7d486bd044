use Rattle.rz_log.proofs.Worlds.{says_grown}
use Rattle.rz_log.proofs.laws.growth.Goals as goal

pub returns : goal.returns
returns c old new step says sound grows there = says_grown old new sound grows step says there
