use Rattle.rz_log.proofs.Derived.{derives_at}
use Rattle.rz_log.proofs.laws.derivation.Goals as goal

pub returns : goal.returns
returns c w step says sound there = derives_at w step says sound there
