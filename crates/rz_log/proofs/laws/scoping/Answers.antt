use Rattle.rz_metatheory.proofs.Scoping.{statement_scoped}
use Rattle.rz_log.proofs.Derived.{good_at}
use Rattle.rz_log.proofs.laws.scoping.Goals as goal

pub returns : goal.returns
returns c w step says sound there = statement_scoped says (good_at w step says sound there)
