use Rattle.rz_metatheory.proofs.Derived.{derived_good}
use Rattle.rz_metatheory.proofs.laws.goodness.Goals as goal

pub returns : goal.returns
returns c = record { good = derived_good }
