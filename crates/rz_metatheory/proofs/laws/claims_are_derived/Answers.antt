use Rattle.rz_metatheory.proofs.Files.{claims_derived}
use Rattle.rz_metatheory.proofs.laws.claims_are_derived.Goals as goal

pub returns : goal.returns
returns c = claims_derived
