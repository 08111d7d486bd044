use Rattle.std.proofs.Common.{[], ◌∷◌, refl}
use Rattle.rz_tope_tests.proofs.Computing.{claims_below}
use Rattle.rz_tope_tests.proofs.tables.cases_file.Goals as goal

pub cases-requires : goal.cases-requires
cases-requires c = claims_below 11 ((_, 10) ∷ (_, 6) ∷ []) refl
