use Rattle.std.proofs.Common.{[], ◌∷◌, refl}
use Rattle.rz_tope_tests.proofs.Computing.{claims_below}
use Rattle.rz_tope_tests.proofs.tables.used_cases_file.Goals as goal

pub cases-requires : goal.cases-requires
cases-requires c = claims_below 11 ((_, 10) ∷ []) refl
