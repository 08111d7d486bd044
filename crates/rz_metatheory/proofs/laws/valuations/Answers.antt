use Rattle.rz_rules.specs.Cube.{cubes_of}
use Rattle.rz_metatheory.proofs.RankLists.{entails_valid, large_refutation}
use Rattle.rz_metatheory.proofs.SmallOrders.{numbered, numbers_refute, small_refutation, valid_entails}
use Rattle.rz_metatheory.proofs.laws.valuations.Goals as goal

pub returns-clause-points : goal.returns-clause-points
returns-clause-points c = large_refutation

pub returns-clause-ranks : goal.returns-clause-ranks
returns-clause-ranks c = λ context tope sequent refuted.
    small_refutation context tope (numbered refuted.0 (cubes_of context)) (numbers_refute context tope sequent refuted.0 refuted.1)

pub returns-clause-valid : goal.returns-clause-valid
returns-clause-valid c = λ context tope sequent. (valid_entails context tope sequent, entails_valid context tope)
