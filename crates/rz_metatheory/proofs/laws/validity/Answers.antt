use Rattle.rz_rules.proofs.Validity.{is_valid_iff}
use Rattle.rz_rules.specs.Structural.{holds}
use Rattle.rz_metatheory.proofs.Derived.{derived_good}
use Rattle.rz_metatheory.proofs.RankLists.{entails_valid}
use Rattle.rz_metatheory.proofs.laws.validity.Goals as goal

pub returns-clause-valid : goal.returns-clause-valid
returns-clause-valid c = λ context tope derives. entails_valid context tope (derived_good (holds context tope) derives).1.1

pub returns-clause-numbers : goal.returns-clause-numbers
returns-clause-numbers c = λ context tope derives. (derived_good (holds context tope) derives).1.1

pub returns-clause-test : goal.returns-clause-test
returns-clause-test c = λ context tope derives.
    (is_valid_iff context tope).1 (entails_valid context tope (derived_good (holds context tope) derives).1.1)
