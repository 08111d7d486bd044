use Rattle.rz_rules.specs.Structural.{has}
use Rattle.rz_metatheory.proofs.Derived.{derived_good}
use Rattle.rz_metatheory.proofs.Free.{good_free}
use Rattle.rz_metatheory.proofs.Scoping.{statement_scoped}
use Rattle.rz_metatheory.proofs.laws.scoping.Goals as goal

pub returns-clause-judgments : goal.returns-clause-judgments
returns-clause-judgments c = λ statement derives. statement_scoped statement (derived_good statement derives)

pub returns-clause-indices : goal.returns-clause-indices
returns-clause-indices c = λ context term type space derives.
    let good = derived_good (has context term type) derives in
    good_free context term good.0 good.1.0 space
