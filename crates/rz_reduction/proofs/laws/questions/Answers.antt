use Rattle.rz_rules.proofs.Entailment.{entailment_valid, entailment_invalid, entailment_over}
use Rattle.rz_reduction.proofs.laws.questions.Goals as goal

pub returns-clause-valid : goal.returns-clause-valid
returns-clause-valid c = entailment_valid

pub returns-clause-invalid : goal.returns-clause-invalid
returns-clause-invalid c = entailment_invalid

pub returns-clause-wide : goal.returns-clause-wide
returns-clause-wide c = entailment_over
