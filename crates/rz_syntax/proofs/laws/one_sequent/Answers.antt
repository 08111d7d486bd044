use Rattle.rz_syntax.specs.declared.grammar.Rule.TheVariants as rule
use Rattle.rz_syntax.proofs.Once.{one_script, one_sequent}
use Rattle.rz_syntax.proofs.laws.one_sequent.Goals as goal

pub returns-clause-steps : goal.returns-clause-steps
returns-clause-steps c = one_script rule.Sequent

pub returns-clause-sequents : goal.returns-clause-sequents
returns-clause-sequents c = one_sequent
