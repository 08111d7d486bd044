use Rattle.rz_syntax.specs.declared.grammar.Rule.TheVariants as rule
use Rattle.rz_syntax.proofs.Once.{one_script, one_file}
use Rattle.rz_syntax.proofs.laws.one_reading.Goals as goal

pub returns-clause-steps : goal.returns-clause-steps
returns-clause-steps c = one_script rule.File

pub returns-clause-commands : goal.returns-clause-commands
returns-clause-commands c = one_file
