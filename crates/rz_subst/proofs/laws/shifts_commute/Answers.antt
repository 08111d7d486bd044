use Rattle.rz_rules.proofs.Substitution.{shift-shift, shift-shift_other}
use Rattle.rz_subst.proofs.laws.shifts_commute.Goals as goal

pub returns-clause-one_space : goal.returns-clause-one_space
returns-clause-one_space c = shift-shift

pub returns-clause-two_spaces : goal.returns-clause-two_spaces
returns-clause-two_spaces c = shift-shift_other
