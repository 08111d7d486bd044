use Rattle.rz_rules.proofs.Substitution.{shift-zero, weakened-none, weakened-weakened, weakened-shift}
use Rattle.rz_subst.proofs.laws.weakening_adds_up.Goals as goal

pub returns-clause-shift_zero : goal.returns-clause-shift_zero
returns-clause-shift_zero c = shift-zero

pub returns-clause-nothing : goal.returns-clause-nothing
returns-clause-nothing c = weakened-none

pub returns-clause-twice : goal.returns-clause-twice
returns-clause-twice c = weakened-weakened

pub returns-clause-shifts : goal.returns-clause-shifts
returns-clause-shifts c = weakened-shift
