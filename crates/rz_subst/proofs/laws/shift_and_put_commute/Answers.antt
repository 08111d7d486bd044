use Rattle.rz_rules.proofs.Substitution.{shift-put_above, shift-put_below}
use Rattle.rz_subst.proofs.laws.shift_and_put_commute.Goals as goal

pub returns-clause-above : goal.returns-clause-above
returns-clause-above c = shift-put_above

pub returns-clause-below : goal.returns-clause-below
returns-clause-below c = shift-put_below
