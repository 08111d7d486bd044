use Rattle.rz_rules.proofs.Substitution.{put-shift}
use Rattle.rz_subst.proofs.laws.put_after_shift.Goals as goal

pub returns : goal.returns
returns c = put-shift
