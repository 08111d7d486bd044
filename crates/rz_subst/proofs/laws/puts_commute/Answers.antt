use Rattle.rz_rules.proofs.Substitution.{put-put}
use Rattle.rz_subst.proofs.laws.puts_commute.Goals as goal

pub returns : goal.returns
returns c = put-put
