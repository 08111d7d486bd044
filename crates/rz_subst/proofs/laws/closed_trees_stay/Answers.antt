use Rattle.rz_rules.proofs.Substitution.{shift-none_from, put-none_from}
use Rattle.rz_subst.proofs.laws.closed_trees_stay.Goals as goal

pub returns-clause-shift : goal.returns-clause-shift
returns-clause-shift c = shift-none_from

pub returns-clause-put : goal.returns-clause-put
returns-clause-put c = put-none_from
