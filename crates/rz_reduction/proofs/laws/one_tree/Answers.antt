use Rattle.rz_rules.proofs.Same.{same_tree-Decides}
use Rattle.rz_reduction.proofs.laws.one_tree.Goals as goal

pub returns : goal.returns
returns c = same_tree-Decides
