use Rattle.rz_rule_text.proofs.Taking.{IsTaken}
use Rattle.rz_rule_text.proofs.text.take_known.Given as goal

abbrev pub invariant-loop-taken : goal.invariant-loop-taken
invariant-loop-taken l = IsTaken l.fn.trees.items l.taken l.trees.items l.kids l.known
