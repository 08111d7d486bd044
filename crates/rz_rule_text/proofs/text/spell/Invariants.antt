use Rattle.std.proofs.Common.{length}
use Rattle.rz_rule_text.proofs.Whole.{IsSpelling}
use Rattle.rz_rule_text.proofs.text.spell.Given as goal

abbrev pub invariant-loop-symbol : goal.invariant-loop-symbol
invariant-loop-symbol l = IsSpelling l.fn.pool.nodes l.pool.nodes l.text l.left l.letters l.name l.stack

abbrev pub decreases-loop-symbol : goal.decreases-loop-symbol
decreases-loop-symbol l = length l.left
