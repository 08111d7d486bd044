use Rattle.std.proofs.Common.{drop}
use Rattle.rz_rule_text.proofs.Found.{IsUnderway}
use Rattle.rz_rule_text.proofs.letters.pass_all.Given as goal

-- the walk has come to the rest of the text
abbrev pub invariant-loop-symbol : goal.invariant-loop-symbol
invariant-loop-symbol l = IsUnderway l.pool.nodes l.text l.initial.walk (drop l.symbol-index l.text) l.walk
