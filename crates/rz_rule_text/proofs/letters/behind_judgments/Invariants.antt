use Rattle.std.proofs.Common.{◌≡◌, length}
use Rattle.rz_rule_text.specs.Finding.{last_words}
use Rattle.rz_rule_text.proofs.letters.behind_judgments.Given as goal

-- the end of the rest is that of the whole
abbrev pub invariant-loop-symbol : goal.invariant-loop-symbol
invariant-loop-symbol l = last_words l.end l.left ≡ last_words l.text l.text

abbrev pub decreases-loop-symbol : goal.decreases-loop-symbol
decreases-loop-symbol l = length l.left
