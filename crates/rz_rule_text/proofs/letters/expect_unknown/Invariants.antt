use Rattle.std.proofs.Common.{◌≡◌, ◌++◌, replicate, None}
use Rattle.rz_rule_text.proofs.letters.expect_unknown.Given as goal

abbrev pub invariant-loop-made : goal.invariant-loop-made
invariant-loop-made l = l.expected.items ≡ replicate l.made None ++ l.fn.expected.items
