use Rattle.std.proofs.Common.{◌≡◌, ℕ, ◌++◌, length, map, Some}
use Rattle.rz_rule_text.proofs.letters.expect.Given as goal

abbrev pub invariant-loop-last : goal.invariant-loop-last
invariant-loop-last l = map (λ (id : ℕ). Some id) l.left ++ l.expected.items ≡ map (λ (id : ℕ). Some id) l.fn.ids ++ l.fn.expected.items

abbrev pub decreases-loop-last : goal.decreases-loop-last
decreases-loop-last l = length l.left
