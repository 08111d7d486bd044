use Rattle.std.proofs.Common.{length}
use Rattle.rz_lemmas.proofs.Slots.{IsSorting}
use Rattle.rz_lemmas.proofs.letters.sorts_in.Given as goal

abbrev pub invariant-loop-symbol : goal.invariant-loop-symbol
invariant-loop-symbol l = IsSorting l.text l.left l.sorts

abbrev pub decreases-loop-symbol : goal.decreases-loop-symbol
decreases-loop-symbol l = length l.left
