use Rattle.rz_lemmas.specs.Behind.{IsWalking}
use Rattle.rz_lemmas.proofs.places.cut.Given as goal

abbrev pub invariant-loop-left : goal.invariant-loop-left
invariant-loop-left l = IsWalking l.pool.nodes l.context l.number l.found l.left

abbrev pub decreases-loop-left : goal.decreases-loop-left
decreases-loop-left l = l.left
