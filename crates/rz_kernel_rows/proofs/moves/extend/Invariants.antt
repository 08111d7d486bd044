use Rattle.std.proofs.Common.{length}
use Rattle.rz_kernel_rows.proofs.Extending.{IsExtending}
use Rattle.rz_kernel_rows.proofs.moves.extend.Given as goal

abbrev pub invariant-loop-entry : goal.invariant-loop-entry
invariant-loop-entry l = IsExtending l.initial.pool.nodes l.pool.nodes l.change l.outer l.inner l.left l.context l.depth

abbrev pub decreases-loop-entry : goal.decreases-loop-entry
decreases-loop-entry l = length l.left
