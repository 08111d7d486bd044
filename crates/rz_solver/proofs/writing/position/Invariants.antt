use Rattle.std.proofs.Common.{◌≡◌, ℕ, ◌<◌, get_or}
use Rattle.rz_solver.proofs.writing.position.Given as goal

abbrev pub invariant-loop-position : goal.invariant-loop-position
invariant-loop-position l = (k d : ℕ) → k < l.position → get_or l.list k d ≡ l.number → ⊥
