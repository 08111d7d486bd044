use Rattle.std.proofs.Common.{ℕ, ◌<◌, get_or}
use Rattle.rz_tope_search.specs.declared.branches.Waiting.{Waiting}
use Rattle.rz_tope_search.specs.Branch.{IsTrueWaiting}
use Rattle.rz_tope_search.specs.Status.{holds_in}
use Rattle.rz_tope_search.proofs.search.undecided.Given as goal

abbrev pub invariant-loop-place : goal.invariant-loop-place
invariant-loop-place l = (k : ℕ) (d : Waiting) → k < l.place → IsTrueWaiting (holds_in l.list) (get_or l.branch.waiting.items k d)
