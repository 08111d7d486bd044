use Rattle.std.proofs.Common.{◌≡◌, ℕ, ◌||◌, take}
use Rattle.std.specs.List.{list_any}
use Rattle.std.specs.Ordering.{nat_cmp, eq_by_cmp}
use Rattle.std.specs.BTreeSet.{contains}
use Rattle.rz_pool.proofs.waiting.add_all.Given as goal

abbrev pub invariant-loop-number : goal.invariant-loop-number
invariant-loop-number l = (q : ℕ) → contains nat_cmp l.waiting q ≡ (contains nat_cmp l.initial.waiting q || list_any (eq_by_cmp nat_cmp q) (take l.number-index l.numbers))
