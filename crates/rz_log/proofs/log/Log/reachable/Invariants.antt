use Rattle.std.specs.Ordering.{nat_cmp}
use Rattle.std.specs.BTreeSet.{contains}
use Rattle.rz_log.proofs.Reaching.{IsListing, bound}
use Rattle.rz_log.proofs.log.Log.reachable.Given as goal

abbrev pub invariant-loop-step : goal.invariant-loop-step
invariant-loop-step l = IsListing l.self l.roots (contains nat_cmp l.waiting) l.rising.items

abbrev pub decreases-loop-step : goal.decreases-loop-step
decreases-loop-step l = bound l.self l.rising.items
