use Rattle.std.specs.Ordering.{nat_cmp}
use Rattle.std.specs.BTreeSet.{contains}
use Rattle.rz_export.proofs.Listing.{IsListing, bound}
use Rattle.rz_export.proofs.needs.parts_of.Given as goal

abbrev pub invariant-loop-id : goal.invariant-loop-id
invariant-loop-id l = IsListing l.pool.nodes l.named (contains nat_cmp l.waiting) l.rising.items

abbrev pub decreases-loop-id : goal.decreases-loop-id
decreases-loop-id l = bound l.pool.nodes l.rising.items
