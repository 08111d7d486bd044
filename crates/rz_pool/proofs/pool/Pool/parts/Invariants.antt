use Rattle.std.specs.Ordering.{nat_cmp}
use Rattle.std.specs.BTreeSet.{contains}
use Rattle.rz_pool.proofs.Listing.{bound, IsListing}
use Rattle.rz_pool.proofs.pool.Pool.parts.Given as goal

abbrev pub invariant-loop-part : goal.invariant-loop-part
invariant-loop-part l = IsListing l.self.nodes l.id (contains nat_cmp l.waiting) l.parts.items

abbrev pub decreases-loop-part : goal.decreases-loop-part
decreases-loop-part l = bound l.id l.parts.items
