use Rattle.std.specs.BTreeSet.{contains}
use Rattle.std.specs.Ordering.{nat_cmp}
use Rattle.rz_pool.proofs.Listing.{bound}
use Rattle.rz_context.specs.Knowledge.{Caches}
use Rattle.rz_context.proofs.Uncached.{IsListing}
use Rattle.rz_context.proofs.knowledge.Knowledge.uncached_parts.Given as goal

abbrev pub invariant-loop-part : goal.invariant-loop-part
invariant-loop-part l = IsListing l.pool.nodes l.id (Caches l.self l.context) (contains nat_cmp l.waiting) l.parts.items

abbrev pub decreases-loop-part : goal.decreases-loop-part
decreases-loop-part l = bound l.id l.parts.items
