use Rattle.std.proofs.Common.{length, nat_eq}
use Rattle.std.specs.HashMap.{get}
use Rattle.rz_pool.proofs.Copying.{IsCopying}
use Rattle.rz_pool.proofs.pool.Pool.copy_parts.Given as goal

abbrev pub invariant-loop-part : goal.invariant-loop-part
invariant-loop-part l = IsCopying l.self.nodes l.id (get nat_eq l.copies) l.initial.to.nodes l.to.nodes l.parts.items

abbrev pub decreases-loop-part : goal.decreases-loop-part
decreases-loop-part l = length l.parts.items
