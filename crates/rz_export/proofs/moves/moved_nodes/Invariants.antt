use Rattle.std.proofs.Common.{◌≡◌, Some, slice_get, take}
use Rattle.std.specs.List.{AllZip}
use Rattle.rz_rules.specs.declared.nodes.Node.{Node}
use Rattle.rz_export.specs.Moves.{IsMovedNode}
use Rattle.rz_export.proofs.moves.moved_nodes.Given as goal

abbrev pub invariant-loop-id : goal.invariant-loop-id
invariant-loop-id l = AllZip (λ id new. (old : Node) × (slice_get l.pool.nodes id ≡ Some old) × IsMovedNode l.ids old new) (take l.id-index l.ids) l.nodes
