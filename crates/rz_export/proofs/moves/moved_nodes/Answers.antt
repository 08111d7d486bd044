use Rattle.std.proofs.Common.{◌≡◌, ◌+◌, ℕ, Some, get_or, slice_get, take, sym, subst, arith}
use Rattle.std.specs.List.{AllZip}
use Rattle.std.proofs.lemmas.List.Elements.{Contains-get_or}
use Rattle.rz_rules.specs.declared.nodes.Node.{Node}
use Rattle.rz_export.specs.Moves.{IsMovedNode}
use Rattle.rz_export.proofs.Pushes.{zip_more}
use Rattle.rz_export.proofs.moves.moved_nodes.Goals as goal

pub moved_node-requires-clause-there : goal.moved_node-requires-clause-there
moved_node-requires-clause-there c =
    c.requires.closed (get_or c.args.ids.now c.loop-id.id-index 0) c.node.result.now
    (Contains-get_or c.args.ids.now c.loop-id.id-index 0 (omega arith)) c.node.ensures.node

pub loop-id-preserved : goal.loop-id-preserved
loop-id-preserved c =
    let ids = c.args.ids.now in
    let i = c.loop-id.id-index in
    let Moved : ℕ → Node → Type 0 = λ id new. (old : Node) × (slice_get c.args.pool.now.nodes id ≡ Some old) × IsMovedNode ids old new in
    subst (AllZip Moved (take (i + 1) ids)) (sym c.in_ok-push.ensures.ok)
    (zip_more Moved ids i 0 c.loop-id.nodes c.in_ok-moved_node.field-0 (omega arith) c.loop-id.invariant
    (c.node.result.now, c.node.ensures.node, c.in_ok-moved_node.ensures))
