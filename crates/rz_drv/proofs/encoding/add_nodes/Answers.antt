use Rattle.std.proofs.Common.{sym, arith}
use Rattle.rz_rules.specs.File.{NodeItem}
use Rattle.rz_drv.specs.Lines.{item_line}
use Rattle.rz_drv.proofs.Writings.{written_more}
use Rattle.rz_drv.proofs.encoding.add_nodes.Goals as goal

pub loop-node-preserved : goal.loop-node-preserved
loop-node-preserved c =
    written_more (λ node. NodeItem node) item_line c.args.nodes.now c.loop-node.node-index c.node-item.result c.node-item.result c.args.bytes.now c.loop-node.bytes _ (omega arith) (sym c.node-item.is) c.loop-node.invariant c.in_ok-add_node.ensures
