use Rattle.std.proofs.Common.{◌≡◌, ◌++◌, map, take}
use Rattle.std.specs.List.{concat}
use Rattle.rz_rules.specs.File.{NodeItem}
use Rattle.rz_drv.specs.Lines.{item_lines}
use Rattle.rz_drv.proofs.encoding.add_nodes.Given as goal

-- the nodes so far stand behind what stood there
abbrev pub invariant-loop-node : goal.invariant-loop-node
invariant-loop-node l = l.bytes ≡ l.initial.bytes ++ concat (item_lines (map (λ node. NodeItem node) (take l.node-index l.nodes)))
