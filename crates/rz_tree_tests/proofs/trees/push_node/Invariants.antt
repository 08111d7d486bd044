use Rattle.std.proofs.Common.{◌<◌, All, length}
use Rattle.rz_tree_tests.proofs.trees.push_node.Given as goal

abbrev pub invariant-loop : goal.invariant-loop
invariant-loop l =
    All (λ id. id < length l.fn.pool.nodes) l.fn.stack.items → All (λ id. id < length l.fn.pool.nodes) l.stack.items
