use Rattle.std.proofs.Common.{◌<◌, All, length}
use Rattle.rz_pool.specs.Pool.{Grows, IsPool}
use Rattle.rz_tree_tests.proofs.trees.read.Given as goal

abbrev pub invariant-loop-word : goal.invariant-loop-word
invariant-loop-word l =
    Grows l.fn.pool.nodes l.pool.nodes × IsPool l.pool.nodes × All (λ id. id < length l.pool.nodes) l.stack.items
