use Rattle.std.proofs.Common.{◌≡◌, ◌<◌, ◌≤◌, ◌+◌, ◌-◌, ◌*◌, length, All}
use Rattle.rz_rules.specs.Tree.{tree_of}
use Rattle.rz_rules.specs.Cube.{leaves}
use Rattle.rz_kernel_rows.specs.Leaves.{leaves_of}
use Rattle.rz_kernel_rows.proofs.leaves.is_narrow.Given as goal

-- the leaves that were counted and those that wait are all
abbrev pub invariant-loop-next : goal.invariant-loop-next
invariant-loop-next l = record {
  there : All (λ id. id < length l.pool.nodes) l.waiting.items;
  all : l.count + leaves_of l.pool.nodes l.waiting.items ≡ leaves (tree_of l.pool.nodes l.cube);
  few : l.count + length l.waiting.items ≤ 64;
}

abbrev pub decreases-loop-next : goal.decreases-loop-next
decreases-loop-next l = 2 * leaves_of l.pool.nodes l.waiting.items - length l.waiting.items
