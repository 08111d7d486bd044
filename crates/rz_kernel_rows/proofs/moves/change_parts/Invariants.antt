use Rattle.std.proofs.Common.{◌≡◌, ◌<◌, length, map, take, All}
use Rattle.rz_rules.specs.Tree.{tree_of}
use Rattle.rz_rules.specs.Substitution.{changed}
use Rattle.rz_pool.specs.Counts.{depth_of}
use Rattle.rz_pool.specs.Pool.{Grows, IsPool}
use Rattle.rz_kernel_rows.specs.Move.{changes_of}
use Rattle.rz_kernel_rows.proofs.moves.change_parts.Given as goal

-- the parts so far have their answers
abbrev pub invariant-loop-part : goal.invariant-loop-part
invariant-loop-part l = record {
  grows : Grows l.initial.pool.nodes l.pool.nodes;
  pool : IsPool l.pool.nodes;
  live : All (λ id. id < length l.pool.nodes) l.changed;
  count : length l.changed ≡ l.part-index;
  trees : map (tree_of l.pool.nodes) l.changed
      ≡ map (changed (changes_of l.initial.pool.nodes l.change) (depth_of l.depth)) (map (tree_of l.initial.pool.nodes) (take l.part-index l.parts));
}
