use Rattle.std.proofs.Common.{◌≡◌, ◌<◌, length, All}
use Rattle.rz_rules.specs.Tree.{tree_of}
use Rattle.rz_rules.specs.Context.{with_entries}
use Rattle.rz_kernel_rows.specs.Context.{IsEntryAt, entries_over}
use Rattle.rz_kernel_rows.proofs.contexts.cut_before.Given as goal

-- the context is cut behind the entries so far
abbrev pub invariant-loop-taken : goal.invariant-loop-taken
invariant-loop-taken l = record {
  there : l.outer < length l.pool.nodes;
  tree : tree_of l.pool.nodes l.context ≡ with_entries (tree_of l.pool.nodes l.outer) (entries_over l.pool.nodes l.inner.items);
  counted : length l.inner.items ≡ l.taken;
  live : All (IsEntryAt l.pool.nodes) l.inner.items;
}
