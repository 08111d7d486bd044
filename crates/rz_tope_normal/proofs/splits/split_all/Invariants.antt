use Rattle.std.proofs.Common.{◌≡◌, ℕ, ◌≤◌, List, length, Some}
use Rattle.std.specs.Prelude.{slice_get}
use Rattle.rz_rules.specs.declared.coordinates.Coord.{Coord}
use Rattle.rz_rules.specs.Tree.{tree_of}
use Rattle.rz_tope_normal.specs.Equation.{AreSplits, IsEquation}
use Rattle.rz_tope_normal.specs.Later.{Later}
use Rattle.rz_tope_normal.specs.Norm.{AreNorms, IsKnown}
use Rattle.rz_tope_normal.proofs.splits.split_all.Given as goal

-- the equations so far are, and what was known is
abbrev pub invariant-loop : goal.invariant-loop
invariant-loop l = record {
  splits : (list : List Coord) → IsEquation l.fn.pool.nodes (tree_of l.fn.pool.nodes l.setting.context) list l.fn.norms l.fn.of
      → AreSplits l.pool.nodes (tree_of l.fn.pool.nodes l.setting.context) list l.norms l.splits;
  count : length l.splits.done.items ≤ length l.splits.all.items;
  first : slice_get l.splits.all.items 0 ≡ Some l.fn.of;
  kept : (q : ℕ) → IsKnown l.fn.norms q → IsKnown l.norms q;
  norms : AreNorms l.pool.nodes (tree_of l.fn.pool.nodes l.setting.context) l.setting.entries.items l.proof l.norms;
  later : Later l.fn.pool.nodes l.fn.proof l.pool.nodes l.proof;
}
