use Rattle.std.proofs.Common.{◌≡◌, ℕ, ◌+◌, ◌-◌, ◌≤◌, length, Some}
use Rattle.std.specs.Prelude.{slice_get}
use Rattle.rz_rules.specs.Tree.{tree_of}
use Rattle.rz_tope_normal.specs.Equation.{AreSplits}
use Rattle.rz_tope_normal.specs.Norm.{equation_of}
use Rattle.rz_tope_normal.specs.Read.{ArePartsOf, KeepsParts, SaysTope}
use Rattle.rz_tope_normal.proofs.join.join.Given as goal

-- the equations that are left are split, and those behind them have parts
abbrev pub invariant-loop-split : goal.invariant-loop-split
invariant-loop-split l = record {
  parts : ArePartsOf l.pool.nodes (tree_of l.pool.nodes l.setting.context) l.list l.setting.places l.proof l.parts.items;
  splits : AreSplits l.pool.nodes (tree_of l.pool.nodes l.setting.context) l.list l.norms (record { all = l.all; done = l.done });
  said : (other : ℕ) (of : ℕ × ℕ × ℕ) → length l.done.items ≤ other → slice_get l.all.items other ≡ Some of
      → SaysTope l.pool.nodes l.parts.items (l.last - other) (equation_of l.pool.nodes of);
  count : length l.parts.items + length l.done.items ≡ l.last + 1;
  room : length l.done.items ≤ length l.all.items;
  last : length l.all.items ≤ l.last + 1;
  kept : KeepsParts l.pool.nodes l.fn.parts.items l.parts.items;
}

abbrev pub decreases-loop-split : goal.decreases-loop-split
decreases-loop-split l = length l.done.items
