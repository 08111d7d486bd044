use Rattle.std.proofs.Common.{◌≡◌, ℕ, length, Some}
use Rattle.std.specs.Prelude.{slice_get}
use Rattle.rz_rules.specs.Tree.{tree_of}
use Rattle.rz_tope_normal.specs.declared.hypotheses.Hypothesis.{Hypothesis}
use Rattle.rz_tope_normal.specs.Later.{Later}
use Rattle.rz_tope_normal.specs.Reader.{IsReader, KeepsRead}
use Rattle.rz_tope_normal.specs.Sequent.{IsAssumed}
use Rattle.rz_tope_normal.proofs.sequents.assume.Given as goal

-- the topes so far are read and inferred
abbrev pub invariant-loop-hypothesis : goal.invariant-loop-hypothesis
invariant-loop-hypothesis l = record {
  assumed : (k : ℕ) (hypothesis : Hypothesis) (pair : ℕ × ℕ) → slice_get l.hypotheses k ≡ Some hypothesis → slice_get l.given.items k ≡ Some pair
      → IsAssumed l.pool.nodes (tree_of l.fn.pool.nodes l.setting.context) l.proof l.reader.parts.items (tree_of l.fn.pool.nodes hypothesis.tope)
      pair;
  count : length l.given.items ≡ l.hypothesis-index;
  reader : IsReader l.pool.nodes (tree_of l.fn.pool.nodes l.setting.context) l.list l.setting l.proof l.reader;
  kept : KeepsRead l.fn.pool.nodes l.fn.reader l.pool.nodes l.reader;
  later : Later l.fn.pool.nodes l.fn.proof l.pool.nodes l.proof;
}
