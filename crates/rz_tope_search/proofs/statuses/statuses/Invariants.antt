use Rattle.std.proofs.Common.{◌≡◌, ℕ, ◌<◌, length, Some}
use Rattle.std.specs.Prelude.{slice_get}
use Rattle.rz_tope_proof.specs.declared.parts.Part.{Part}
use Rattle.rz_tope_proof.specs.Part.{value_over, decided_over}
use Rattle.rz_tope_search.specs.Status.{holds_in, decided_in}
use Rattle.rz_tope_search.specs.Table.{order_of}
use Rattle.rz_tope_search.proofs.statuses.statuses.Given as goal

-- the parts that were passed have their statuses
abbrev pub invariant-loop-part : goal.invariant-loop-part
invariant-loop-part l = record {
  all : length l.list.items ≡ l.part-index;
  values : (k : ℕ) (part : Part) → k < l.part-index → slice_get l.parts k ≡ Some part
      → holds_in l.list.items k ≡ value_over (order_of l.table) (holds_in l.list.items) part.form;
  decided : (k : ℕ) (part : Part) → k < l.part-index → slice_get l.parts k ≡ Some part
      → decided_in l.list.items k ≡ decided_over (order_of l.table) (decided_in l.list.items) part.form;
}
