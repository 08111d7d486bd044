use Rattle.std.proofs.Common.{◌≡◌, ℕ, ◌<◌, length, true}
use Rattle.rz_tope_search.specs.Asked.{is_marked}
use Rattle.rz_tope_search.specs.Branch.{has_step}
use Rattle.rz_tope_search.specs.Status.{holds_in}
use Rattle.rz_tope_proof.specs.Proving.{Extends}
use Rattle.rz_tope_search.specs.Showing.{Setting, IsReading, ProvesTable, ProvesSteps}
use Rattle.rz_tope_search.proofs.search.derive.Given as goal

-- the parts that were passed, are asked for and hold are inferred
abbrev pub invariant-loop-part : goal.invariant-loop-part
invariant-loop-part l = record {
  all : length l.steps.items ≡ l.part;
  inferred : (k : ℕ) → k < l.part → is_marked l.asked.items k ≡ true → holds_in l.list k ≡ true → has_step l.steps.items k ≡ true;
  extends : Extends l.initial.proof l.proof;
  proves : (at : Setting) → IsReading at l.initial.proof l.places l.parts → ProvesTable at l.initial.proof l.places l.table
      → ProvesSteps at l.proof l.parts l.steps.items;
}
