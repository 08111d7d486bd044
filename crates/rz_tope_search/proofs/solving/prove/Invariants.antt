use Rattle.std.proofs.Common.{◌≡◌, ℕ, ◌<◌, length, true}
use Rattle.rz_tope_search.specs.Asked.{is_marked}
use Rattle.rz_tope_search.specs.Branch.{has_step}
use Rattle.rz_tope_proof.specs.Proving.{Extends}
use Rattle.rz_tope_search.specs.Showing.{Setting, IsReading, ProvesBranch, ProvesSteps}
use Rattle.rz_tope_search.proofs.solving.prove.Given as goal

abbrev pub invariant-loop-part : goal.invariant-loop-part
invariant-loop-part l = record {
  all : length l.steps.items ≡ l.part;
  inferred : (k : ℕ) → k < l.part → is_marked l.marks.items k ≡ true → has_step l.steps.items k ≡ true;
  extends : Extends l.fn.proof l.proof;
  proves : (at : Setting) → IsReading at l.fn.proof l.places l.parts → ProvesBranch at l.fn.proof l.places l.parts l.root
      → ProvesSteps at l.proof l.parts l.steps.items;
}
