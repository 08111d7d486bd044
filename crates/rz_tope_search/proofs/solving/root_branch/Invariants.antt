use Rattle.std.proofs.Common.{◌≡◌, ℕ, ◌<◌, Bool, true, get_or, All}
use Rattle.rz_tope_proof.specs.Order.{Order}
use Rattle.rz_tope_search.specs.Branch.{IsBranch, IsModel}
use Rattle.rz_tope_proof.specs.Proving.{Extends}
use Rattle.rz_tope_search.specs.Showing.{Setting, IsReading, ProvesBranch}
use Rattle.rz_tope_search.specs.Solving.{ProvesGiven}
use Rattle.rz_tope_search.proofs.solving.root_branch.Given as goal

abbrev pub invariant-loop-part : goal.invariant-loop-part
invariant-loop-part l = record {
  branch : IsBranch l.places.count l.parts l.branch;
  holds : (le : Order) (value : ℕ → Bool) → IsModel l.places.count l.parts l.branch le value
      → (k : ℕ) (d : _) → k < l.part-index → value (get_or l.given k d).0 ≡ true;
  extends : Extends l.fn.proof l.proof;
  proves : (at : Setting) → IsReading at l.fn.proof l.places l.parts → All (ProvesGiven at l.fn.proof l.parts) l.given
      → ProvesBranch at l.proof l.places l.parts l.branch;
}
