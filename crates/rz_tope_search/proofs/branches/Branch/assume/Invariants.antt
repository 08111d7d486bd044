use Rattle.std.proofs.Common.{◌≡◌, ℕ, ◌+◌, ◌≤◌, length, true}
use Rattle.rz_tope_search.specs.Branch.{IsBranch, Refines, IsDone, has_step}
use Rattle.rz_tope_proof.specs.Part.{part_at}
use Rattle.rz_tope_proof.specs.Proving.{Extends}
use Rattle.rz_tope_proof.specs.Reading.{tope_at}
use Rattle.rz_tope_search.specs.Showing.{Setting, Shows, IsReading, ProvesBranch, ProvesSteps}
use Rattle.rz_tope_search.proofs.branches.Branch.assume.Given as goal

-- the parts from here on that were inferred are accounted for
abbrev pub invariant-loop-next : goal.invariant-loop-next
invariant-loop-next l = record {
  within : l.next ≤ l.part + 1;
  all : length l.steps.items ≡ l.part + 1;
  itself : has_step l.steps.items l.part ≡ true;
  branch : IsBranch l.places.count l.parts l.self;
  refines : Refines l.places.count l.parts l.self l.initial.self;
  done : (k : ℕ) → l.next ≤ k → has_step l.steps.items k ≡ true
      → IsDone l.places.count l.parts l.self l.steps.items (part_at l.parts k).form;
  extends : Extends l.initial.proof l.proof;
  proves : (at : Setting) → IsReading at l.initial.proof l.places l.parts
      → Shows at l.initial.proof l.step (tope_at at.nodes l.parts l.part)
      → ProvesBranch at l.initial.proof l.places l.parts l.initial.self → ProvesBranch at l.proof l.places l.parts l.self;
  infers : (at : Setting) → IsReading at l.initial.proof l.places l.parts
      → Shows at l.initial.proof l.step (tope_at at.nodes l.parts l.part) → ProvesSteps at l.proof l.parts l.steps.items;
}

abbrev pub decreases-loop-next : goal.decreases-loop-next
decreases-loop-next l = l.next
