use Rattle.std.proofs.Common.{All, length}
use Rattle.rz_tope_search.specs.declared.branches.Branch.{Branch}
use Rattle.rz_tope_search.specs.Search.{IsSplit, Leads}
use Rattle.rz_tope_proof.specs.Proving.{Extends}
use Rattle.rz_tope_proof.specs.Reading.{tope_at}
use Rattle.rz_tope_search.specs.Searching.{ProvesSplits, within}
use Rattle.rz_tope_search.specs.Showing.{Setting, Shows, IsReading}
use Rattle.rz_tope_search.proofs.search.resume.Given as goal

abbrev pub invariant-loop-split : goal.invariant-loop-split
invariant-loop-split l = record {
  splits : All (IsSplit l.places.count l.parts) l.splits.items;
  leads : (start : Branch) → All (Leads l.places.count l.parts start) l.initial.splits.items → All (Leads l.places.count l.parts start) l.splits.items;
  extends : Extends l.initial.proof l.proof;
  proves : (at : Setting) → IsReading at l.initial.proof l.places l.parts → ProvesSplits at l.initial.proof l.places l.parts l.goal l.initial.splits.items
      → Shows (within at l.initial.splits.items) l.initial.proof l.found (tope_at at.nodes l.parts l.goal)
      → ProvesSplits at l.proof l.places l.parts l.goal l.splits.items
      × Shows (within at l.splits.items) l.proof l.step (tope_at at.nodes l.parts l.goal);
}

abbrev pub decreases-loop-split : goal.decreases-loop-split
decreases-loop-split l = length l.splits.items
