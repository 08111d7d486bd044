use Rattle.rz_tope_proof.specs.Proving.{Extends}
use Rattle.rz_tope_search.specs.Search.{IsSearch}
use Rattle.rz_tope_search.specs.Searching.{ProvesSearch}
use Rattle.rz_tope_search.specs.Showing.{Setting, IsReading, ProvesBranch}
use Rattle.rz_tope_search.proofs.search.search.Given as goal

abbrev pub invariant-loop : goal.invariant-loop
invariant-loop l = record {
  search : IsSearch l.places.count l.parts l.start l.branch l.splits.items;
  extends : Extends l.fn.proof l.proof;
  proves : (at : Setting) → IsReading at l.fn.proof l.places l.parts → ProvesBranch at l.fn.proof l.places l.parts l.start
      → ProvesSearch at l.proof l.places l.parts l.goal l.splits.items l.branch;
}
