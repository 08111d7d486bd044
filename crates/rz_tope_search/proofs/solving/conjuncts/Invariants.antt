use Rattle.std.proofs.Common.{◌≡◌, ℕ, ◌+◌, ◌≤◌, length, true}
use Rattle.rz_tope_search.specs.Asked.{is_marked}
use Rattle.rz_tope_search.specs.Conjunct.{MarksKids, Follows}
use Rattle.rz_tope_proof.specs.Part.{part_at}
use Rattle.rz_tope_search.proofs.solving.conjuncts.Given as goal

abbrev pub invariant-loop-next : goal.invariant-loop-next
invariant-loop-next l = record {
  within : l.next ≤ l.part + 1;
  all : length l.marks.items ≡ l.part + 1;
  itself : is_marked l.marks.items l.part ≡ true;
  kids : (k : ℕ) → l.next ≤ k → is_marked l.marks.items k ≡ true → MarksKids (is_marked l.marks.items) (part_at l.parts k).form;
  follow : (k : ℕ) → is_marked l.marks.items k ≡ true → Follows l.parts l.part k;
}

abbrev pub decreases-loop-next : goal.decreases-loop-next
decreases-loop-next l = l.next
