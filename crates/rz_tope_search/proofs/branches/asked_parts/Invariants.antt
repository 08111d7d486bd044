use Rattle.std.proofs.Common.{◌≡◌, ℕ, ◌+◌, ◌≤◌, length, true}
use Rattle.rz_tope_search.specs.Asked.{AsksFor, is_marked}
use Rattle.rz_tope_proof.specs.Part.{part_at}
use Rattle.rz_tope_search.specs.Status.{holds_in}
use Rattle.rz_tope_search.proofs.branches.asked_parts.Given as goal

-- the parts from here on that are asked for have asked for theirs
abbrev pub invariant-loop-next : goal.invariant-loop-next
invariant-loop-next l = record {
  within : l.next ≤ l.part + 1;
  all : length l.asked.items ≡ l.part + 1;
  itself : is_marked l.asked.items l.part ≡ true;
  asked : (k : ℕ) → l.next ≤ k → is_marked l.asked.items k ≡ true
      → AsksFor (holds_in l.list) (is_marked l.asked.items) (part_at l.parts k).form;
}

abbrev pub decreases-loop-next : goal.decreases-loop-next
decreases-loop-next l = l.next
