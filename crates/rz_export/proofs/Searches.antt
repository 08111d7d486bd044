-- What a search in a rising list finds.
use Rattle.std.proofs.Common.{◌≡◌, ℕ, ◌<◌, ◌≤◌, List, length, get_or, Ok, Err, Some, Contains, slice_get, ap, ◌∙◌, inl, inr, arith}
use Rattle.std.specs.List.Sorted.{IsBinarySearchResult}
use Rattle.std.specs.Ordering.{nat_cmp}
use Rattle.std.proofs.lemmas.Bool.{cases_lt}
use Rattle.std.proofs.lemmas.List.Sorted.{searched}
use Rattle.std.proofs.lemmas.Option.{slice_get_within, slice_get-get_or}
use Rattle.rz_log.specs.Reachable.{IsRising}
use Rattle.rz_export.proofs.Places.{number_at, place_of}

rises : (list : List ℕ) → IsRising list → (i j : ℕ) → i ≤ j → j < length list → get_or list i 0 ≤ get_or list j 0
rises list rising i j upto within =
    elim (cases_lt i j) [
      | inl before ↦ let less = rising i j 0 before within in omega (arith, less)
      | inr from ↦
          let same : i ≡ j = omega arith in
          omega (arith, ap (λ k. get_or list k 0) same)
    ]

pub found_there : (list : List ℕ) (x place : ℕ) → IsRising list → IsBinarySearchResult (λ y. nat_cmp y x) list (Ok place)
    → slice_get list place ≡ Some x
found_there list x place rising h =
    let found = searched list x (Ok place) h (rises list rising) in
    slice_get-get_or list place 0 found.0 ∙ ap (λ n. Some n) found.1

pub not_missing : (list : List ℕ) (x place : ℕ) → IsRising list → Contains list x → IsBinarySearchResult (λ y. nat_cmp y x) list (Err place) → ⊥
not_missing list x place rising there h =
    let gap = searched list x (Err place) h (rises list rising) in
    let at = place_of list x there in
    let here = number_at list at.0 x at.1 in
    elim (cases_lt at.0 place) [
      | inl before ↦ let less = gap.1 at.0 before in omega (arith, less, here)
      | inr from ↦ let more = gap.2 at.0 from (slice_get_within list at.0 x at.1) in omega (arith, more, here)
    ]
