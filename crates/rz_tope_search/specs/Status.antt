-- What is told of parts, in the order of their numbers.
use Rattle.std.specs.Prelude.{◌≡◌, ℕ, ◌<◌, ◌||◌, Bool, false, List, length}
use Rattle.std.specs.List.{slice_index_or}
use Rattle.rz_tope_proof.specs.declared.parts.Part.{Part}
use Rattle.rz_tope_search.specs.declared.statuses.Status.{Status}
use Rattle.rz_tope_search.specs.declared.statuses.Gap.{Gap}
use Rattle.rz_tope_search.specs.declared.statuses.Gap.TheVariants.{Kid, Pair}
use Rattle.rz_tope_proof.specs.Order.{Order}
use Rattle.rz_tope_proof.specs.Part.{AreValues, AreDecided}

abbrev pub status_at : List Status → ℕ → Status
status_at list k = slice_index_or list k (record { holds = false; decided = false })

-- which parts hold, and which are decided
abbrev pub holds_in : List Status → ℕ → Bool
holds_in list k = (status_at list k).holds

abbrev pub decided_in : List Status → ℕ → Bool
decided_in list k = (status_at list k).decided

-- the statuses of all parts in an order
pub record AreStatuses (le : Order) (parts : List Part) (list : List Status) : Type 0 where
  pub all : length list ≡ length parts
  pub values : AreValues le parts (holds_in list)
  pub decided : AreDecided le parts (decided_in list)

-- what is left open stands before a number, or is a comparison of places below a count
abbrev pub IsGapWithin : ℕ → ℕ → Gap → Type 0
IsGapWithin before count (Kid part) = part < before
IsGapWithin before count (Pair first second) = (first < count) × (second < count)

-- it isn't decided
abbrev pub IsGap : Order → (ℕ → Bool) → Gap → Type 0
IsGap le decided (Kid part) = decided part ≡ false
IsGap le decided (Pair first second) = (le first second || le second first) ≡ false
