-- Lists in a table of cells, where each list but the empty one is an item and an earlier list.
use Rattle.std.specs.Prelude.{◌≡◌, ℕ, ◌+◌, ◌<◌, List, [], ◌∷◌, ◌++◌, slice_index_or}

-- the list that a number names
unfoldable pub list_at : {T : Type 0} → List (List T) → ℕ → List T
list_at lists list = slice_index_or lists list []

-- the lists with those that cells add
abbrev pub grown : {T : Type 0} → List (List T) → List (T × ℕ) → List (List T)
grown lists [] = lists
grown lists (cell ∷ cells) = grown (lists ++ (cell.0 ∷ list_at lists cell.1) ∷ []) cells

-- each cell goes on with a list that stands before it
abbrev pub IsLinked : {T : Type 0} → ℕ → List (T × ℕ) → Type 0
IsLinked count [] = Unit {0}
IsLinked count (cell ∷ cells) = (cell.1 < count) × IsLinked (count + 1) cells

-- lists are added
pub record Grows {T : Type 0} (old new : List (List T)) : Type 0 where
  pub more : List (List T)
  pub is : new ≡ old ++ more
