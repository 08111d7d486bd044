-- The lines of items, and where a file breaks off.
use Rattle.std.specs.Prelude.{◌≡◌, ℕ, suc, ◌<◌, List, ◌++◌, length, map, take}
use Rattle.rz_rules.specs.File.{Item, words_of, line_of, lines_of, BeginsFile}

-- the line of an item
abbrev pub item_line : Item → List ℕ
item_line item = line_of (words_of item)

abbrev pub item_lines : List Item → List (List ℕ)
item_lines items = map item_line items

-- of these lines this one, counted from 1, is the first that isn't in the grammar: some file begins with the lines before
-- it, and none with those up to it
pub record IsFirstBadLine (all : List (List ℕ)) (line : ℕ) : Type 0 where
  pub place : ℕ
  pub counted : line ≡ suc place
  pub there : place < length all
  pub good : BeginsFile (take place all)
  pub bad : BeginsFile (take (suc place) all) → ⊥

-- the file with these items begins with the lines before this one, counted from 1, and none with those up to it
pub record BreaksAt (all : List (List ℕ)) (items : List Item) (line : ℕ) : Type 0 where
  pub place : ℕ
  pub counted : line ≡ suc place
  pub there : place < length all
  pub rest : List (List ℕ)
  pub good : lines_of items ≡ take place all ++ rest
  pub bad : BeginsFile (take (suc place) all) → ⊥
