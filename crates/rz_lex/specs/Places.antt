-- A place, and what its counts say of the text before it.
use Rattle.std.specs.Prelude.{◌≡◌, ℕ, ◌≤◌, List, length, take}
use Rattle.rz_lex.specs.declared.place.Place.{Place}
use Rattle.rz_lex.specs.Text.{line_feeds, characters}

-- The place is in the text or at its end, and its counts are those of what stands before it.
pub record IsPlaceOf (text : List ℕ) (place : Place) : Type 0 where
  pub within : place.at ≤ length text
  pub line_feeds_are : place.line_feeds ≡ line_feeds (take place.at text)
  pub characters_are : place.characters ≡ characters (take place.at text)
