-- The coordinates of variables that occur, each once, in order of first occurrence.
use Rattle.std.specs.Prelude.{ℕ, ◌+◌, ◌<◌, ◌&&◌, not, Bool, if◌then◌else◌, List, [], ◌∷◌, ◌++◌, filter}
use Rattle.std.specs.List.{list_any}
use Rattle.rz_rules.specs.declared.coordinates.Coord.{Coord}
use Rattle.rz_rules.specs.declared.coordinates.Coord.TheVariants as coordinate
use Rattle.rz_rules.specs.Coordinate.{are_same, is_of_variable}
use Rattle.rz_rules.specs.Validity.{distinct}

-- the coordinates of variables in a list, each once
abbrev pub occurrences : List Coord → List Coord
occurrences list = distinct (filter is_of_variable list)

-- a coordinate is one of a variable, and isn't in a list
abbrev pub is_new : List Coord → Coord → Bool
is_new list new = is_of_variable new && not (list_any (λ other. are_same other new) list)

-- the list, and behind it what is new of these
abbrev pub added : List Coord → List Coord → List Coord
added list [] = list
added list (first ∷ rest) = added (if is_new list first then list ++ first ∷ [] else list) rest

-- a coordinate, as it is named behind so many more cube entries
abbrev pub raised_by : ℕ → Coord → Coord
raised_by by (coordinate.Of variable path) = coordinate.Of (variable + by) path
raised_by by coordinate.Zero = coordinate.Zero
raised_by by coordinate.One = coordinate.One

-- the index of a coordinate's variable is below a limit
abbrev pub IsNamedBelow : ℕ → Coord → Type 0
IsNamedBelow limit (coordinate.Of variable path) = variable < limit
IsNamedBelow limit coordinate.Zero = Unit {0}
IsNamedBelow limit coordinate.One = Unit {0}
