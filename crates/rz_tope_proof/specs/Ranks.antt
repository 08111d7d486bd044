-- The ranks that an order of the places gives to coordinates.
use Rattle.std.specs.Prelude.{ℕ, ◌+◌, List, [], ◌∷◌}
use Rattle.rz_rules.specs.declared.coordinates.Coord.{Coord}
use Rattle.rz_rules.specs.Validity.{RankList}

-- the coordinates, each with the rank of its place, where the first has this one
abbrev pub ranks_from : (ℕ → ℕ) → ℕ → List Coord → RankList
ranks_from rank place [] = []
ranks_from rank place (first ∷ rest) = (first, rank place) ∷ ranks_from rank (place + 1) rest
