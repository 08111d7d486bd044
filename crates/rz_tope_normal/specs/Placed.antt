-- The places of coordinates.
use Rattle.std.specs.Prelude.{◌≡◌, ℕ, ◌+◌, ◌<◌, cond, true, List, [], ◌∷◌, length, All, Some, slice_get}
use Rattle.rz_rules.specs.declared.coordinates.Coord.{Coord}
use Rattle.rz_rules.specs.declared.coordinates.Coord.TheVariants as coordinate
use Rattle.rz_rules.specs.declared.nodes.Node.{Node}
use Rattle.rz_rules.specs.Tree.{tree_of}
use Rattle.rz_rules.specs.Cube.{Binders, cube_two}
use Rattle.rz_rules.specs.Tope.{IsPointOf}
use Rattle.rz_rules.specs.Coordinate.{are_same, is_of_variable, point_of}
use Rattle.rz_tope_proof.specs.declared.places.Places.{Places}
use Rattle.rz_tope_proof.specs.Place.{point_at}

-- the first position of a coordinate in a list, or the list's length
abbrev pub position : List Coord → Coord → ℕ
position [] c = 0
position (first ∷ rest) c = cond (are_same first c) 0 (position rest c + 1)

-- the place of an end or of a coordinate of a variable in a list
abbrev pub place_of : List Coord → Coord → ℕ
place_of list coordinate.Zero = 0
place_of list coordinate.One = 1
place_of list (coordinate.Of variable path) = position list (coordinate.Of variable path) + 2

-- a coordinate is that of a point of the directed interval
abbrev pub IsCoordinate : Binders → Coord → Type 0
IsCoordinate binders c = IsPointOf binders cube_two (point_of c)

-- each of these is
abbrev pub AreCoordinates : Binders → List Coord → Type 0
AreCoordinates binders list = All (IsCoordinate binders) list

-- where it is one of a variable, a coordinate is in a list
abbrev pub IsAmong : List Coord → Coord → Type 0
IsAmong list c = is_of_variable c ≡ true → position list c < length list

-- the point of a place is that of a coordinate
pub record IsPlaceOf (nodes : List Node) (places : Places) (place : ℕ) (c : Coord) : Type 0 where
  pub live : point_at places place < length nodes
  pub tree : tree_of nodes (point_at places place) ≡ point_of c

-- the places are those of the ends and of these coordinates
pub record ArePlacesOf (nodes : List Node) (places : Places) (list : List Coord) : Type 0 where
  pub count : places.count ≡ length list + 2
  pub there : places.interval < length nodes
  pub interval : tree_of nodes places.interval ≡ cube_two
  pub zero : IsPlaceOf nodes places 0 coordinate.Zero
  pub one : IsPlaceOf nodes places 1 coordinate.One
  pub each : (k : ℕ) (c : Coord) → slice_get list k ≡ Some c → IsPlaceOf nodes places (k + 2) c
