-- Coordinates: what a point over what a context binds has at each place where its cube has the directed interval.
use Rattle.std.specs.Prelude.{ℕ, ◌+◌, ◌==◌, ◌&&◌, nat_eq, cond, Bool, true, false, List, [], ◌∷◌, ◌++◌, Option, Some, None, map, take, drop, slice_get}
use Rattle.std.specs.Str.{bytes_eq}
use Rattle.rz_rules.specs.declared.kinds.Kind.TheVariants.{CubeTwo, Product, PointVariable, Zero, One, PointPair, PointLeft, PointRight}
use Rattle.rz_rules.specs.declared.coordinates.Coord.{Coord}
use Rattle.rz_rules.specs.declared.coordinates.Coord.TheVariants as coordinate
use Rattle.rz_rules.specs.declared.coordinates.TheConstants.{LEFT, RIGHT}
use Rattle.rz_rules.specs.Tree.{Tree, At, Nil, And}
use Rattle.rz_rules.specs.Cube.{Binders}
use Rattle.rz_rules.specs.Tope.{cube_of, point_variable, zero_end, one_end, left, right}

-- the ways to the leaves of a cube that are the directed interval, from left to right, that of the outermost product first
abbrev pub paths : Tree → List (List ℕ)
paths (At CubeTwo number name Nil) = [] ∷ []
paths (At Product number name (And left (And right Nil))) =
    map (λ path. LEFT ∷ path) (paths left) ++ map (λ path. RIGHT ∷ path) (paths right)
paths other = []

-- how many leaves of a cube are the directed interval
abbrev pub width : Tree → ℕ
width (At CubeTwo number name Nil) = 1
width (At Product number name (And left (And right Nil))) = width left + width right
width other = 0

-- the width of the left part of a product
abbrev pub left_width : Option Tree → ℕ
left_width (Some (At Product number name (And left (And right Nil)))) = width left
left_width other = 0

-- the coordinates of a variable: one for each leaf of its cube that is the directed interval
abbrev pub coordinates_of_variable : ℕ → Option Tree → List Coord
coordinates_of_variable variable (Some cube) = map (λ path. coordinate.Of variable path) (paths cube)
coordinates_of_variable variable None = []

-- the coordinates of a point; a projection has the first or the last of its operand's, cut by the width of the left part
abbrev pub coordinates : Binders → Tree → List Coord
coordinates binders (At PointVariable index name Nil) = coordinates_of_variable index (slice_get binders.cubes index)
coordinates binders (At Zero number name Nil) = coordinate.Zero ∷ []
coordinates binders (At One number name Nil) = coordinate.One ∷ []
coordinates binders (At PointPair number name (And s (And u Nil))) = coordinates binders s ++ coordinates binders u
coordinates binders (At PointLeft number name (And s Nil)) = take (left_width (cube_of binders s)) (coordinates binders s)
coordinates binders (At PointRight number name (And s Nil)) = drop (left_width (cube_of binders s)) (coordinates binders s)
coordinates binders other = []

-- whether two coordinates are equal
abbrev pub are_same : Coord → Coord → Bool
are_same coordinate.Zero coordinate.Zero = true
are_same coordinate.One coordinate.One = true
are_same (coordinate.Of variable path) (coordinate.Of other way) = (variable == other) && bytes_eq path way
are_same one other = false

-- whether a coordinate is one of a variable, and no end
abbrev pub is_of_variable : Coord → Bool
is_of_variable (coordinate.Of variable path) = true
is_of_variable coordinate.Zero = false
is_of_variable coordinate.One = false

-- a coordinate over a context, as it is named after one cube entry more: variables count from the innermost entry
abbrev pub raised : Coord → Coord
raised (coordinate.Of variable path) = coordinate.Of (variable + 1) path
raised coordinate.Zero = coordinate.Zero
raised coordinate.One = coordinate.One

-- the part of a point on one side
abbrev pub half : ℕ → Tree → Tree
half way point = cond (nat_eq way LEFT) (left point) (right point)

-- the part of a point at the end of a path
abbrev pub part_at : Tree → List ℕ → Tree
part_at point [] = point
part_at point (way ∷ path) = part_at (half way point) path

-- the point of the directed interval that is this coordinate
abbrev pub point_of : Coord → Tree
point_of coordinate.Zero = zero_end
point_of coordinate.One = one_end
point_of (coordinate.Of variable path) = part_at (point_variable variable) path
