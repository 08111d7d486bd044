-- Points and topes: how they are written, and which of them are over what a context binds.
use Rattle.std.specs.Prelude.{◌≡◌, ℕ, [], Option, Some, None, slice_get, option_and_then}
use Rattle.rz_rules.specs.declared.kinds.Kind.TheVariants.{PointVariable, OnlyPoint, Zero, One, PointPair, PointLeft, PointRight, Top, Bottom, Conjunction, Disjunction, EqualPoints, AtMost}
use Rattle.rz_rules.specs.Tree.{Tree, At, Nil, And}
use Rattle.rz_rules.specs.Cube.{Binders, cube_one, cube_two, product, left_part, right_part}

-- points: a variable by its index, the ends of the directed interval, a pair, and the two parts of a point of a product
abbrev pub point_variable : ℕ → Tree
point_variable index = At PointVariable index [] Nil

abbrev pub zero_end : Tree
zero_end = At Zero 0 [] Nil

abbrev pub one_end : Tree
one_end = At One 0 [] Nil

abbrev pub pair : Tree → Tree → Tree
pair s u = At PointPair 0 [] (And s (And u Nil))

abbrev pub left : Tree → Tree
left s = At PointLeft 0 [] (And s Nil)

abbrev pub right : Tree → Tree
right s = At PointRight 0 [] (And s Nil)

-- topes: the one that always holds and the one that never does, connectives, equality at a cube, and order
abbrev pub top : Tree
top = At Top 0 [] Nil

abbrev pub bottom : Tree
bottom = At Bottom 0 [] Nil

abbrev pub conjunction : Tree → Tree → Tree
conjunction p q = At Conjunction 0 [] (And p (And q Nil))

abbrev pub disjunction : Tree → Tree → Tree
disjunction p q = At Disjunction 0 [] (And p (And q Nil))

abbrev pub equal_points : Tree → Tree → Tree → Tree
equal_points cube s u = At EqualPoints 0 [] (And cube (And s (And u Nil)))

abbrev pub at_most : Tree → Tree → Tree
at_most s u = At AtMost 0 [] (And s (And u Nil))

-- the cube of a point, where it has one
abbrev pub cube_of : Binders → Tree → Option Tree
cube_of binders (At PointVariable index name Nil) = slice_get binders.cubes index
cube_of binders (At OnlyPoint number name Nil) = Some cube_one
cube_of binders (At Zero number name Nil) = Some cube_two
cube_of binders (At One number name Nil) = Some cube_two
cube_of binders (At PointPair number name (And s (And u Nil))) =
    option_and_then (λ left. option_and_then (λ right. Some (product left right)) (cube_of binders u)) (cube_of binders s)
cube_of binders (At PointLeft number name (And s Nil)) = option_and_then left_part (cube_of binders s)
cube_of binders (At PointRight number name (And s Nil)) = option_and_then right_part (cube_of binders s)
cube_of binders other = None

-- a point of a cube
abbrev pub IsPointOf : Binders → Tree → Tree → Type 0
IsPointOf binders cube point = cube_of binders point ≡ Some cube

-- a tope each of whose points has the cube that it asks for
abbrev pub IsTopeOver : Binders → Tree → Type 0
IsTopeOver binders (At Top number name Nil) = Unit {0}
IsTopeOver binders (At Bottom number name Nil) = Unit {0}
IsTopeOver binders (At Conjunction number name (And p (And q Nil))) = IsTopeOver binders p × IsTopeOver binders q
IsTopeOver binders (At Disjunction number name (And p (And q Nil))) = IsTopeOver binders p × IsTopeOver binders q
IsTopeOver binders (At EqualPoints number name (And cube (And s (And u Nil)))) = IsPointOf binders cube s × IsPointOf binders cube u
IsTopeOver binders (At AtMost number name (And s (And u Nil))) = IsPointOf binders cube_two s × IsPointOf binders cube_two u
IsTopeOver binders other = ⊥
