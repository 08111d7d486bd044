-- Normal points: in one no projection stands before a pair, so that one of the directed interval is an end or a coordinate.
use Rattle.std.specs.Prelude.{◌≡◌, []}
use Rattle.rz_rules.specs.declared.kinds.Kind.TheVariants.{PointVariable, OnlyPoint, Zero, One, PointPair, PointLeft, PointRight}
use Rattle.rz_rules.specs.Tree.{Tree, At, Nil, And}
use Rattle.rz_rules.specs.Tope.{left, one_end, pair, point_variable, right, zero_end}

-- the parts of a normal point, as normal points
abbrev pub left_of : Tree → Tree
left_of (At PointPair number name (And s (And u Nil))) = s
left_of other = left other

abbrev pub right_of : Tree → Tree
right_of (At PointPair number name (And s (And u Nil))) = u
right_of other = right other

-- a point that is no pair
pub record IsNoPair (point : Tree) : Type 0 where
  pub left_is : left_of point ≡ left point
  pub right_is : right_of point ≡ right point

-- the normal form of a point
abbrev pub normal : Tree → Tree
normal (At PointVariable index name Nil) = point_variable index
normal (At OnlyPoint number name Nil) = At OnlyPoint 0 [] Nil
normal (At Zero number name Nil) = zero_end
normal (At One number name Nil) = one_end
normal (At PointPair number name (And s (And u Nil))) = pair (normal s) (normal u)
normal (At PointLeft number name (And s Nil)) = left_of (normal s)
normal (At PointRight number name (And s Nil)) = right_of (normal s)
normal other = other
