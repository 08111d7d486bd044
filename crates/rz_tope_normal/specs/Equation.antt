-- Equations between points of a product, and between their parts.
use Rattle.std.specs.Prelude.{◌≡◌, ℕ, ◌+◌, ◌-◌, ◌<◌, List, length, Some, slice_get}
use Rattle.rz_rules.specs.declared.coordinates.Coord.{Coord}
use Rattle.rz_rules.specs.declared.nodes.Node.{Node}
use Rattle.rz_rules.specs.Tree.{Tree, tree_of}
use Rattle.rz_rules.specs.Cube.{binders_of, cube_one, cube_two, product}
use Rattle.rz_rules.specs.Coordinate.{coordinates}
use Rattle.rz_rules.specs.Tope.{left, pair, right}
use Rattle.rz_tope_normal.specs.declared.norms.Norms.{Norms}
use Rattle.rz_tope_normal.specs.declared.parts.Parts.{Parts}
use Rattle.rz_tope_normal.specs.declared.parts.Halves.{Halves}
use Rattle.rz_tope_normal.specs.declared.splits.Shape.{Shape}
use Rattle.rz_tope_normal.specs.declared.splits.Shape.TheVariants as shape
use Rattle.rz_tope_normal.specs.declared.splits.Split.{Split}
use Rattle.rz_tope_normal.specs.declared.splits.Split.TheVariants as split
use Rattle.rz_tope_normal.specs.declared.splits.Splits.{Splits}
use Rattle.rz_tope_normal.specs.Norm.{AreOfCube, IsKnown, equation_of}
use Rattle.rz_tope_proof.specs.declared.parts.Part.{Part}
use Rattle.rz_tope_normal.specs.Read.{AreAmong, SaysTope}

-- these are the known parts of a point
pub record ArePartsAt (nodes : List Node) (norms : Norms) (point : ℕ) (parts : Parts) : Type 0 where
  pub left_live : parts.left < length nodes
  pub right_live : parts.right < length nodes
  pub pair_live : parts.pair < length nodes
  pub left_is : tree_of nodes parts.left ≡ left (tree_of nodes point)
  pub right_is : tree_of nodes parts.right ≡ right (tree_of nodes point)
  pub pair_is : tree_of nodes parts.pair ≡ pair (left (tree_of nodes point)) (right (tree_of nodes point))
  pub left_known : IsKnown norms parts.left
  pub right_known : IsKnown norms parts.right

-- the id is that of the product of two cubes
pub record IsProductAt (nodes : List Node) (cube : ℕ) (cubes : ℕ × ℕ) : Type 0 where
  pub live : cube < length nodes
  pub left_live : cubes.0 < length nodes
  pub right_live : cubes.1 < length nodes
  pub tree : tree_of nodes cube ≡ product (tree_of nodes cubes.0) (tree_of nodes cubes.1)

-- these are the equations between the parts of two points
pub record IsHalved (nodes : List Node) (norms : Norms) (of : ℕ × ℕ × ℕ) (halves : Halves) : Type 0 where
  pub cube : IsProductAt nodes of.0 (halves.left.0, halves.right.0)
  pub first : ArePartsAt nodes norms of.1 (record { left = halves.left.1; right = halves.right.1; pair = halves.pairs.0 })
  pub second : ArePartsAt nodes norms of.2 (record { left = halves.left.2; right = halves.right.2; pair = halves.pairs.1 })

-- how an equation is read
abbrev pub IsShaped : List Node → ℕ × ℕ × ℕ → Shape → Type 0
IsShaped nodes of shape.Same = of.1 ≡ of.2
IsShaped nodes of shape.OnePoint = tree_of nodes of.0 ≡ cube_one
IsShaped nodes of shape.Interval = tree_of nodes of.0 ≡ cube_two
IsShaped nodes of (shape.Product cubes) = IsProductAt nodes of.0 cubes

-- an equation between two known points, whose coordinates are in a list
pub record IsEquation (nodes : List Node) (context : Tree) (list : List Coord) (norms : Norms) (of : ℕ × ℕ × ℕ) : Type 0 where
  pub points : AreOfCube nodes context of
  pub first_known : IsKnown norms of.1
  pub second_known : IsKnown norms of.2
  pub first_among : AreAmong list (coordinates (binders_of context) (tree_of nodes of.1))
  pub second_among : AreAmong list (coordinates (binders_of context) (tree_of nodes of.2))

-- the equations of the parts of two points stand further on in a list
pub record IsSplitAt (nodes : List Node) (norms : Norms) (all : List (ℕ × ℕ × ℕ)) (place : ℕ) (of : ℕ × ℕ × ℕ) (at : ℕ) (pairs : ℕ × ℕ) : Type 0 where
  pub halves : Halves
  pub later : place < at
  pub left : slice_get all at ≡ Some halves.left
  pub right : slice_get all (at + 1) ≡ Some halves.right
  pub pairs_are : halves.pairs ≡ pairs
  pub is : IsHalved nodes norms of halves

abbrev pub IsSplit : List Node → Norms → List (ℕ × ℕ × ℕ) → ℕ → ℕ × ℕ × ℕ → Split → Type 0
IsSplit nodes norms all place of split.Same = of.1 ≡ of.2
IsSplit nodes norms all place of split.OnePoint = tree_of nodes of.0 ≡ cube_one
IsSplit nodes norms all place of split.Interval = tree_of nodes of.0 ≡ cube_two
IsSplit nodes norms all place of (split.Halved at pairs) = IsSplitAt nodes norms all place of at pairs

-- all are equations, and the first ones are split
pub record AreSplits (nodes : List Node) (context : Tree) (list : List Coord) (norms : Norms) (splits : Splits) : Type 0 where
  pub fine : (k : ℕ) (of : ℕ × ℕ × ℕ) → slice_get splits.all.items k ≡ Some of → IsEquation nodes context list norms of
  pub done : (k : ℕ) (of : ℕ × ℕ × ℕ) (how : Split) → slice_get splits.all.items k ≡ Some of → slice_get splits.done.items k ≡ Some how
      → IsSplit nodes norms splits.all.items k of how

-- an equation of a list, and how it is read
pub record IsReadable (nodes : List Node) (context : Tree) (list : List Coord) (norms : Norms) (all : List (ℕ × ℕ × ℕ)) (place : ℕ) (of : ℕ × ℕ × ℕ)
    (how : Split) : Type 0 where
  pub fine : IsEquation nodes context list norms of
  pub split_is : IsSplit nodes norms all place of how

-- the equations behind a place have parts: the one right behind it the last part, and so on
abbrev pub AreSaid : List Node → List Part → List (ℕ × ℕ × ℕ) → ℕ → Type 0
AreSaid nodes parts all place =
    (other : ℕ) (of : ℕ × ℕ × ℕ) → place < other → slice_get all other ≡ Some of
    → SaysTope nodes parts (length parts + place - other) (equation_of nodes of)
