-- Cubes, and what a context binds.
use Rattle.std.specs.Prelude.{ℕ, ◌+◌, List, [], ◌∷◌, Option, Some, None}
use Rattle.rz_rules.specs.declared.kinds.Kind.TheVariants.{CubeOne, CubeTwo, Product, CubeEntry, TopeEntry, TermEntry}
use Rattle.rz_rules.specs.Tree.{Tree, At, Nil, And}

-- the cube with one point, the directed interval, and products
abbrev pub cube_one : Tree
cube_one = At CubeOne 0 [] Nil

abbrev pub cube_two : Tree
cube_two = At CubeTwo 0 [] Nil

abbrev pub product : Tree → Tree → Tree
product left right = At Product 0 [] (And left (And right Nil))

-- the two parts of a product
abbrev pub left_part : Tree → Option Tree
left_part (At Product number name (And left (And right Nil))) = Some left
left_part other = None

abbrev pub right_part : Tree → Option Tree
right_part (At Product number name (And left (And right Nil))) = Some right
right_part other = None

-- how many cubes that are no product stand in a cube
abbrev pub leaves : Tree → ℕ
leaves (At Product number name (And left (And right Nil))) = leaves left + leaves right
leaves other = 1

-- the cubes of the cube entries of a context, the innermost first
abbrev pub cubes_of : Tree → List Tree
cubes_of (At CubeEntry number name (And context (And cube Nil))) = cube ∷ cubes_of context
cubes_of (At TopeEntry number name (And context (And tope Nil))) = cubes_of context
cubes_of (At TermEntry number name (And context (And type Nil))) = cubes_of context
cubes_of other = []

-- what a context binds, which points and topes over it may name: the cubes of its cube entries, the innermost first
pub record Binders : Type 0 where
  pub cubes : List Tree

abbrev pub binders_of : Tree → Binders
binders_of context = record { cubes = cubes_of context }
