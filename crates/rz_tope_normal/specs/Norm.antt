-- What is known of points: their cubes, their coordinates, and their normal forms.
use Rattle.std.specs.Prelude.{◌≡◌, ℕ, ◌<◌, nat_eq, List, [], ◌∷◌, length, map, All, Option, Some, IsSome, slice_get}
use Rattle.std.specs.HashMap.{get}
use Rattle.rz_rules.specs.declared.coordinates.Coord.{Coord}
use Rattle.rz_rules.specs.declared.kinds.Sort.TheVariants as sort
use Rattle.rz_rules.specs.declared.nodes.Node.{Node}
use Rattle.rz_rules.specs.declared.rows.Row.{Row}
use Rattle.rz_rules.specs.Tree.{Tree, IsTree, tree_of}
use Rattle.rz_rules.specs.Cube.{binders_of, cubes_of, product}
use Rattle.rz_rules.specs.Tope.{IsPointOf, equal_points, left, pair, right}
use Rattle.rz_pool.specs.Cubes.{AreCubes}
use Rattle.rz_cube.specs.Cached.{IsPoints, Caches}
use Rattle.rz_tope_proof.specs.declared.proof.Inference.{Inference}
use Rattle.rz_tope_proof.specs.Proving.{Infers}
use Rattle.rz_tope_normal.specs.declared.norms.Norm.{Norm}
use Rattle.rz_tope_normal.specs.declared.norms.Norms.{Norms}
use Rattle.rz_tope_normal.specs.declared.halves.Half.{Half}
use Rattle.rz_tope_normal.specs.declared.pairs.PairOf.{PairOf}
use Rattle.rz_tope_normal.specs.declared.settings.Setting.{Setting}
use Rattle.rz_tope_normal.specs.Later.{IsEqualBy}
use Rattle.rz_tope_normal.specs.Normal.{normal}
use Rattle.rz_tope_normal.specs.Placed.{ArePlacesOf, AreCoordinates}

-- each of these is a cube
abbrev pub AreCubeTrees : List Tree → Type 0
AreCubeTrees cubes = (index : ℕ) (cube : Tree) → slice_get cubes index ≡ Some cube → IsTree sort.Cube cube

-- a setting is that of a context, and has the places of these coordinates over it
pub record IsSetting (nodes : List Node) (context : Tree) (list : List Coord) (setting : Setting) : Type 0 where
  pub live : setting.context < length nodes
  pub context_is : tree_of nodes setting.context ≡ context
  pub cubes : AreCubes nodes setting.entries.items
  pub trees : AreCubeTrees (cubes_of context)
  pub entries : map (tree_of nodes) setting.entries.items ≡ cubes_of context
  pub places : ArePlacesOf nodes setting.places list
  pub coordinates : AreCoordinates (binders_of context) list

-- two points of a cube, by their ids
pub record AreOfCube (nodes : List Node) (context : Tree) (of : ℕ × ℕ × ℕ) : Type 0 where
  pub cube_live : of.0 < length nodes
  pub first_live : of.1 < length nodes
  pub second_live : of.2 < length nodes
  pub first : IsPointOf (binders_of context) (tree_of nodes of.0) (tree_of nodes of.1)
  pub second : IsPointOf (binders_of context) (tree_of nodes of.0) (tree_of nodes of.2)

-- an equation between points, by their ids, as a tope
abbrev pub equation_of : List Node → ℕ × ℕ × ℕ → Tree
equation_of nodes of = equal_points (tree_of nodes of.0) (tree_of nodes of.1) (tree_of nodes of.2)

-- a row leads from that one point is another to an equation, which is between a point and itself if those are one
pub record IsCarriedBy (nodes : List Node) (context : Tree) (all : List Inference) (row : Row) (equation : Option ℕ)
    (of : ℕ × ℕ × ℕ) : Type 0 where
  pub whole : Tree
  pub first : ℕ
  pub second : ℕ
  pub equal_is : IsEqualBy nodes context all whole first second equation
  pub same : first ≡ second → of.1 ≡ of.2
  pub infers : Infers row (equal_points whole (tree_of nodes first) (tree_of nodes second) ∷ []) (equation_of nodes of)

-- a point of a cube has this normal form
pub record IsNorm (nodes : List Node) (context : Tree) (all : List Inference) (id : ℕ) (norm : Norm) (cube : Tree) : Type 0 where
  pub live : norm.form < length nodes
  pub form : tree_of nodes norm.form ≡ normal (tree_of nodes id)
  pub equation : IsEqualBy nodes context all cube id norm.form norm.equation

-- the same of a point that may have no cube
pub record IsNormWithin (nodes : List Node) (context : Tree) (all : List Inference) (id : ℕ) (norm : Norm) : Type 0 where
  pub live : norm.form < length nodes
  pub is : (cube : Tree) → IsPointOf (binders_of context) cube (tree_of nodes id) → IsNorm nodes context all id norm cube

-- what is known of a point: what is cached it, and its normal form if it has a cube
pub record IsNormed (nodes : List Node) (context : Tree) (entries : List ℕ) (all : List Inference) (norms : Norms) (id : ℕ) (form : Norm)
    : Type 0 where
  pub live : id < length nodes
  pub point : Caches nodes entries norms.points id
  pub norm : IsNormWithin nodes context all id form

abbrev pub norm_of : Norms → ℕ → Option Norm
norm_of norms id = get nat_eq norms.table id

-- a point is known
abbrev pub IsKnown : Norms → ℕ → Type 0
IsKnown norms id = IsSome (norm_of norms id)

-- what is known is so
pub record AreNorms (nodes : List Node) (context : Tree) (entries : List ℕ) (all : List Inference) (norms : Norms) : Type 0 where
  pub points : IsPoints nodes norms.points
  pub each : (id : ℕ) (norm : Norm) → norm_of norms id ≡ Some norm → IsNormed nodes context entries all norms id norm

-- the kids of a node are known
abbrev pub KnowsKids : List Node → Norms → ℕ → Type 0
KnowsKids nodes norms id = (node : Node) → slice_get nodes id ≡ Some node → All (IsKnown norms) node.kids

-- the id is that of a pair of points
pub record IsPairAt (nodes : List Node) (id : ℕ) (parts : ℕ × ℕ) : Type 0 where
  pub first_live : parts.0 < length nodes
  pub second_live : parts.1 < length nodes
  pub tree : tree_of nodes id ≡ pair (tree_of nodes parts.0) (tree_of nodes parts.1)

-- a point is the left part of another one, whose normal form is known
pub record IsLeftHalf (nodes : List Node) (context : Tree) (all : List Inference) (half : Half) : Type 0 where
  pub cube_live : half.cube < length nodes
  pub point_live : half.point < length nodes
  pub middle_live : half.middle < length nodes
  pub point : tree_of nodes half.point ≡ left (tree_of nodes half.whole)
  pub middle : tree_of nodes half.middle ≡ left (tree_of nodes half.norm.form)
  pub other : Tree
  pub over : IsPointOf (binders_of context) (product (tree_of nodes half.cube) other) (tree_of nodes half.whole)
  pub norm : IsNorm nodes context all half.whole half.norm (product (tree_of nodes half.cube) other)

-- a point is the right part of another one, whose normal form is known
pub record IsRightHalf (nodes : List Node) (context : Tree) (all : List Inference) (half : Half) : Type 0 where
  pub cube_live : half.cube < length nodes
  pub point_live : half.point < length nodes
  pub middle_live : half.middle < length nodes
  pub point : tree_of nodes half.point ≡ right (tree_of nodes half.whole)
  pub middle : tree_of nodes half.middle ≡ right (tree_of nodes half.norm.form)
  pub other : Tree
  pub over : IsPointOf (binders_of context) (product other (tree_of nodes half.cube)) (tree_of nodes half.whole)
  pub norm : IsNorm nodes context all half.whole half.norm (product other (tree_of nodes half.cube))

-- a point is the pair of two, whose normal forms are known
pub record IsPairOf (nodes : List Node) (context : Tree) (all : List Inference) (of : PairOf) : Type 0 where
  pub cube_live : of.cube < length nodes
  pub point_live : of.point < length nodes
  pub form_live : of.form < length nodes
  pub cube : tree_of nodes of.cube ≡ product (tree_of nodes of.cubes.0) (tree_of nodes of.cubes.1)
  pub point : tree_of nodes of.point ≡ pair (tree_of nodes of.points.0) (tree_of nodes of.points.1)
  pub form : tree_of nodes of.form ≡ pair (tree_of nodes of.norms.0.form) (tree_of nodes of.norms.1.form)
  pub first : AreOfCube nodes context (of.cubes.0, of.points.0, of.norms.0.form)
  pub second : AreOfCube nodes context (of.cubes.1, of.points.1, of.norms.1.form)
  pub first_norm : IsNorm nodes context all of.points.0 of.norms.0 (tree_of nodes of.cubes.0)
  pub second_norm : IsNorm nodes context all of.points.1 of.norms.1 (tree_of nodes of.cubes.1)
