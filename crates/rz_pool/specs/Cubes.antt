-- Cubes by their ids in a pool.
use Rattle.std.specs.Prelude.{◌≡◌, ℕ, ◌<◌, List, length, All, map, Option, None, IfSome, option_map}
use Rattle.rz_rules.specs.declared.kinds.Sort.TheVariants.{Cube}
use Rattle.rz_rules.specs.declared.nodes.Node.{Node}
use Rattle.rz_rules.specs.declared.kinds.Kind.{Kind}
use Rattle.rz_rules.specs.Form.{kid_sorts}
use Rattle.rz_rules.specs.Tree.{Tree, sort_of, tree_of}
use Rattle.rz_rules.specs.Cube.{product, left_part, right_part, leaves}

-- the id of a cube
abbrev pub IsCubeAt : List Node → ℕ → Type 0
IsCubeAt nodes id = (id < length nodes) × (sort_of (tree_of nodes id) ≡ Cube)

abbrev pub AreCubes : List Node → List ℕ → Type 0
AreCubes nodes ids = All (IsCubeAt nodes) ids

-- the id is that of a product, and these are the ids of its parts
pub record IsProductOf (nodes : List Node) (id : ℕ) (parts : ℕ × ℕ) : Type 0 where
  pub tree : tree_of nodes id ≡ product (tree_of nodes parts.0) (tree_of nodes parts.1)
  pub left : IsCubeAt nodes parts.0
  pub right : IsCubeAt nodes parts.1

-- the tree is no product
pub record IsNoProduct (tree : Tree) : Type 0 where
  pub leaf : leaves tree ≡ 1
  pub left : left_part tree ≡ None
  pub right : right_part tree ≡ None

-- the ids are of trees that a node of a kind may have as its kids
pub record AreKidsOf (nodes : List Node) (kind : Kind) (kids : List ℕ) : Type 0 where
  pub live : All (λ id. id < length nodes) kids
  pub sorts : map sort_of (map (tree_of nodes) kids) ≡ kid_sorts kind

-- an id of a cube, where there is one
pub record IsCubeId (nodes : List Node) (cube : Option Tree) (id : Option ℕ) : Type 0 where
  pub there : IfSome id (IsCubeAt nodes)
  pub is : cube ≡ option_map (tree_of nodes) id
