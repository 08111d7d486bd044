-- What is known of cubes and points by their ids in a pool.
use Rattle.std.specs.Prelude.{◌≡◌, ℕ, ◌+◌, ◌*◌, ◌<◌, List, [], ◌∷◌, length, All, map, Option, Some, slice_get}
use Rattle.rz_rules.specs.declared.nodes.Node.{Node}
use Rattle.rz_rules.specs.Tree.{tree_of}
use Rattle.rz_rules.specs.Cube.{Binders, leaves}
use Rattle.rz_rules.specs.Coordinate.{paths}

-- the leaves of some cubes
abbrev pub leaves_of : List Node → List ℕ → ℕ
leaves_of ns [] = 0
leaves_of ns (id ∷ ids) = leaves (tree_of ns id) + leaves_of ns ids

-- what a step of a count of leaves keeps and lessens, where these cubes wait before it and after it
pub record IsStep (ns : List Node) (before : List ℕ) (counted : ℕ) (after : List ℕ) (count : ℕ) : Type 0 where
  pub low : All (λ id. id < length ns) after
  pub all : count + leaves_of ns after ≡ counted + leaves_of ns before
  pub less : 2 * leaves_of ns after + length before < 2 * leaves_of ns before + length after

-- a table has the paths of the cube with this id
abbrev pub HasPaths : List Node → (ℕ → Option (List (List ℕ))) → ℕ → Type 0
HasPaths nodes table id = table id ≡ Some (paths (tree_of nodes id))

abbrev pub KidsHavePaths : List Node → (ℕ → Option (List (List ℕ))) → ℕ → Type 0
KidsHavePaths nodes table id = (node : Node) → slice_get nodes id ≡ Some node → All (HasPaths nodes table) node.kids

-- the binders with the cubes of these ids
abbrev pub binders_at : List Node → List ℕ → Binders
binders_at nodes entries = record { cubes = map (tree_of nodes) entries }
