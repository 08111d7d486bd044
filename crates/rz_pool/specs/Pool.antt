-- A pool: nodes that are named by their places, each standing for a tree, no tree twice.
use Rattle.std.specs.Prelude.{◌≡◌, ℕ, ◌<◌, ◌≤◌, List, [], ◌∷◌, ◌++◌, Some, length, Contains, slice_get, ◌⊎◌}
use Rattle.rz_rules.specs.declared.nodes.Node.{Node}
use Rattle.rz_rules.specs.Tree.{Tree, HaveForms, tree_of}

-- what contracts see of a pool: its nodes, in the order of their ids, and how many more are sure to find memory
pub record Contents : Type 0 where
  pub nodes : List Node
  pub spare : ℕ

-- ids with equal trees are equal
abbrev pub ShareTrees : List Node → Type 0
ShareTrees nodes =
    (i j : ℕ) → i < length nodes → j < length nodes → tree_of nodes i ≡ tree_of nodes j → i ≡ j

-- what every pool keeps
pub record IsPool (nodes : List Node) : Type 0 where
  pub forms : HaveForms nodes
  pub shared : ShareTrees nodes

-- the old nodes keep their ids, and some may follow
pub record Grows (old new : List Node) : Type 0 where
  pub added : List Node
  pub is : new ≡ old ++ added

-- the ids below a bound keep their trees
abbrev pub KeepsTrees : ℕ → List Node → List Node → Type 0
KeepsTrees bound old new = (id : ℕ) → id < bound → tree_of new id ≡ tree_of old id

-- the node has this id: it was there, or else it now stands last
abbrev pub Makes : List Node → Node → List Node → ℕ → Type 0
Makes old node new id =
    (new ≡ old) × (slice_get old id ≡ Some node)
    ⊎ (new ≡ old ++ node ∷ []) × (id ≡ length old) × ¬ (Contains old node)

-- the old nodes keep their ids, and the tree of each new one is allowed
pub record Adds (Allows : Tree → Type 0) (old new : List Node) : Type 0 where
  pub grows : Grows old new
  pub allowed : (id : ℕ) → length old ≤ id → id < length new → Allows (tree_of new id)
