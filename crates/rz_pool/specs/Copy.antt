-- How a tree is copied: its parts are listed, each before its kids, and copied from the last to the first.
use Rattle.std.specs.Prelude.{◌≡◌, ℕ, ◌<◌, List, Option, Some, length, All, Contains, slice_get, slice_index, ◌⊎◌}
use Rattle.rz_rules.specs.declared.nodes.Node.{Node}
use Rattle.rz_rules.specs.Tree.{tree_of}
use Rattle.rz_pool.specs.Part.{IsPart}

-- an id stands in the list after a place
abbrev pub StandsAfter : List ℕ → ℕ → ℕ → Type 0
StandsAfter ids place id =
    (other : ℕ) × (place < other) × (other < length ids) × (slice_index ids other ≡ id)

-- each kid of a listed node stands after it, or is settled elsewhere
abbrev pub AreSettled : List Node → List ℕ → (ℕ → Type 0) → Type 0
AreSettled nodes ids Settled =
    (place : ℕ) (node : Node) → place < length ids → slice_get nodes (slice_index ids place) ≡ Some node
    → All (λ kid. StandsAfter ids place kid ⊎ Settled kid) node.kids

-- these ids stand for parts of the tree of an id
abbrev pub StandForParts : List Node → ℕ → List ℕ → Type 0
StandForParts nodes id ids =
    All (λ part. (part < length nodes) × IsPart (tree_of nodes id) (tree_of nodes part)) ids

-- the id and all ids below it
pub record ListsParts (nodes : List Node) (id : ℕ) (ids : List ℕ) : Type 0 where
  pub top : Contains ids id
  pub parts : StandForParts nodes id ids
  pub settled : AreSettled nodes ids (λ _. ⊥)

-- an id of the one pool has a copy in the other
abbrev pub IsCopied : (ℕ → Option ℕ) → List Node → List Node → ℕ → Type 0
IsCopied copies from to id =
    (copy : ℕ) × (copies id ≡ Some copy) × (copy < length to) × (tree_of to copy ≡ tree_of from id)
