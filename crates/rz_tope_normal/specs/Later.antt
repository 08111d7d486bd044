-- What stays while the pool and the proof grow.
use Rattle.std.specs.Prelude.{◌≡◌, ℕ, List, [], ◌∷◌, Option, None, Some}
use Rattle.rz_rules.specs.declared.nodes.Node.{Node}
use Rattle.rz_rules.specs.declared.rows.Row.{Row}
use Rattle.rz_rules.specs.Tree.{Tree, tree_of}
use Rattle.rz_pool.specs.Pool.{Grows}
use Rattle.rz_tope_proof.specs.declared.proof.Inference.{Inference}
use Rattle.rz_tope_proof.specs.Proving.{Extends, Infers, Proves}
use Rattle.rz_rules.specs.Tope.{equal_points}

-- the pool has more nodes, and the proof more inferences
pub record Later (old : List Node) (before : List Inference) (new : List Node) (after : List Inference) : Type 0 where
  pub grows : Grows old new
  pub extends : Extends before after

-- a row leads from what an inference proves to a tope
pub record InfersFrom (nodes : List Node) (context : Tree) (all : List Inference) (row : Row) (premise : ℕ) (tope : Tree)
    : Type 0 where
  pub said : Tree
  pub proved : Proves nodes context all [] premise said
  pub infers : Infers row (said ∷ []) tope

-- the same from two
pub record InfersFromTwo (nodes : List Node) (context : Tree) (all : List Inference) (row : Row) (first second : ℕ)
    (tope : Tree) : Type 0 where
  pub said : Tree
  pub other : Tree
  pub first_proved : Proves nodes context all [] first said
  pub second_proved : Proves nodes context all [] second other
  pub infers : Infers row (said ∷ other ∷ []) tope

-- a point of a cube is another, or an inference says that they are equal_points
abbrev pub IsEqualBy : List Node → Tree → List Inference → Tree → ℕ → ℕ → Option ℕ → Type 0
IsEqualBy nodes context all cube s u None = s ≡ u
IsEqualBy nodes context all cube s u (Some step) =
    Proves nodes context all [] step (equal_points cube (tree_of nodes s) (tree_of nodes u))
