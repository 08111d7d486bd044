-- What claims say.
use Rattle.std.specs.Prelude.{ℕ, ◌<◌, List, [], ◌∷◌, All, length}
use Rattle.rz_rules.specs.declared.nodes.Node.{Node}
use Rattle.rz_rules.specs.Tree.{Tree, tree_of}
use Rattle.rz_rules.specs.Cube.{binders_of}
use Rattle.rz_rules.specs.Tope.{IsTopeOver, at_most, bottom, disjunction, equal_points}
use Rattle.rz_tope_proof.specs.declared.proof.Claim.{Claim}
use Rattle.rz_tope_proof.specs.declared.proof.Claim.TheVariants as claim

-- the tope that a claim says
abbrev pub tope_of : List Node → Claim → Tree
tope_of nodes (claim.Tope tope) = tree_of nodes tope
tope_of nodes claim.Bottom = bottom
tope_of nodes (claim.AtMost s u) = at_most (tree_of nodes s) (tree_of nodes u)
tope_of nodes (claim.Either s u) =
    disjunction (at_most (tree_of nodes s) (tree_of nodes u)) (at_most (tree_of nodes u) (tree_of nodes s))
tope_of nodes (claim.Equal cube s u) = equal_points (tree_of nodes cube) (tree_of nodes s) (tree_of nodes u)

-- the ids that a claim names
abbrev pub ids_of : Claim → List ℕ
ids_of (claim.Tope tope) = tope ∷ []
ids_of claim.Bottom = []
ids_of (claim.AtMost s u) = s ∷ u ∷ []
ids_of (claim.Either s u) = s ∷ u ∷ []
ids_of (claim.Equal cube s u) = cube ∷ s ∷ u ∷ []

-- a claim names nodes that are there, and says a tope over what a context binds
pub record IsClaim (nodes : List Node) (context : Tree) (says : Claim) : Type 0 where
  pub live : All (λ id. id < length nodes) (ids_of says)
  pub over : IsTopeOver (binders_of context) (tope_of nodes says)
