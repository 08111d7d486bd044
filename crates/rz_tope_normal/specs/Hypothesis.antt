-- What the topes of a context give.
use Rattle.std.specs.Prelude.{◌≡◌, ℕ, ◌<◌, true, List, length, All}
use Rattle.rz_rules.specs.declared.coordinates.Coord.{Coord}
use Rattle.rz_rules.specs.declared.nodes.Node.{Node}
use Rattle.rz_rules.specs.Tree.{Tree, tree_of}
use Rattle.rz_rules.specs.Cube.{binders_of}
use Rattle.rz_rules.specs.declared.kinds.Space.TheVariants.{Points}
use Rattle.rz_rules.specs.Context.{Entry, with_entries, depth_of}
use Rattle.rz_rules.specs.Validity.{are_true, truth}
use Rattle.rz_pool.specs.Counts as counts
use Rattle.rz_tope.specs.Occurrence.{raised_by}
use Rattle.rz_tope_proof.specs.Proving.{IsGiven}
use Rattle.rz_tope_normal.specs.declared.hypotheses.Hypothesis.{Hypothesis}
use Rattle.rz_tope_normal.specs.declared.hypotheses.Walk.{Walk}

-- a context gives the tope of this entry
pub record IsGivenAt (nodes : List Node) (context : Tree) (hypothesis : Hypothesis) : Type 0 where
  pub live : hypothesis.tope < length nodes
  pub given : IsGiven context hypothesis.number (tree_of nodes hypothesis.tope)

abbrev pub AreGiven : List Node → Tree → List Hypothesis → Type 0
AreGiven nodes context list = All (IsGivenAt nodes context) list

-- these are true at ranks of the coordinates
abbrev pub AreTrueIn : List Node → Tree → (Coord → ℕ) → List Hypothesis → Type 0
AreTrueIn nodes context rank list = All (λ hypothesis. truth (binders_of context) rank (tree_of nodes hypothesis.tope) ≡ true) list

-- The entries that were passed stand behind the context that is left, their topes are given, and where these are true and
-- what is left is true, all is.
pub record IsWalk (nodes : List Node) (whole : Tree) (walk : Walk) : Type 0 where
  pub live : walk.at < length nodes
  pub inner : List Entry
  pub whole_is : whole ≡ with_entries (tree_of nodes walk.at) inner
  pub count : length inner ≡ walk.number
  pub depth : depth_of inner ≡ counts.depth_of walk.behind
  pub given : AreGiven nodes whole walk.list.items
  pub all : (rank : Coord → ℕ) → AreTrueIn nodes whole rank walk.list.items
      → are_true (λ c. rank (raised_by (depth_of inner Points) c)) (tree_of nodes walk.at) ≡ true → are_true rank whole ≡ true
