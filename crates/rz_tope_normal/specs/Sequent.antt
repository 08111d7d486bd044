-- What is known of a sequent that was read.
use Rattle.std.specs.Prelude.{◌≡◌, ℕ, ◌+◌, ◌<◌, Bool, true, List, [], length, All, Some, slice_get}
use Rattle.rz_rules.specs.declared.coordinates.Coord.{Coord}
use Rattle.rz_rules.specs.declared.nodes.Node.{Node}
use Rattle.rz_rules.specs.Tree.{Tree, tree_of}
use Rattle.rz_rules.specs.Cube.{binders_of}
use Rattle.rz_rules.specs.Validity.{are_true, rank_in, truth}
use Rattle.rz_tope_proof.specs.declared.parts.Part.{Part}
use Rattle.rz_tope_proof.specs.declared.proof.Inference.{Inference}
use Rattle.rz_tope_proof.specs.Order.{by_rank}
use Rattle.rz_tope_proof.specs.Part.{AreParts, AreValues}
use Rattle.rz_tope_proof.specs.Place.{IsPlaces}
use Rattle.rz_tope_proof.specs.Proving.{Proves}
use Rattle.rz_tope_proof.specs.Reading.{AreRead, tope_at}
use Rattle.rz_tope_normal.specs.declared.hypotheses.Hypothesis.{Hypothesis}
use Rattle.rz_tope_normal.specs.declared.sequents.Sequent.{Sequent}
use Rattle.rz_tope_normal.specs.declared.sequents.Start.{Start}
use Rattle.rz_tope_normal.specs.Hypothesis.{AreGiven, AreTrueIn, IsGivenAt}
use Rattle.rz_tope_normal.specs.Norm.{IsSetting}
use Rattle.rz_tope_normal.specs.Reader.{IsReader}
use Rattle.rz_tope_proof.specs.Ranks.{ranks_from}
use Rattle.rz_tope_normal.specs.Read.{IsFine, SaysTope}

-- a part says a tope, and an inference proves it
pub record IsAssumed (nodes : List Node) (context : Tree) (all : List Inference) (parts : List Part) (tope : Tree) (given : ℕ × ℕ) : Type 0 where
  pub says : SaysTope nodes parts given.0 tope
  pub proves : Proves nodes context all [] given.1 tope

-- so it is of each tope that a context gives, where the nodes were these
pub record AreAssumed (old nodes : List Node) (context : Tree) (all : List Inference) (parts : List Part) (hypotheses : List Hypothesis) (given : List (ℕ × ℕ))
    : Type 0 where
  pub count : length given ≡ length hypotheses
  pub each : (k : ℕ) (hypothesis : Hypothesis) (pair : ℕ × ℕ) → slice_get hypotheses k ≡ Some hypothesis → slice_get given k ≡ Some pair
      → IsAssumed nodes context all parts (tree_of old hypothesis.tope) pair

-- a context gives a tope, which is over it and compares what is in a list
pub record IsReadableEntry (nodes : List Node) (context : Tree) (list : List Coord) (hypothesis : Hypothesis) : Type 0 where
  pub given : IsGivenAt nodes context hypothesis
  pub fine : IsFine (binders_of context) list (tree_of nodes hypothesis.tope)

abbrev pub AreReadableEntries : List Node → Tree → List Coord → List Hypothesis → Type 0
AreReadableEntries nodes context list hypotheses = All (IsReadableEntry nodes context list) hypotheses

-- what is known before a context's topes are read
pub record IsStart (nodes : List Node) (context : Tree) (list : List Coord) (start : Start) : Type 0 where
  pub given : AreGiven nodes context start.given.items
  pub all : (rank : Coord → ℕ) → AreTrueIn nodes context rank start.given.items → are_true rank context ≡ true
  pub setting : IsSetting nodes context list start.setting
  pub reader : (all : List Inference) → IsReader nodes context list start.setting all start.reader

-- a part is one of a list, and an inference proves the tope that it says
pub record IsGivenPart (nodes : List Node) (context : Tree) (all : List Inference) (parts : List Part) (given : ℕ × ℕ) : Type 0 where
  pub within : given.0 < length parts
  pub proves : Proves nodes context all [] given.1 (tope_at nodes parts given.0)

-- the parts of a sequent say its topes, at the places of the coordinates that occur
pub record IsSequentRead (nodes : List Node) (context tope : Tree) (list : List Coord) (all : List Inference) (sequent : Sequent) : Type 0 where
  pub count : sequent.places.count ≡ length list + 2
  pub places : IsPlaces nodes context sequent.places
  pub parts : AreParts sequent.places.count sequent.parts.items
  pub read : AreRead nodes context sequent.places all sequent.parts.items
  pub goal : SaysTope nodes sequent.parts.items sequent.goal tope
  pub given : All (IsGivenPart nodes context all sequent.parts.items) sequent.given.items

-- where the parts have these values, the tope is true as its part is, and the context's topes are if theirs are
pub record IsValued (context tope : Tree) (list : List Coord) (sequent : Sequent) (rank : ℕ → ℕ) (value : ℕ → Bool) : Type 0 where
  pub goal : truth (binders_of context) (rank_in (ranks_from rank 2 list)) tope ≡ value sequent.goal
  pub given : All (λ given. value given.0 ≡ true) sequent.given.items → are_true (rank_in (ranks_from rank 2 list)) context ≡ true

-- so it is for all ranks of places, the place 0 having the least and the place 1 the greatest
abbrev pub HasValues : Tree → Tree → List Coord → Sequent → Type 0
HasValues context tope list sequent =
    (rank : ℕ → ℕ) (value : ℕ → Bool) → rank 0 ≡ 0 → rank 1 ≡ length list + 1 → AreValues (by_rank rank) sequent.parts.items value
    → IsValued context tope list sequent rank value
