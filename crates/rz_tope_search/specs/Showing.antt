-- What inferences prove of places, parts, tables and branches, under assumptions.
use Rattle.std.specs.Prelude.{◌≡◌, ℕ, ◌<◌, List, ◌∷◌, Option, Some, None, All}
use Rattle.std.specs.List.{slice_index_or}
use Rattle.rz_rules.specs.declared.nodes.Node.{Node}
use Rattle.rz_rules.specs.Tree.{Tree, tree_of}
use Rattle.rz_rules.specs.Cube.{cube_two}
use Rattle.rz_tope_proof.specs.declared.parts.Part.{Part}
use Rattle.rz_tope_proof.specs.declared.parts.Side.{Side}
use Rattle.rz_tope_proof.specs.declared.places.Places.{Places}
use Rattle.rz_tope_proof.specs.declared.proof.Inference.{Inference}
use Rattle.rz_tope_proof.specs.Place.{IsPlaces, point_at}
use Rattle.rz_tope_proof.specs.Proving.{Proves}
use Rattle.rz_tope_proof.specs.Reading.{AreRead, IsSide, tope_at}
use Rattle.rz_rules.specs.Tope.{at_most, disjunction, equal_points}
use Rattle.rz_tope_search.specs.declared.table.Table.{Table}
use Rattle.rz_tope_search.specs.declared.branches.Branch.{Branch}
use Rattle.rz_tope_search.specs.declared.branches.Waiting.{Waiting}
use Rattle.rz_tope_search.specs.Table.{step_at}

-- where inferences are read: the nodes of a pool, a context, and the assumptions that are added to it
pub record Setting : Type 0 where
  pub nodes : List Node
  pub context : Tree
  pub assumed : List ℕ

-- the setting with one assumption more
abbrev pub assuming : ℕ → Setting → Setting
assuming leaf at = record { nodes = at.nodes; context = at.context; assumed = leaf ∷ at.assumed }

-- an inference proves a tope there
abbrev pub Shows : Setting → List Inference → ℕ → Tree → Type 0
Shows at all step tope = Proves at.nodes at.context all at.assumed step tope

-- an inference proves a tope there; where there is no inference, two trees are the same
abbrev pub ShowsUnlessSame : Setting → List Inference → Option ℕ → Tree → Tree → Tree → Type 0
ShowsUnlessSame at all (Some step) tope s u = Shows at all step tope
ShowsUnlessSame at all None tope s u = s ≡ u

-- the tope that one place is at most another
abbrev pub places_tope : List Node → Places → ℕ → ℕ → Tree
places_tope nodes places low high = at_most (tree_of nodes (point_at places low)) (tree_of nodes (point_at places high))

-- the topes that one side is at most another, and that they are equal_points
abbrev pub sides_tope : List Node → Side → Side → Tree
sides_tope nodes low high = at_most (tree_of nodes low.point) (tree_of nodes high.point)

abbrev pub equal_sides : List Node → Side → Side → Tree
equal_sides nodes first second = equal_points cube_two (tree_of nodes first.point) (tree_of nodes second.point)

-- two points of the directed interval have their places
pub record AreSides (at : Setting) (all : List Inference) (places : Places) (first second : Side) : Type 0 where
  pub places_are : IsPlaces at.nodes at.context places
  pub first_is : IsSide at.nodes at.context places all first
  pub second_is : IsSide at.nodes at.context places all second

-- a point has its place
pub record HasPlace (at : Setting) (all : List Inference) (places : Places) (side : Side) : Type 0 where
  pub places_are : IsPlaces at.nodes at.context places
  pub side_is : IsSide at.nodes at.context places all side

-- each inference of a table proves its comparison
abbrev pub ProvesTable : Setting → List Inference → Places → Table → Type 0
ProvesTable at all places table = (low high step : ℕ) → low < places.count → high < places.count
    → step_at table low high ≡ Some step → Shows at all step (places_tope at.nodes places low high)

-- the inferences that a place is at most itself, that the end 0 is at most it, and that it is at most the end 1
abbrev pub ShowsEnds : Setting → List Inference → Places → ℕ → ℕ × ℕ × ℕ → Type 0
ShowsEnds at all places place ends =
    Shows at all ends.0 (places_tope at.nodes places place place)
    × Shows at all ends.1 (places_tope at.nodes places 0 place)
    × Shows at all ends.2 (places_tope at.nodes places place 1)

-- the inference of a disjunction that waits proves it
abbrev pub ProvesWaiting : Setting → List Inference → List Part → Waiting → Type 0
ProvesWaiting at all parts waiting =
    Shows at all waiting.step (disjunction (tope_at at.nodes parts waiting.sides.0) (tope_at at.nodes parts waiting.sides.1))

-- what is known in a branch is proved
pub record ProvesBranch (at : Setting) (all : List Inference) (places : Places) (parts : List Part) (branch : Branch) : Type 0 where
  pub table : ProvesTable at all places branch.table
  pub waiting : All (ProvesWaiting at all parts) branch.waiting.items

-- where inferences are read, the places of a sequent are points, and its parts topes
pub record IsReading (at : Setting) (all : List Inference) (places : Places) (parts : List Part) : Type 0 where
  pub places_are : IsPlaces at.nodes at.context places
  pub parts_are : AreRead at.nodes at.context places all parts

-- each inference that stands at a part's number proves the part
abbrev pub ProvesSteps : Setting → List Inference → List Part → List (Option ℕ) → Type 0
ProvesSteps at all parts steps = (k step : ℕ) → slice_index_or steps k None ≡ Some step → Shows at all step (tope_at at.nodes parts k)
