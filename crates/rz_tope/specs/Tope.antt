-- What is known of topes and points by their ids.
use Rattle.std.specs.Prelude.{◌≡◌, ℕ, Bool, List, All, Option, Some, slice_get}
use Rattle.rz_rules.specs.declared.coordinates.Coord.{Coord}
use Rattle.rz_rules.specs.declared.nodes.Node.{Node}
use Rattle.rz_rules.specs.Tree.{Tree, tree_of}
use Rattle.rz_rules.specs.Cube.{Binders}
use Rattle.rz_rules.specs.Validity.{RankList, rank_in, truth, compared}
use Rattle.rz_cube.specs.declared.points.Points.{Points}
use Rattle.rz_cube.specs.Point.{binders_at}
use Rattle.rz_cube.specs.Cached.{Caches}
use Rattle.rz_tope.specs.Occurrence.{occurrences}

-- the id is cached as a point, and a table has the answer to a question on its tree
pub record HasAnswer {X : Type 0} (answer : Binders → Tree → X) (nodes : List Node) (entries : List ℕ)
    (points : Points) (table : ℕ → Option X) (id : ℕ) : Type 0 where
  pub point : Caches nodes entries points id
  pub is : table id ≡ Some (answer (binders_at nodes entries) (tree_of nodes id))

abbrev pub KidsHaveAnswers : {X : Type 0} → (Binders → Tree → X) → List Node → List ℕ → Points → (ℕ → Option X) → ℕ → Type 0
KidsHaveAnswers answer nodes entries points table id =
    (node : Node) → slice_get nodes id ≡ Some node → All (HasAnswer answer nodes entries points table) node.kids

-- whether a tope is true at these ranks
abbrev pub truth_in : RankList → Binders → Tree → Bool
truth_in ranks binders tope = truth binders (rank_in ranks) tope

abbrev pub KidsHaveTruths : List Node → List ℕ → RankList → Points → (ℕ → Option Bool) → ℕ → Type 0
KidsHaveTruths nodes entries ranks points table id = KidsHaveAnswers (truth_in ranks) nodes entries points table id

-- the coordinates of variables that a tope compares, each once
abbrev pub list_of : Binders → Tree → List Coord
list_of binders tope = occurrences (compared binders tope)

abbrev pub KidsHaveLists : List Node → List ℕ → Points → (ℕ → Option (List Coord)) → ℕ → Type 0
KidsHaveLists nodes entries points table id = KidsHaveAnswers list_of nodes entries points table id
