-- The places of a sequent.
use Rattle.std.specs.Prelude.{◌≡◌, ℕ, ◌<◌, List, length}
use Rattle.std.specs.List.{slice_index_or}
use Rattle.rz_rules.specs.declared.nodes.Node.{Node}
use Rattle.rz_rules.specs.Tree.{Tree, tree_of}
use Rattle.rz_rules.specs.Cube.{binders_of, cube_two}
use Rattle.rz_rules.specs.Tope.{IsPointOf, one_end, zero_end}
use Rattle.rz_tope_proof.specs.declared.places.Places.{Places}

-- the id of a place's point
abbrev pub point_at : Places → ℕ → ℕ
point_at places place = slice_index_or places.points place 0

-- an id is that of a point of the directed interval over what a context binds
pub record IsPoint (nodes : List Node) (context : Tree) (id : ℕ) : Type 0 where
  pub live : id < length nodes
  pub over : IsPointOf (binders_of context) cube_two (tree_of nodes id)

-- what is known of the places over a context
pub record IsPlaces (nodes : List Node) (context : Tree) (places : Places) : Type 0 where
  pub live : places.interval < length nodes
  pub interval : tree_of nodes places.interval ≡ cube_two
  pub points : (place : ℕ) → place < places.count → IsPoint nodes context (point_at places place)
  pub zero : tree_of nodes (point_at places 0) ≡ zero_end
  pub one : tree_of nodes (point_at places 1) ≡ one_end
