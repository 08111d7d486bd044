-- What the parts of a sequent say as topes.
use Rattle.std.specs.Prelude.{◌≡◌, ℕ, ◌<◌, List, [], length, Option, Some, None, slice_get}
use Rattle.rz_rules.specs.declared.nodes.Node.{Node}
use Rattle.rz_rules.specs.Tree.{Tree, tree_of}
use Rattle.rz_rules.specs.Cube.{cube_one, cube_two, product}
use Rattle.rz_tope_proof.specs.declared.proof.Inference.{Inference}
use Rattle.rz_tope_proof.specs.declared.places.Places.{Places}
use Rattle.rz_tope_proof.specs.declared.parts.Form.{Form}
use Rattle.rz_tope_proof.specs.declared.parts.Form.TheVariants as form
use Rattle.rz_tope_proof.specs.declared.parts.Part.{Part}
use Rattle.rz_tope_proof.specs.declared.parts.Side.{Side}
use Rattle.rz_tope_proof.specs.Claim.{IsClaim, tope_of}
use Rattle.rz_tope_proof.specs.Part.{part_at}
use Rattle.rz_tope_proof.specs.Place.{IsPoint, point_at}
use Rattle.rz_tope_proof.specs.Proving.{Proves}
use Rattle.rz_rules.specs.Tope.{at_most, bottom, conjunction, disjunction, equal_points, left, pair, right, top}

-- the tope of a part
abbrev pub tope_at : List Node → List Part → ℕ → Tree
tope_at nodes parts k = tope_of nodes (part_at parts k).claim

-- a point is that of its place, or an inference says that it equals it
abbrev pub IsPlacedBy : List Node → Tree → Places → List Inference → ℕ → ℕ → Option ℕ → Type 0
IsPlacedBy nodes context places all point place None = point ≡ point_at places place
IsPlacedBy nodes context places all point place (Some step) =
    Proves nodes context all [] step (equal_points cube_two (tree_of nodes point) (tree_of nodes (point_at places place)))

-- a side of a comparison is a point with its place
pub record IsSide (nodes : List Node) (context : Tree) (places : Places) (all : List Inference) (side : Side) : Type 0 where
  pub place : side.place < places.count
  pub point : IsPoint nodes context side.point
  pub equation : IsPlacedBy nodes context places all side.point side.place side.equation

-- what an equation between points of a product is made of
pub record IsEquationOfPairs (nodes : List Node) (parts : List Part) (of : ℕ × ℕ × ℕ) (one other : ℕ) (pairs : ℕ × ℕ) (tope : Tree)
    : Type 0 where
  pub one_cube : Tree
  pub other_cube : Tree
  pub cube : tree_of nodes of.0 ≡ product one_cube other_cube
  pub says : tope ≡ equal_points (tree_of nodes of.0) (tree_of nodes of.1) (tree_of nodes of.2)
  pub first : tope_at nodes parts one ≡ equal_points one_cube (left (tree_of nodes of.1)) (left (tree_of nodes of.2))
  pub second : tope_at nodes parts other ≡ equal_points other_cube (right (tree_of nodes of.1)) (right (tree_of nodes of.2))
  pub left_live : pairs.0 < length nodes
  pub right_live : pairs.1 < length nodes
  pub left_pair : tree_of nodes pairs.0 ≡ pair (left (tree_of nodes of.1)) (right (tree_of nodes of.1))
  pub right_pair : tree_of nodes pairs.1 ≡ pair (left (tree_of nodes of.2)) (right (tree_of nodes of.2))
  pub cube_live : of.0 < length nodes
  pub one_live : of.1 < length nodes
  pub other_live : of.2 < length nodes

-- what is known of a tope with a form
abbrev pub HasForm : List Node → Tree → Places → List Inference → List Part → Form → Tree → Type 0
HasForm nodes context places all parts form.Top tope = tope ≡ top
HasForm nodes context places all parts form.Bottom tope = tope ≡ bottom
HasForm nodes context places all parts (form.And first second) tope =
    tope ≡ conjunction (tope_at nodes parts first) (tope_at nodes parts second)
HasForm nodes context places all parts (form.Or first second) tope =
    tope ≡ disjunction (tope_at nodes parts first) (tope_at nodes parts second)
HasForm nodes context places all parts (form.AtMost first second) tope =
    IsSide nodes context places all first × IsSide nodes context places all second
    × (tope ≡ at_most (tree_of nodes first.point) (tree_of nodes second.point))
HasForm nodes context places all parts (form.Equal first second) tope =
    IsSide nodes context places all first × IsSide nodes context places all second
    × (tope ≡ equal_points cube_two (tree_of nodes first.point) (tree_of nodes second.point))
HasForm nodes context places all parts (form.EqualPairs of one other pairs) tope =
    IsEquationOfPairs nodes parts of one other pairs tope
HasForm nodes context places all parts form.Same tope = (cube : Tree) × (s : Tree) × (tope ≡ equal_points cube s s)
HasForm nodes context places all parts form.OnePoint tope = (s : Tree) × (u : Tree) × (tope ≡ equal_points cube_one s u)

-- a part says a tope over the context, of its form
pub record IsRead (nodes : List Node) (context : Tree) (places : Places) (all : List Inference) (parts : List Part) (part : Part) : Type 0 where
  pub claim : IsClaim nodes context part.claim
  pub form : HasForm nodes context places all parts part.form (tope_of nodes part.claim)

-- each part does
abbrev pub AreRead : List Node → Tree → Places → List Inference → List Part → Type 0
AreRead nodes context places all parts =
    (k : ℕ) (part : Part) → slice_get parts k ≡ Some part → IsRead nodes context places all parts part
