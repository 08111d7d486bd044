-- The sides of comparisons.
use Rattle.std.proofs.Common.{◌≡◌, ℕ, zero, suc, ◌+◌, ◌<◌, List, [], ◌∷◌, length, get_or, Option, Some, None, refl, sym, ap, subst, ◌∙◌, arith}
use Rattle.std.proofs.lemmas.Option.{slice_get-get_or}
use Rattle.rz_rules.specs.declared.coordinates.Coord.{Coord}
use Rattle.rz_rules.specs.declared.coordinates.Coord.TheVariants as coordinate
use Rattle.rz_rules.specs.declared.nodes.Node.{Node}
use Rattle.rz_rules.specs.Tree.{Tree, tree_of}
use Rattle.rz_rules.specs.Cube.{binders_of, cube_two}
use Rattle.rz_rules.specs.Tope.{cube_of, IsPointOf}
use Rattle.rz_rules.specs.Coordinate.{coordinates, point_of}
use Rattle.rz_pool.specs.Pool.{IsPool}
use Rattle.rz_tope_proof.specs.declared.places.Places.{Places}
use Rattle.rz_tope_proof.specs.declared.proof.Inference.{Inference}
use Rattle.rz_tope_proof.specs.Place.{IsPlaces, IsPoint, point_at}
use Rattle.rz_tope_proof.specs.Reading.{IsPlacedBy}
use Rattle.rz_tope_normal.specs.declared.norms.Norm.{Norm}
use Rattle.rz_tope_normal.specs.Later.{IsEqualBy}
use Rattle.rz_tope_normal.specs.Norm.{IsNorm}
use Rattle.rz_tope_normal.specs.Placed.{ArePlacesOf, AreCoordinates, IsAmong, IsPlaceOf, place_of, position}
use Rattle.rz_tope_normal.proofs.NormalPoints.{normal_point}
use Rattle.rz_tope_normal.proofs.Membership.{has_is}

module _ (nodes : List Node) (places : Places) (list : List Coord) (are : ArePlacesOf nodes places list) where
  -- the place of a coordinate that is an end or in the list
  pub place_there : (c : Coord) → IsAmong list c → (place_of list c < places.count) × IsPlaceOf nodes places (place_of list c) c
  place_there coordinate.Zero among = (omega (arith, are.count), are.zero)
  place_there coordinate.One among = (omega (arith, are.count), are.one)
  place_there (coordinate.Of variable path) among =
      let here = among refl in (
        omega (arith, are.count, here),
        are.each (position list (coordinate.Of variable path)) (coordinate.Of variable path)
            (has_is list (coordinate.Of variable path) here),
      )

-- an equation to the point of a place
pub placed_by : (nodes : List Node) (context : Tree) (places : Places) (all : List Inference) (point form place : ℕ) (equation : Option ℕ)
    → form ≡ point_at places place → IsEqualBy nodes context all cube_two point form equation → IsPlacedBy nodes context places all point place
    equation
placed_by nodes context places all point form place None e h = h ∙ e
placed_by nodes context places all point form place (Some step) e h = subst (λ (id : ℕ). IsEqualBy nodes context all cube_two point id (Some step)) e
    h

-- the normal form of a point of the directed interval is the point of its place
pub form_is : (nodes : List Node) (context : Tree) (places : Places) (list : List Coord) (all : List Inference) → ArePlacesOf nodes places list →
    IsPool nodes
    → (point : ℕ) (norm : Norm) → IsNorm nodes context all point norm cube_two → IsPointOf (binders_of context) cube_two (tree_of nodes point)
    → (c : Coord) → coordinates (binders_of context) (tree_of nodes point) ≡ c ∷ [] → IsAmong list c → norm.form ≡ point_at places (place_of list c)
form_is nodes context places list all are pool point norm is over c e among =
    let there = (place_there nodes places list are c among).1 in
    let known = normal_point (binders_of context) (tree_of nodes point) over in
    let lists : known.0 ∷ [] ≡ c ∷ [] = sym known.1 ∙ e in
    let same : known.0 ≡ c = cc in
    pool.shared norm.form (point_at places (place_of list c)) is.live there.live (is.form ∙ known.2 ∙ ap point_of same ∙ sym there.tree)

-- the places of a setting are places over its context
pub places_over : (nodes : List Node) (context : Tree) (places : Places) (list : List Coord) → ArePlacesOf nodes places list → AreCoordinates
    (binders_of context) list
    → IsPlaces nodes context places
places_over nodes context places list are fine = record {
  live = are.there;
  interval = are.interval;
  points = points;
  zero = are.zero.tree;
  one = are.one.tree;
} where
  at : (place : ℕ) (c : Coord) → IsPlaceOf nodes places place c → IsPointOf (binders_of context) cube_two (point_of c) → IsPoint nodes context
      (point_at places place)
  at place c is over = record { live = is.live; over = ap (cube_of (binders_of context)) is.tree ∙ over }

  behind : (k : ℕ) → k < length list → IsPoint nodes context (point_at places (k + 2))
  behind k lt =
      let c : Coord = get_or list k coordinate.Zero in
      at (k + 2) c (are.each k c (slice_get-get_or list k coordinate.Zero lt)) (fine k coordinate.Zero lt)

  points : (place : ℕ) → place < places.count → IsPoint nodes context (point_at places place)
  points zero lt = at 0 coordinate.Zero are.zero refl
  points (suc zero) lt = at 1 coordinate.One are.one refl
  points (suc (suc k)) lt =
      let e : k + 2 ≡ suc (suc k) = omega arith in
      subst (λ (place : ℕ). IsPoint nodes context (point_at places place)) e (behind k (omega (arith, lt, are.count)))
