-- The truth of parts.
use Rattle.std.proofs.Common.{◌≡◌, ℕ, zero, suc, ◌+◌, ◌<◌, Bool, true, false, ◌&&◌, cond, List, [], ◌∷◌, length, map, take, drop, nat_eq, Option, Some, refl, sym, ap, subst, ◌∙◌, arith}
use Rattle.std.specs.Prelude.{◌||◌, nat_le, slice_get, slice_index, unwrap_or}
use Rattle.std.specs.Map.{lookup}
use Rattle.std.specs.Cmp.Lexicographic.{pointwise}
use Rattle.std.proofs.lemmas.Bool.Decides.{nat_tests}
use Rattle.std.proofs.lemmas.Map.Entries.{lookup_head, lookup_tail}
use Rattle.std.proofs.lemmas.Option.{slice_get-get_or}
use Rattle.std.proofs.lemmas.List.{take-map, drop-map, length-map}
use Rattle.rz_rules.specs.declared.coordinates.Coord.{Coord}
use Rattle.rz_rules.specs.declared.coordinates.Coord.TheVariants as coordinate
use Rattle.rz_rules.specs.declared.nodes.Node.{Node}
use Rattle.rz_rules.specs.Tree.{Tree, tree_of}
use Rattle.rz_rules.specs.Cube.{Binders, binders_of, cube_one, product}
use Rattle.rz_rules.specs.Tope.{cube_of, IsPointOf, IsTopeOver, equal_points, left, right}
use Rattle.rz_rules.specs.Coordinate.{are_same, coordinates, left_width, width}
use Rattle.rz_rules.specs.Validity.{rank_in, truth}
use Rattle.rz_metatheory.proofs.Lists.{nothing_equal, numbers_equal}
use Rattle.rz_tope_proof.specs.declared.parts.Form.{Form}
use Rattle.rz_tope_proof.specs.declared.parts.Form.TheVariants as form
use Rattle.rz_tope_proof.specs.declared.parts.Part.{Part}
use Rattle.rz_tope_proof.specs.declared.parts.Side.{Side}
use Rattle.rz_tope_proof.specs.declared.places.Places.{Places}
use Rattle.rz_tope_proof.specs.declared.proof.Inference.{Inference}
use Rattle.rz_tope_proof.specs.Claim.{tope_of}
use Rattle.rz_tope_proof.specs.Part.{AreValues, IsMadeOf, part_at, value_over}
use Rattle.rz_tope_proof.specs.Order.{by_rank}
use Rattle.rz_tope_proof.specs.Reading.{HasForm, tope_at}
use Rattle.rz_tope_normal.specs.Placed.{IsAmong, place_of, position}
use Rattle.rz_tope_proof.specs.Ranks.{ranks_from}
use Rattle.rz_tope_normal.specs.Read.{IsSideAt, HasSides, ArePartsOf, SaysTope}
use Rattle.rz_tope_normal.proofs.NormalPoints.{coordinates_many}
use Rattle.rz_tope_normal.proofs.Membership.{Has, has_rest, same_flip}

-- ---- the ranks of places

long : (rank : ℕ → ℕ) (place : ℕ) (list : List Coord) → length (ranks_from rank place list) ≡ length list
long rank place [] = refl
long rank place (x ∷ xs) = ap suc (long rank (place + 1) xs)

looked_up : (rank : ℕ → ℕ) (place : ℕ) (list : List Coord) (c : Coord) → Has list c
    → lookup (are_same c) (ranks_from rank place list) ≡ Some (rank (position list c + place))
looked_up rank place [] c h = absurd (omega arith)
looked_up rank place (x ∷ xs) c h = by (are_same x c) refl (λ lt. looked_up rank (place + 1) xs c lt) where
  by : (b : Bool) → are_same x c ≡ b → (Has xs c → lookup (are_same c) (ranks_from rank (place + 1) xs) ≡ Some (rank (position xs c + (place + 1))))
      → lookup (are_same c) ((x, rank place) ∷ ranks_from rank (place + 1) xs) ≡ Some (rank (cond b 0 (position xs c + 1) + place))
  by true e rest = lookup_head (are_same c) (x, rank place) (ranks_from rank (place + 1) xs) (sym (same_flip x c) ∙ e)
      ∙ (let none : place ≡ 0 + place = omega arith in ap (λ n. Some (rank n)) none)
  by false e rest =
      let next : position xs c + (place + 1) ≡ (position xs c + 1) + place = omega arith in
      lookup_tail (are_same c) (x, rank place) (ranks_from rank (place + 1) xs) (sym (same_flip x c) ∙ e)
      ∙ rest (has_rest (are_same x c) (position xs c) (length xs) e h) ∙ ap (λ n. Some (rank n)) next

-- a coordinate has the rank of its place
pub ranked : (rank : ℕ → ℕ) (list : List Coord) → rank 0 ≡ 0 → rank 1 ≡ length list + 1 → (c : Coord) → IsAmong list c
    → rank_in (ranks_from rank 2 list) c ≡ rank (place_of list c)
ranked rank list zero_is one_is coordinate.Zero among = sym zero_is
ranked rank list zero_is one_is coordinate.One among = ap (λ n. n + 1) (long rank 2 list) ∙ sym one_is
ranked rank list zero_is one_is (coordinate.Of variable path) among = ap (λ o. unwrap_or o 0)
    (looked_up rank 2 list (coordinate.Of variable path) (among refl))

-- ---- equations

both_ways : (x y : ℕ) → (nat_eq x y && true) ≡ (nat_le x y && nat_le y x)
both_ways x y = grind (arith, nat_tests)

and_both : (a b c : Bool) → (a && (b && c)) ≡ ((a && b) && c)
and_both true b c = refl
and_both false b c = refl

cut : (n : ℕ) (xs ys : List ℕ) → pointwise nat_eq xs ys ≡ (pointwise nat_eq (take n xs) (take n ys) && pointwise nat_eq (drop n xs) (drop n ys))
cut zero xs ys = refl
cut (suc n) [] [] = refl
cut (suc n) [] (y ∷ ys) = refl
cut (suc n) (x ∷ xs) [] = refl
cut (suc n) (x ∷ xs) (y ∷ ys) = ap (λ b. nat_eq x y && b) (cut n xs ys) ∙ and_both (nat_eq x y) (pointwise nat_eq (take n xs) (take n ys))
    (pointwise nat_eq (drop n xs) (drop n ys))

module _ (binders : Binders) (r : Coord → ℕ) where
  abbrev numbers : Tree → List ℕ
  numbers point = map r (coordinates binders point)

  left_numbers : (s one other : Tree) → cube_of binders s ≡ Some (product one other) → take (width one) (numbers s) ≡ numbers (left s)
  left_numbers s one other e =
      take-map r (width one) (coordinates binders s) ∙ ap (λ (o : Option Tree). map r (take (left_width o) (coordinates binders s))) (sym e)

  right_numbers : (s one other : Tree) → cube_of binders s ≡ Some (product one other) → drop (width one) (numbers s) ≡ numbers (right s)
  right_numbers s one other e =
      drop-map r (width one) (coordinates binders s) ∙ ap (λ (o : Option Tree). map r (drop (left_width o) (coordinates binders s))) (sym e)

  pub pairs_true : (cube s u one other : Tree) → cube ≡ product one other → IsPointOf binders cube s → IsPointOf binders cube u
      → truth binders r (equal_points cube s u) ≡ (truth binders r (equal_points one (left s) (left u)) && truth binders r (equal_points other (right s) (right u)))
  pairs_true cube s u one other e hs hu =
      let s_is : cube_of binders s ≡ Some (product one other) = hs ∙ ap Some e in
      let u_is : cube_of binders u ≡ Some (product one other) = hu ∙ ap Some e in
      cut (width one) (numbers s) (numbers u)
      ∙ (λ i. pointwise nat_eq (left_numbers s one other s_is i) (left_numbers u one other u_is i)
      && pointwise nat_eq (right_numbers s one other s_is i) (right_numbers u one other u_is i))

  pub one_true : (s u : Tree) → IsPointOf binders cube_one s → IsPointOf binders cube_one u → truth binders r (equal_points cube_one s u) ≡ true
  one_true s u hs hu =
      numbers_equal (numbers s) (numbers u) (nothing_equal (numbers s) (numbers u)
      (length-map (coordinates binders s) r ∙ coordinates_many binders s cube_one hs)
      (length-map (coordinates binders u) r ∙ coordinates_many binders u cube_one hu))

-- ---- each part is true where the tope is that it says

module _ (nodes : List Node) (context : Tree) (list : List Coord) (places : Places) (all : List Inference) (parts : List Part)
    (are : ArePartsOf nodes context list places all parts) (rank : ℕ → ℕ) (zero_is : rank 0 ≡ 0) (one_is : rank 1 ≡ length list + 1)
    (value : ℕ → Bool) (values : AreValues (by_rank rank) parts value) where
  abbrev b : Binders
  b = binders_of context

  abbrev r : Coord → ℕ
  r = rank_in (ranks_from rank 2 list)

  side_number : (side : Side) (at : IsSideAt nodes b list side) → r at.coordinate ≡ rank side.place
  side_number side at = ranked rank list zero_is one_is at.coordinate at.among ∙ ap rank (sym at.place)

  form_true : (k : ℕ) (f : Form) (tope : Tree) → IsMadeOf k places.count f → HasForm nodes context places all parts f tope → HasSides nodes b list f
      → IsTopeOver b tope → ((j : ℕ) → j < k → truth b r (tope_at nodes parts j) ≡ value j) → truth b r tope ≡ value_over (by_rank rank) value f
  form_true k form.Top tope made has sides over ih = ap (truth b r) has
  form_true k form.Bottom tope made has sides over ih = ap (truth b r) has
  form_true k (form.And p q) tope made has sides over ih = ap (truth b r) has ∙ (λ i. ih p made.0 i && ih q made.1 i)
  form_true k (form.Or p q) tope made has sides over ih = ap (truth b r) has ∙ (λ i. ih p made.0 i || ih q made.1 i)
  form_true k (form.AtMost s u) tope made has sides over ih =
      ap (truth b r) has.2
      ∙ (λ i. nat_le (slice_index (map r (sides.0.point i)) 0) (slice_index (map r (sides.1.point i)) 0))
      ∙ (λ i. nat_le (side_number s sides.0 i) (side_number u sides.1 i))
  form_true k (form.Equal s u) tope made has sides over ih =
      ap (truth b r) has.2
      ∙ (λ i. pointwise nat_eq (map r (sides.0.point i)) (map r (sides.1.point i)))
      ∙ both_ways (r sides.0.coordinate) (r sides.1.coordinate)
      ∙ (λ i. nat_le (side_number s sides.0 i) (side_number u sides.1 i) && nat_le (side_number u sides.1 i) (side_number s sides.0 i))
  form_true k (form.EqualPairs of p q pairs) tope made has sides over ih =
      let points = subst (IsTopeOver b) has.says over in
      ap (truth b r) has.says
      ∙ pairs_true b r (tree_of nodes of.0) (tree_of nodes of.1) (tree_of nodes of.2) has.one_cube has.other_cube has.cube points.0 points.1
      ∙ (λ i. truth b r (sym has.first i) && truth b r (sym has.second i))
      ∙ (λ i. ih p made.0 i && ih q made.1 i)
  form_true k form.Same tope made has sides over ih =
      ap (truth b r) has.2 ∙ numbers_equal (map r (coordinates b has.1)) (map r (coordinates b has.1)) refl
  form_true k form.OnePoint tope made has sides over ih =
      let points = subst (IsTopeOver b) has.2 over in
      ap (truth b r) has.2 ∙ one_true b r has.0 has.1 points.0 points.1

  true_below : (bound k : ℕ) → k < bound → k < length parts → truth b r (tope_at nodes parts k) ≡ value k
  true_below zero k lt there = absurd (omega arith)
  true_below (suc bound) k lt there =
      let part : Part = part_at parts k in
      let e : slice_get parts k ≡ Some part = slice_get-get_or parts k _ there in
      let is = are k part e in
      form_true k part.form (tope_of nodes part.claim) is.made is.read.form is.sides is.read.claim.over
      (λ j l. true_below bound j (omega arith) (omega arith))
      ∙ sym (values k part e)

  pub part_true : (k : ℕ) (tope : Tree) → SaysTope nodes parts k tope → truth b r tope ≡ value k
  part_true k tope says = ap (truth b r) (sym says.says) ∙ true_below (suc k) k (omega arith) says.within
