-- Parts have values in each order, and the ranks of a table refute where it does.
use Rattle.std.proofs.Common.{◌≡◌, ℕ, suc, ◌+◌, ◌<◌, ◌≤◌, Bool, false, List, [], ◌∷◌, ◌++◌, length, get_or, Some, refl, sym, ap, ◌∙◌, subst, append_assoc, arith}
use Rattle.std.specs.Prelude.{All, map, slice_get}
use Rattle.std.proofs.lemmas.List.{append-nil, get_or_append_left, length-append}
use Rattle.std.proofs.Math.Seq.{get_or-append_seam}
use Rattle.std.proofs.lemmas.List.Elements.{All-nil, All-cons}
use Rattle.std.proofs.lemmas.Option.{slice_get_within}
use Rattle.rz_rules.specs.declared.coordinates.Coord.{Coord}
use Rattle.rz_rules.specs.Validity.{IsRankList}
use Rattle.rz_tope_proof.specs.declared.parts.Part.{Part}
use Rattle.rz_tope_proof.specs.Order.{IsOrder, Order, rank}
use Rattle.rz_tope_proof.specs.Part.{AreParts, AreValues, value_over}
use Rattle.rz_tope_proof.specs.Ranks.{ranks_from}
use Rattle.rz_tope_search.proofs.PartStatuses.{says-next, value_over-reads}
use Rattle.rz_tope_search.proofs.RankOrders.{rank-small}

-- whether the part with a number is true, by a list
abbrev is_true_in : List Bool → ℕ → Bool
is_true_in list k = get_or list k false

-- the values of parts in an order, each found from those of the parts before it
abbrev build : Order → List Bool → List Part → List Bool
build le list [] = list
build le list (part ∷ rest) = build le (list ++ value_over le (is_true_in list) part.form ∷ []) rest

module _ (count : ℕ) (le : Order) (parts : List Part) (made : AreParts count parts) where
  -- the first parts have these values
  abbrev AreFirst : List Bool → ℕ → Type 0
  AreFirst list i = (k : ℕ) (part : Part) → k < i → slice_get parts k ≡ Some part → is_true_in list k ≡ value_over le (is_true_in list) part.form

  at_seam : {A : Type 0} (xs : List A) (x : A) (ys : List A) → slice_get (xs ++ x ∷ ys) (length xs) ≡ Some x
  at_seam [] x ys = refl
  at_seam (y ∷ xs) x ys = at_seam xs x ys

  build-first : (list : List Bool) (front rest : List Part) → front ++ rest ≡ parts → length list ≡ length front
      → AreFirst list (length list) → AreFirst (build le list rest) (length parts)
  build-first list front [] whole same first =
      subst (AreFirst list) (same ∙ ap (λ (l : List Part). length l) (sym (append-nil front) ∙ whole)) first
  build-first list front (part ∷ rest) whole same first =
      let status : Bool = value_over le (is_true_in list) part.form in
      let here : slice_get parts (length list) ≡ Some part =
      ap (λ (l : List Part). slice_get l (length list)) (sym whole) ∙ (ap (slice_get (front ++ part ∷ rest)) same ∙ at_seam front part rest) in
      let next = says-next count (value_over le) (value_over-reads count le) parts made (is_true_in list) (is_true_in (list ++ status ∷ [])) (length list)
      (λ k less. get_or_append_left list (status ∷ []) false k less) first
      (λ other at. let one : Some part ≡ Some other = sym here ∙ at in let is : part ≡ other = cc in
      get_or-append_seam list status [] false ∙ ap (λ (p : Part). value_over le (is_true_in list) p.form) is) in
      let longer : length (list ++ status ∷ []) ≡ length list + 1 = length-append list (status ∷ []) in
      let further : length (front ++ part ∷ []) ≡ length front + 1 = length-append front (part ∷ []) in
      build-first (list ++ status ∷ []) (front ++ part ∷ []) rest (append_assoc front (part ∷ []) rest ∙ whole) (omega (longer, further, same, arith))
      (subst (AreFirst (list ++ status ∷ [])) (sym longer) next)

  -- all of them have
  abbrev pub values : ℕ → Bool
  values = is_true_in (build le [] parts)

  pub values-are : AreValues le parts values
  values-are k part at =
      build-first [] [] parts refl refl (λ j other less there. absurd (omega (less, arith))) k part (slice_get_within parts k part at) at

-- ranks of coordinates are a rank list of these
ranks_length : (r : ℕ → ℕ) (place : ℕ) (list : List Coord) → length (ranks_from r place list) ≡ length list
ranks_length r place [] = refl
ranks_length r place (first ∷ rest) = ap suc (ranks_length r (place + 1) rest)

ranks_coordinates : (r : ℕ → ℕ) (place : ℕ) (list : List Coord) → map (λ pair. pair.0) (ranks_from r place list) ≡ list
ranks_coordinates r place [] = refl
ranks_coordinates r place (first ∷ rest) = ap (λ (l : List Coord). first ∷ l) (ranks_coordinates r (place + 1) rest)

ranks_small : (r : ℕ → ℕ) (place most : ℕ) (list : List Coord) → ((x : ℕ) → x < place + length list → r x ≤ most)
    → All (λ pair. pair.1 ≤ most) (ranks_from r place list)
ranks_small r place most [] small = All-nil (λ pair. pair.1 ≤ most)
ranks_small r place most (first ∷ rest) small =
    All-cons (λ pair. pair.1 ≤ most) (first, r place) (ranks_from r (place + 1) rest) (small place (omega arith))
    (ranks_small r (place + 1) most rest (λ x less. small x (omega (less, arith))))

pub rank_list : (count : ℕ) (le : Order) (list : List Coord) → IsOrder count le → count ≡ length list + 2
    → IsRankList list (ranks_from (rank count le) 2 list)
rank_list count le list order is =
    let long = ranks_length (rank count le) 2 list in record {
      coordinates_are = ranks_coordinates (rank count le) 2 list;
      small = subst (λ (n : ℕ). All (λ pair. pair.1 ≤ n + 1) (ranks_from (rank count le) 2 list)) (sym long)
          (ranks_small (rank count le) 2 (length list + 1) list (λ x less.
          let small = rank-small count le (omega (is, arith)) order x (omega (less, is, arith)) in omega (small, is, arith)));
    }
