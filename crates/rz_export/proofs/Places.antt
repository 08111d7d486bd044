-- Places in rising lists, and what is true at them.
use Rattle.std.proofs.Common.{◌≡◌, ℕ, zero, suc, ◌<◌, List, [], ◌∷◌, ◌++◌, Some, length, get_or, map, All, Contains, slice_get, refl, sym, ap, subst, ◌∙◌, inl, inr, arith}
use Rattle.std.specs.Prelude.{◌↔◌}
use Rattle.std.proofs.lemmas.List.{get_or-map, get_or_append_left}
use Rattle.std.proofs.lemmas.List.Elements.{All-head, All-tail, All-cons, All-nil}
use Rattle.std.proofs.lemmas.Option.{slice_get_within, slice_get-get_or, get_or_from_slice_get}
use Rattle.std.proofs.lemmas.Bool.{cases_lt}
use Rattle.rz_log.specs.Reachable.{IsRising}
use Rattle.rz_export.specs.Moves.{ArePlaces}

pub at_seam : {X : Type 0} (front : List X) (x : X) (rest : List X) → slice_get (front ++ x ∷ rest) (length front) ≡ Some x
at_seam [] x rest = refl
at_seam (first ∷ front) x rest = at_seam front x rest

-- a list that is another has what that has
pub same_contents : (xs ys : List ℕ) (P : ℕ → Type 0) → ys ≡ xs → ((x : ℕ) → Contains xs x ↔ P x) → (x : ℕ) → Contains ys x ↔ P x
same_contents xs ys P same exact x = subst (λ (zs : List ℕ). Contains zs x ↔ P x) (sym same) (exact x)

-- a number at a place
pub number_at : (list : List ℕ) (place x : ℕ) → slice_get list place ≡ Some x → get_or list place 0 ≡ x
number_at list place x e = get_or_from_slice_get list place x 0 e

pub contained : {X : Type 0} (list : List X) (place : ℕ) (x : X) → slice_get list place ≡ Some x → Contains list x
contained list place x e = (place, slice_get_within list place x e, get_or_from_slice_get list place x x e)

pub place_of : {X : Type 0} (list : List X) (x : X) → Contains list x → (place : ℕ) × (slice_get list place ≡ Some x)
place_of list x there = (there.0, slice_get-get_or list there.0 x there.1 ∙ ap (λ y. Some y) there.2)

-- a rising list has a number once
pub same_place : (list : List ℕ) → IsRising list → (i j x : ℕ) → slice_get list i ≡ Some x → slice_get list j ≡ Some x → i ≡ j
same_place list rising i j x ei ej =
    let li = slice_get_within list i x ei in
    let lj = slice_get_within list j x ej in
    let xi = number_at list i x ei in
    let xj = number_at list j x ej in
    elim (cases_lt i j) [
      | inl before ↦ let wrong = rising i j 0 before lj in absurd (omega (arith, wrong, xi, xj))
      | inr from ↦ elim (cases_lt j i) [
        | inl after ↦ let wrong = rising j i 0 after li in absurd (omega (arith, wrong, xi, xj))
        | inr upto ↦ omega arith
      ]
    ]

-- a number that is less than another stands before it
pub place_before : (list front rest : List ℕ) (last : ℕ) → list ≡ front ++ last ∷ rest → IsRising list
    → (place x : ℕ) → slice_get list place ≡ Some x → x < last → place < length front
place_before list front rest last parts rising place x e less =
    elim (cases_lt place (length front)) [
      | inl before ↦ before
      | inr from ↦
          let seam = number_at list (length front) last (ap (λ (l : List ℕ). slice_get l (length front)) parts ∙ at_seam front last rest) in
          let here = number_at list place x e in
          elim (cases_lt (length front) place) [
            | inl after ↦
                let wrong = rising (length front) place 0 after (slice_get_within list place x e) in
                absurd (omega (arith, wrong, seam, here, less))
            | inr upto ↦
                let same : place ≡ length front = omega arith in
                let number : x ≡ last = sym here ∙ (ap (λ k. get_or list k 0) same ∙ seam) in
                absurd (omega (arith, number, less))
          ]
    ]

-- what a function says of the number at a place
pub looked_up : {X : Type 0} (f : ℕ → X) (d : X) (list front more : List ℕ) → list ≡ front ++ more → (place x : ℕ) → place < length front
    → slice_get list place ≡ Some x → get_or (map f front) place d ≡ f x
looked_up f d list front more parts place x within e =
    get_or-map f front place 0 d within
    ∙ ap f (sym (get_or_append_left front more 0 place within)
    ∙ get_or_from_slice_get (front ++ more) place x 0 (sym (ap (λ (l : List ℕ). slice_get l place) parts) ∙ e))

-- what holds of numbers holds of their places
pub places_meet : (P Q : ℕ → Type 0) (list numbers places : List ℕ) → ((place number : ℕ) → slice_get list place ≡ Some number → P number → Q place)
    → ArePlaces list numbers places → All P numbers → All Q places
places_meet P Q list [] [] each e h = All-nil Q
places_meet P Q list [] (place ∷ places) each e h = absurd cc
places_meet P Q list (number ∷ numbers) [] each e h = absurd cc
places_meet P Q list (number ∷ numbers) (place ∷ places) each e h =
    let first : slice_get list place ≡ Some number = cc in
    let others : map (slice_get list) places ≡ map (λ n. Some n) numbers = cc in
    All-cons Q place places (each place number first (All-head P number numbers h)) (places_meet P Q list numbers places each others (All-tail P number numbers h))

pub places_within : (list numbers places : List ℕ) → ArePlaces list numbers places → All (λ place. place < length list) places
places_within list [] [] e = All-nil (λ place. place < length list)
places_within list [] (place ∷ places) e = absurd cc
places_within list (number ∷ numbers) [] e = absurd cc
places_within list (number ∷ numbers) (place ∷ places) e =
    let first : slice_get list place ≡ Some number = cc in
    let others : map (slice_get list) places ≡ map (λ n. Some n) numbers = cc in
    All-cons (λ p. p < length list) place places (slice_get_within list place number first) (places_within list numbers places others)

-- two functions agree, of which one goes by the places
pub places_agree : {X : Type 0} (g h : ℕ → X) (P : ℕ → Type 0) (list numbers places : List ℕ)
    → ((place number : ℕ) → slice_get list place ≡ Some number → P number → g place ≡ h number)
    → ArePlaces list numbers places → All P numbers → map g places ≡ map h numbers
places_agree g h P list [] [] each e all = refl
places_agree g h P list [] (place ∷ places) each e all = absurd cc
places_agree g h P list (number ∷ numbers) [] each e all = absurd cc
places_agree g h P list (number ∷ numbers) (place ∷ places) each e all =
    let first : slice_get list place ≡ Some number = cc in
    let others : map (slice_get list) places ≡ map (λ n. Some n) numbers = cc in
    let one = each place number first (All-head P number numbers all) in
    let rest = places_agree g h P list numbers places each others (All-tail P number numbers all) in
    λ i. one i ∷ rest i

-- a number among others has its place among theirs
pub place_among : (list numbers places : List ℕ) → ArePlaces list numbers places → (number : ℕ) → Contains numbers number
    → (place : ℕ) × Contains places place × (slice_get list place ≡ Some number)
place_among list [] places e number there = absurd (omega (arith, there.1))
place_among list (first ∷ numbers) [] e number there = absurd cc
place_among list (first ∷ numbers) (place ∷ places) e number (zero, within, is) =
    let one : slice_get list place ≡ Some first = cc in
    (place, (0, omega arith, refl), one ∙ ap (λ n. Some n) is)
place_among list (first ∷ numbers) (place ∷ places) e number (suc k, within, is) =
    let others : map (slice_get list) places ≡ map (λ n. Some n) numbers = cc in
    let found = place_among list numbers places others number (k, omega (arith, within), is) in
    (found.0, (suc found.1.0, omega (arith, found.1.1), found.1.2), found.2)
