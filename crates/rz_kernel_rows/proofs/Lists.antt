-- What stands at places of lists.
use Rattle.std.proofs.Common.{◌≡◌, ℕ, zero, suc, ◌<◌, ◌≤◌, List, [], ◌∷◌, ◌++◌, length, get_or, map, All, Some, refl, arith}
use Rattle.std.proofs.lemmas.List.Elements.{All-cons, All-head, All-nil, All-tail}
use Rattle.std.specs.Prelude.{option_map, slice_get}

pub slice_get-map : {A B : Type 0} (f : A → B) (xs : List A) (i : ℕ) → slice_get (map f xs) i ≡ option_map f (slice_get xs i)
slice_get-map f [] i = refl
slice_get-map f (x ∷ xs) zero = refl
slice_get-map f (x ∷ xs) (suc i) = slice_get-map f xs i

-- what stands at a place
pub slice_get_is : {A : Type 0} (xs : List A) (i : ℕ) (x d : A) → slice_get xs i ≡ Some x → (i < length xs) × (get_or xs i d ≡ x)
slice_get_is [] i x d e = absurd cc
slice_get_is (y ∷ xs) zero x d e =
    let same : y ≡ x = cc in
    (omega arith, same)
slice_get_is (y ∷ xs) (suc i) x d e =
    let rest = slice_get_is xs i x d e in
    (omega (arith, rest.0), rest.1)

pub slice_get_there : {A : Type 0} (xs : List A) (i : ℕ) (d : A) → i < length xs → slice_get xs i ≡ Some (get_or xs i d)
slice_get_there [] i d lt = absurd (omega arith)
slice_get_there (x ∷ xs) zero d lt = refl
slice_get_there (x ∷ xs) (suc i) d lt = slice_get_there xs i d (omega arith)

-- what holds of all items holds of one among them
pub All-among : {A : Type 0} (P : A → Type 0) (xs : List A) (y : A) (ys : List A) → All P (xs ++ y ∷ ys) → P y
All-among P [] y ys h = All-head P y ys h
All-among P (x ∷ xs) y ys h = All-among P xs y ys (All-tail P x (xs ++ y ∷ ys) h)

pub All-front : {A : Type 0} (P : A → Type 0) (xs : List A) (y : A) → All P (xs ++ y ∷ []) → All P xs
All-front P [] y h = All-nil P
All-front P (x ∷ xs) y h = All-cons P x xs (All-head P x (xs ++ y ∷ []) h) (All-front P xs y (All-tail P x (xs ++ y ∷ []) h))

-- lists of one item and of two
pub one_item : {A : Type 0} (xs : List A) (d : A) → 1 ≤ length xs → length xs < 2 → xs ≡ get_or xs 0 d ∷ []
one_item [] d some few = absurd (omega arith)
one_item (x ∷ []) d some few = refl
one_item (x ∷ y ∷ xs) d some few = absurd (omega arith)

pub two_items : {A : Type 0} (xs : List A) (d : A) → 2 ≤ length xs → length xs < 3 → xs ≡ get_or xs 0 d ∷ get_or xs 1 d ∷ []
two_items [] d some few = absurd (omega arith)
two_items (x ∷ []) d some few = absurd (omega arith)
two_items (x ∷ y ∷ []) d some few = refl
two_items (x ∷ y ∷ z ∷ xs) d some few = absurd (omega arith)
