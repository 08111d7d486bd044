-- What stands at places of lists.
use Rattle.std.proofs.Common.{◌≡◌, ℕ, zero, suc, ◌<◌, List, [], ◌∷◌, length, get_or, map, Some, refl, arith}
use Rattle.std.specs.Prelude.{option_map, slice_get}

pub slice_get-map : {A B : Type 0} (f : A → B) (xs : List A) (i : ℕ) → slice_get (map f xs) i ≡ option_map f (slice_get xs i)
slice_get-map f [] i = refl
slice_get-map f (x ∷ xs) zero = refl
slice_get-map f (x ∷ xs) (suc i) = slice_get-map f xs i

-- what stands at a place
pub slice_get_is : {A : Type 0} (xs : List A) (i : ℕ) (x d : A) → slice_get xs i ≡ Some x → (i < length xs) × (get_or xs i d ≡ x)
slice_get_is [] i x d e = absurd cc
slice_get_is (y ∷ xs) zero x d e =
    let same : y ≡ x = cc in
    (omega arith, same)
slice_get_is (y ∷ xs) (suc i) x d e =
    let rest = slice_get_is xs i x d e in
    (omega (arith, rest.0), rest.1)

pub slice_get_there : {A : Type 0} (xs : List A) (i : ℕ) (d : A) → i < length xs → slice_get xs i ≡ Some (get_or xs i d)
slice_get_there [] i d lt = absurd (omega arith)
slice_get_there (x ∷ xs) zero d lt = refl
slice_get_there (x ∷ xs) (suc i) d lt = slice_get_there xs i d (omega arith)
