-- Lists of numbers as the coordinates of points, and their order.
use Rattle.std.proofs.Common.{◌≡◌, ℕ, ◌≤◌, List, [], ◌∷◌, ◌++◌, length, take, drop, All, true, false, Bool, ◌⊎◌, inl, inr, refl, ap, subst, arith}
use Rattle.std.specs.Prelude.{◌||◌, nat_eq, nat_le, slice_index}
use Rattle.std.specs.Cmp.Lexicographic.{pointwise}
use Rattle.std.proofs.Math.Seq.{take-append_seam, drop-append_seam}
use Rattle.std.proofs.lemmas.Bool.Decides.{nat_tests}
use Rattle.std.proofs.lemmas.List.Elements.{All-head}
use Rattle.std.proofs.lemmas.Slice.Eq.{bytes_eq-Decides}

-- equal points have equal numbers
pub equal_numbers : (xs ys : List ℕ) → pointwise nat_eq xs ys ≡ true → xs ≡ ys
equal_numbers xs ys h = (bytes_eq-Decides xs ys).0 h

pub numbers_equal : (xs ys : List ℕ) → xs ≡ ys → pointwise nat_eq xs ys ≡ true
numbers_equal xs ys e = (bytes_eq-Decides xs ys).1 e

-- numbers of a pair are cut where they were joined
pub take_joined : (n : ℕ) (xs ys : List ℕ) → length xs ≡ n → take n (xs ++ ys) ≡ xs
take_joined n xs ys e = subst (λ m. take m (xs ++ ys) ≡ xs) e (take-append_seam xs ys)

pub drop_joined : (n : ℕ) (xs ys : List ℕ) → length xs ≡ n → drop n (xs ++ ys) ≡ ys
drop_joined n xs ys e = subst (λ m. drop m (xs ++ ys) ≡ ys) e (drop-append_seam xs ys)

pub nothing_equal : (xs ys : List ℕ) → length xs ≡ 0 → length ys ≡ 0 → xs ≡ ys
nothing_equal [] [] m n = refl
nothing_equal (x ∷ xs) ys m n = absurd (omega (arith, m))
nothing_equal xs (y ∷ ys) m n = absurd (omega (arith, n))

pub one_equal : (xs ys : List ℕ) → length xs ≡ 1 → length ys ≡ 1 → slice_index xs 0 ≡ slice_index ys 0 → xs ≡ ys
one_equal (x ∷ []) (y ∷ []) m n e = ap (λ z. z ∷ []) e
one_equal [] ys m n e = absurd (omega (arith, m))
one_equal (x ∷ []) [] m n e = absurd (omega (arith, n))
one_equal (x ∷ y ∷ xs) ys m n e = absurd (omega (arith, m))
one_equal (x ∷ []) (y ∷ z ∷ ys) m n e = absurd (omega (arith, n))

pub one_at_most : (last : ℕ) (xs : List ℕ) → length xs ≡ 1 → All (λ n. n ≤ last) xs → slice_index xs 0 ≤ last
one_at_most last [] m all = absurd (omega (arith, m))
one_at_most last (x ∷ xs) m all = All-head (λ n. n ≤ last) x xs all

pub either_true : (a b : Bool) → (a || b) ≡ true → (a ≡ true) ⊎ (b ≡ true)
either_true true b h = inl refl
either_true false b h = inr h

pub left_true : (a b : Bool) → a ≡ true → (a || b) ≡ true
left_true a b h = ap (λ x. x || b) h

pub right_true : (a b : Bool) → b ≡ true → (a || b) ≡ true
right_true true b h = refl
right_true false b h = h

pub le_true : (x y : ℕ) → x ≤ y → nat_le x y ≡ true
le_true x y h = grind (arith, nat_tests)

pub true_le : (x y : ℕ) → nat_le x y ≡ true → x ≤ y
true_le x y h = grind (arith, nat_tests)

pub le_total : (x y : ℕ) → (nat_le x y || nat_le y x) ≡ true
le_total x y = grind (arith, nat_tests)
