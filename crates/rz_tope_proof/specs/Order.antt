-- Orders of the places of a sequent, and the ranks that an order gives.
use Rattle.std.specs.Prelude.{◌≡◌, ℕ, zero, suc, ◌+◌, ◌-◌, ◌<◌, nat_le, ◌&&◌, not, Bool, true, cond}

-- which places are at most which
abbrev pub Order : Type 0
Order = ℕ → ℕ → Bool

-- The places below a count are ordered: each is at most itself, what is at most what is transitive, the place 0 is the
-- least, and the place 1 the greatest.
pub record IsOrder (count : ℕ) (le : Order) : Type 0 where
  pub reflexive : (x : ℕ) → x < count → le x x ≡ true
  pub transitive : (x y z : ℕ) → x < count → y < count → z < count → le x y ≡ true → le y z ≡ true → le x z ≡ true
  pub least : (x : ℕ) → x < count → le 0 x ≡ true
  pub greatest : (x : ℕ) → x < count → le x 1 ≡ true

-- what one order says of the places below a count, another says too
abbrev pub IsWithin : ℕ → Order → Order → Type 0
IsWithin count le more = (x y : ℕ) → x < count → y < count → le x y ≡ true → more x y ≡ true

-- how many numbers below a bound pass a test
abbrev pub how_many : (ℕ → Bool) → ℕ → ℕ
how_many test zero = 0
how_many test (suc n) = cond (test n) (how_many test n + 1) (how_many test n)

-- one place is strictly below another
abbrev pub is_below : Order → ℕ → ℕ → Bool
is_below le x y = le x y && not (le y x)

-- The rank of a place: the greatest rank where the place 1 is at most it, and else how many places are strictly below.
abbrev pub rank : ℕ → Order → ℕ → ℕ
rank count le x = cond (le 1 x) (count - 1) (how_many (λ y. is_below le y x) count)

-- the order of these ranks
abbrev pub by_rank : (ℕ → ℕ) → Order
by_rank rank x y = nat_le (rank x) (rank y)
