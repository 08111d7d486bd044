-- Steps of the loops over a table.
use Rattle.std.proofs.Common.{◌≡◌, ◌≢◌, ℕ, suc, ◌+◌, ◌<◌, ◌≤◌, ◌&&◌, not, Bool, true, false, inl, inr, refl, sym, ap, ◌∙◌, arith}
use Rattle.std.specs.Prelude.{◌==◌, ◌||◌, nat_lt}
use Rattle.std.proofs.lemmas.Bool.{eq-eqb, ne_eqb, le-leb, leb-true}
use Rattle.std.proofs.lemmas.Bool.Decides.{eqb_tells, leb_tells}
use Rattle.rz_tope_proof.specs.Order.{Order}
use Rattle.rz_tope_search.specs.Table.{between_ends}
use Rattle.rz_tope_search.proofs.RankOrders.{false_by, and_left, and_right}

-- below the next number is below this one, or this one
pub lt_next : (x n : ℕ) → nat_lt x (n + 1) ≡ (nat_lt x n || (x == n))
lt_next x n = elim (leb_tells (suc x) n) [
  | inl yes_so ↦ le-leb (suc x) (n + 1) (omega (arith, yes_so.1)) ∙ sym (ap (λ b. b || (x == n)) yes_so.0)
  | inr other ↦ elim (eqb_tells x n) [
    | inl same ↦ le-leb (suc x) (n + 1) (omega (arith, same.1)) ∙ sym (ap (λ b. nat_lt x n || b) same.0 ∙ ap (λ b. b || true) other.0)
    | inr apart ↦ false_by (nat_lt x (n + 1)) (λ h.
        let le : suc x ≤ n + 1 = leb-true (suc x) (n + 1) h in
        let ne : x ≢ n = apart.1 in
        let more : n < suc x = other.1 in
        absurd (omega (arith, le, ne, more)))
        ∙ sym (ap (λ b. nat_lt x n || b) apart.0 ∙ ap (λ b. b || false) other.0)
  ]
]

pub lt_none : (x : ℕ) → nat_lt x 0 ≡ false
lt_none x = false_by (nat_lt x 0) (λ h. let le : suc x ≤ 0 = leb-true (suc x) 0 h in absurd (omega (arith, le)))

pub lt_yes : (x n : ℕ) → x < n → nat_lt x n ≡ true
lt_yes x n lt = le-leb (suc x) n lt

-- ---- laws of tests, by trying all values

abbrev same : Bool → Bool → Bool
same true c = c
same false c = not c

same_is : (b c : Bool) → same b c ≡ true → b ≡ c
same_is true true h = refl
same_is true false h = cc
same_is false true h = cc
same_is false false h = refl

-- a second test, where the first one passes
abbrev where_true : Bool → Bool → Bool
where_true true c = c
where_true false c = true

where_true-at : (b c : Bool) → where_true b c ≡ true → b ≡ true → c ≡ true
where_true-at true c h k = h
where_true-at false c h k = cc

same-refl : (b c : Bool) → b ≡ c → same b c ≡ true
same-refl true true h = refl
same-refl true false h = cc
same-refl false true h = cc
same-refl false false h = refl

abbrev every : (Bool → Bool) → Bool
every test = test true && test false

every-at : (test : Bool → Bool) → every test ≡ true → (b : Bool) → test b ≡ true
every-at test h true = and_left (test true) (test false) h
every-at test h false = and_right (test true) (test false) h

-- ---- a comparison more

taken : (b bf bs lt e : Bool) → (e && bf) ≡ e → ((b || (bf && bs && lt)) || (e && bs)) ≡ (b || (bf && bs && (lt || e)))
taken true bf bs lt e h = refl
taken false false bs lt true h = cc
taken false false bs lt false h = refl
taken false true false lt true h = refl
taken false true false lt false h = refl
taken false true true true e h = refl
taken false true true false true h = refl
taken false true true false false h = refl

left_out : (b bf bs lt e : Bool) → (e && bf) ≡ false → (b || (bf && bs && lt)) ≡ (b || (bf && bs && (lt || e)))
left_out true bf bs lt e h = refl
left_out false false bs lt e h = refl
left_out false true false lt e h = refl
left_out false true true true e h = refl
left_out false true true false true h = cc
left_out false true true false false h = refl

same_test : (x low : ℕ) (test : ℕ → Bool) (b : Bool) → test low ≡ b → ((x == low) && test x) ≡ ((x == low) && b)
same_test x low test b h = elim (eqb_tells x low) [
  | inl same ↦ ap (λ (t : Bool). (x == low) && t) (ap test same.1 ∙ h)
  | inr apart ↦ ap (λ (e : Bool). e && test x) apart.0 ∙ sym (ap (λ (e : Bool). e && b) apart.0)
]

and_true_right : (b : Bool) → (b && true) ≡ b
and_true_right true = refl
and_true_right false = refl

and_false_right : (b : Bool) → (b && false) ≡ false
and_false_right true = refl
and_false_right false = refl

pub pair_taken : (le : Order) (x y first second low : ℕ) → le low first ≡ true
    → ((le x y || (le x first && le second y && nat_lt x low)) || ((x == low) && le second y))
    ≡ (le x y || (le x first && le second y && nat_lt x (low + 1)))
pair_taken le x y first second low h =
    taken (le x y) (le x first) (le second y) (nat_lt x low) (x == low)
    (same_test x low (λ z. le z first) true h ∙ and_true_right (x == low))
    ∙ ap (λ b. le x y || (le x first && le second y && b)) (sym (lt_next x low))

pub pair_left_out : (le : Order) (x y first second low : ℕ) → le low first ≡ false
    → (le x y || (le x first && le second y && nat_lt x low)) ≡ (le x y || (le x first && le second y && nat_lt x (low + 1)))
pair_left_out le x y first second low h =
    left_out (le x y) (le x first) (le second y) (nat_lt x low) (x == low)
    (same_test x low (λ z. le z first) false h ∙ and_false_right (x == low))
    ∙ ap (λ b. le x y || (le x first && le second y && b)) (sym (lt_next x low))

-- ---- the table of the ends

ends_bool : (a b e f z o c : Bool) → (a && e) ≡ (e && f)
    → (((a && b) || (z && c) || (o && b)) || ((e && f) || (z && f) || (e && o)))
    ≡ ((a && (b || e)) || (z && (c || f)) || (o && (b || e)))
ends_bool a b e f z o c h =
    let law : Bool → Bool → Bool → Bool → Bool → Bool → Bool → Bool =
    λ a b e f z o c. where_true (same (a && e) (e && f))
    (same (((a && b) || (z && c) || (o && b)) || ((e && f) || (z && f) || (e && o)))
    ((a && (b || e)) || (z && (c || f)) || (o && (b || e)))) in
    same_is (((a && b) || (z && c) || (o && b)) || ((e && f) || (z && f) || (e && o)))
    ((a && (b || e)) || (z && (c || f)) || (o && (b || e)))
    (where_true-at (same (a && e) (e && f)) _
    (every-at (λ c. law a b e f z o c)
    (every-at (λ o. every (λ c. law a b e f z o c))
    (every-at (λ z. every (λ o. every (λ c. law a b e f z o c)))
    (every-at (λ f. every (λ z. every (λ o. every (λ c. law a b e f z o c))))
    (every-at (λ e. every (λ f. every (λ z. every (λ o. every (λ c. law a b e f z o c)))))
    (every-at (λ b. every (λ e. every (λ f. every (λ z. every (λ o. every (λ c. law a b e f z o c))))))
    (every-at (λ a. every (λ b. every (λ e. every (λ f. every (λ z. every (λ o. every (λ c. law a b e f z o c)))))))
    refl a) b) e) f) z) o) c)
    (same-refl (a && e) (e && f) h))

same_two : (x y p : ℕ) → ((x == y) && (x == p)) ≡ ((x == p) && (y == p))
same_two x y p = elim (eqb_tells x p) [
  | inl same ↦ ap (λ (b : Bool). (x == y) && b) same.0 ∙ and_true_right (x == y) ∙ ap (λ z. z == y) same.1 ∙ turned p y
      ∙ sym (ap (λ (b : Bool). b && (y == p)) same.0)
  | inr apart ↦ ap (λ (b : Bool). (x == y) && b) apart.0 ∙ and_false_right (x == y) ∙ sym (ap (λ (b : Bool). b && (y == p)) apart.0)
]
  where
    turned : (a b : ℕ) → (a == b) ≡ (b == a)
    turned a b = elim (eqb_tells a b) [
      | inl same ↦ same.0 ∙ sym (eq-eqb b a (sym same.1))
      | inr apart ↦ apart.0 ∙ sym (ne_eqb b a (λ h. apart.1 (sym h)))
    ]

pub ends_step : (x y p : ℕ)
    → ((((x == y) && nat_lt x p) || ((x == 0) && nat_lt y p) || ((y == 1) && nat_lt x p))
    || (((x == p) && (y == p)) || ((x == 0) && (y == p)) || ((x == p) && (y == 1))))
    ≡ (((x == y) && nat_lt x (p + 1)) || ((x == 0) && nat_lt y (p + 1)) || ((y == 1) && nat_lt x (p + 1)))
ends_step x y p =
    ends_bool (x == y) (nat_lt x p) (x == p) (y == p) (x == 0) (y == 1) (nat_lt y p) (same_two x y p)
    ∙ (λ i. ((x == y) && sym (lt_next x p) i) || ((x == 0) && sym (lt_next y p) i) || ((y == 1) && sym (lt_next x p) i))

none_bool : (a z o : Bool) → ((a && false) || (z && false) || (o && false)) ≡ false
none_bool a z o =
    (λ i. (and_false_right a i || and_false_right z i) || and_false_right o i)

pub ends_none : (x y : ℕ) → (((x == y) && nat_lt x 0) || ((x == 0) && nat_lt y 0) || ((y == 1) && nat_lt x 0)) ≡ false
ends_none x y =
    (λ i. ((x == y) && lt_none x i) || ((x == 0) && lt_none y i) || ((y == 1) && lt_none x i))
    ∙ none_bool (x == y) (x == 0) (y == 1)

all_bool : (a z o : Bool) → ((a && true) || (z && true) || (o && true)) ≡ (a || z || o)
all_bool a z o = λ i. (and_true_right a i || and_true_right z i) || and_true_right o i

pub ends_all : (x y n : ℕ) → x < n → y < n
    → (((x == y) && nat_lt x n) || ((x == 0) && nat_lt y n) || ((y == 1) && nat_lt x n)) ≡ between_ends x y
ends_all x y n lx ly =
    (λ i. ((x == y) && lt_yes x n lx i) || ((x == 0) && lt_yes y n ly i) || ((y == 1) && lt_yes x n lx i))
    ∙ all_bool (x == y) (x == 0) (y == 1)
