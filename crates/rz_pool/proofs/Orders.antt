-- What a comparison of numbers tells.
use Rattle.std.proofs.Common.{◌≡◌, ℕ, zero, suc, ◌<◌, ◌≤◌, ◌+◌, Bool, true, false, cond, ◌||◌, take, List, [], ◌∷◌, length, get_or, refl, sym, ap, ◌∙◌, true≢false, arith}
use Rattle.std.specs.declared.cmp.Ordering.{Ordering}
use Rattle.std.specs.declared.cmp.Ordering.TheVariants.{Less, Equal, Greater}
use Rattle.std.specs.Ordering.{nat_cmp, is_eq, is_lt, eq_by_cmp, MatchOrdering}
use Rattle.std.specs.List.{list_any}
use Rattle.std.specs.Cmp.{eq_by_cmp_equiv, nat_cmp_total}
use Rattle.std.proofs.lemmas.Cmp.{ranked}
use Rattle.std.proofs.lemmas.List.Folds.{Any-from_list_any, list_any_at, list_any_more}

pub equal_numbers : (a b : ℕ) → is_eq (nat_cmp a b) ≡ true → a ≡ b
equal_numbers a b = by (nat_cmp a b) (ranked a b (nat_cmp a b) refl)
  where
    by : (o : Ordering) → MatchOrdering o (a < b) (a ≡ b) (b < a) → is_eq o ≡ true → a ≡ b
    by Less m e = absurd (true≢false (sym e))
    by Equal m e = m
    by Greater m e = absurd (true≢false (sym e))

pub other_numbers : (a b : ℕ) → is_eq (nat_cmp a b) ≡ false → a ≡ b → ⊥
other_numbers a b = by (nat_cmp a b) (ranked a b (nat_cmp a b) refl)
  where
    by : (o : Ordering) → MatchOrdering o (a < b) (a ≡ b) (b < a) → is_eq o ≡ false → a ≡ b → ⊥
    by Less m e same = omega arith
    by Equal m e same = true≢false e
    by Greater m e same = omega arith

pub no_less : (a b : ℕ) → is_lt (nat_cmp a b) ≡ false → b ≤ a
no_less a b = by (nat_cmp a b) (ranked a b (nat_cmp a b) refl)
  where
    by : (o : Ordering) → MatchOrdering o (a < b) (a ≡ b) (b < a) → is_lt o ≡ false → b ≤ a
    by Less m e = absurd (true≢false e)
    by Equal m e = omega arith
    by Greater m e = omega arith

pub same_number : (a : ℕ) → is_eq (nat_cmp a a) ≡ true
same_number a = by (is_eq (nat_cmp a a)) refl
  where
    by : (b : Bool) → is_eq (nat_cmp a a) ≡ b → b ≡ true
    by true e = refl
    by false e = absurd (other_numbers a a e refl)

get_or_any : (ks : List ℕ) (i d e : ℕ) → i < length ks → get_or ks i d ≡ get_or ks i e
get_or_any [] i d e l = absurd (omega arith)
get_or_any (k ∷ ks) zero d e l = refl
get_or_any (k ∷ ks) (suc i) d e l = get_or_any ks i d e (omega arith)

-- a number among others
pub among : (ks : List ℕ) (q : ℕ) → list_any (eq_by_cmp nat_cmp q) ks ≡ true → (k : ℕ) × (k < length ks) × (get_or ks k 0 ≡ q)
among ks q h =
    let found = Any-from_list_any (eq_by_cmp nat_cmp q) ks h in
    (found.0, found.2, get_or_any ks found.0 0 found.1 found.2 ∙ (found.3 ∙ sym (equal_numbers q found.1 found.4)))

pub is_among : (ks : List ℕ) (k d : ℕ) → k < length ks → list_any (eq_by_cmp nat_cmp (get_or ks k d)) ks ≡ true
is_among ks k d l = list_any_at (eq_by_cmp nat_cmp (get_or ks k d)) ks k d l (same_number (get_or ks k d))

-- an id that joins others
any_joins : (a b t : Bool) → cond t true (a || b) ≡ (a || (b || t))
any_joins true b true = refl
any_joins true b false = refl
any_joins false true true = refl
any_joins false true false = refl
any_joins false false true = refl
any_joins false false false = refl

pub list_any-joins : (q x : ℕ) (a : Bool) (ks : List ℕ) (i : ℕ) → i < length ks → x ≡ get_or ks i 0
    → cond (is_eq (nat_cmp x q)) true (a || list_any (eq_by_cmp nat_cmp q) (take i ks)) ≡ (a || list_any (eq_by_cmp nat_cmp q) (take (i + 1) ks))
list_any-joins q x a ks i l is =
    let turned : is_eq (nat_cmp x q) ≡ is_eq (nat_cmp q (get_or ks i 0)) = (eq_by_cmp_equiv nat_cmp_total).symm x q ∙ ap (λ y. is_eq (nat_cmp q y)) is in
    ap (λ t. cond t true (a || list_any (eq_by_cmp nat_cmp q) (take i ks))) turned
    ∙ any_joins a (list_any (eq_by_cmp nat_cmp q) (take i ks)) (is_eq (nat_cmp q (get_or ks i 0)))
    ∙ ap (λ t. a || t) (sym (list_any_more (eq_by_cmp nat_cmp q) ks i 0 l))
