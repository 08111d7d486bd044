-- The ranks that an order gives agree with it wherever it decides, and extend it everywhere.
use Rattle.std.proofs.Common.{◌≡◌, ◌≢◌, ℕ, zero, suc, ◌+◌, ◌-◌, ◌<◌, ◌≤◌, ◌&&◌, not, Bool, true, false, cond, ◌⊎◌, inl, inr, refl, sym, ap, ◌∙◌, arith}
use Rattle.std.specs.Prelude.{nat_eq}
use Rattle.std.proofs.lemmas.Bool.{eq-eqb, ne_eqb, le-leb, leb-true, true≢false}
use Rattle.std.proofs.lemmas.Bool.Decides.{eqb_tells}
use Rattle.rz_tope_proof.specs.Order.{Order, IsOrder, IsWithin, how_many, is_below, rank, by_rank}

-- ---- counting

cond-within : (b c : Bool) (m n : ℕ) → m ≤ n → (b ≡ true → c ≡ true) → cond b (m + 1) m ≤ cond c (n + 1) n
cond-within true true m n le imp = omega arith
cond-within false true m n le imp = omega arith
cond-within false false m n le imp = le
cond-within true false m n le imp = let h : false ≡ true = imp refl in cc

-- a test that passes less counts less
pub how_many-within : (p q : ℕ → Bool) (n : ℕ) → ((y : ℕ) → y < n → p y ≡ true → q y ≡ true) → how_many p n ≤ how_many q n
how_many-within p q zero within = omega arith
how_many-within p q (suc n) within =
    cond-within (p n) (q n) (how_many p n) (how_many q n) (how_many-within p q n (λ y lt. within y (omega arith))) (within n (omega arith))

cond-less : (b c : Bool) (m n : ℕ) → m ≤ n → b ≡ false → c ≡ true → cond b (m + 1) m < cond c (n + 1) n
cond-less false true m n le out passed = omega arith
cond-less true c m n le out passed = cc
cond-less false false m n le out passed = cc

cond-less_before : (b c : Bool) (m n : ℕ) → m < n → (b ≡ true → c ≡ true) → cond b (m + 1) m < cond c (n + 1) n
cond-less_before true true m n le imp = omega arith
cond-less_before false true m n le imp = omega arith
cond-less_before false false m n le imp = le
cond-less_before true false m n le imp = let h : false ≡ true = imp refl in cc

pub last_or_before : (n at : ℕ) → at < suc n → (at ≡ n) ⊎ (at < n)
last_or_before n at lt = elim (eqb_tells at n) [ inl same ↦ inl same.1 | inr other ↦ let ne : at ≢ n = other.1 in inr (omega (arith, ne)) ]

-- and strictly less where one number passes only the other
pub how_many-less : (p q : ℕ → Bool) (n : ℕ) → ((y : ℕ) → y < n → p y ≡ true → q y ≡ true)
    → (at : ℕ) → at < n → p at ≡ false → q at ≡ true → how_many p n < how_many q n
how_many-less p q zero within at lt out passed = absurd (omega arith)
how_many-less p q (suc n) within at lt out passed =
    elim (last_or_before n at lt) [
      | inl same ↦ cond-less (p n) (q n) (how_many p n) (how_many q n)
          (how_many-within p q n (λ y l. within y (omega arith))) (ap p (sym same) ∙ out) (ap q (sym same) ∙ passed)
      | inr before ↦ cond-less_before (p n) (q n) (how_many p n) (how_many q n)
          (how_many-less p q n (λ y l. within y (omega arith)) at before out passed) (within n (omega arith))
    ]

how_many-none : (p : ℕ → Bool) (n : ℕ) → ((y : ℕ) → y < n → p y ≡ false) → how_many p n ≡ 0
how_many-none p zero out = refl
how_many-none p (suc n) out =
    ap (λ b. cond b (how_many p n + 1) (how_many p n)) (out n (omega arith)) ∙ how_many-none p n (λ y lt. out y (omega arith))

how_many-all : (n : ℕ) → how_many (λ y. true) n ≡ n
how_many-all zero = refl
how_many-all (suc n) = let h : how_many (λ y. true) n ≡ n = how_many-all n in omega arith

-- a test that one number fails
pub how_many-missing : (p : ℕ → Bool) (n at : ℕ) → at < n → p at ≡ false → how_many p n + 1 ≤ n
how_many-missing p n at lt out =
    let less : how_many p n < how_many (λ y. true) n = how_many-less p (λ y. true) n (λ y l h. refl) at lt out refl in
    let all : how_many (λ y. true) n ≡ n = how_many-all n in
    omega arith

-- a test that two numbers fail
pub how_many-two : (p : ℕ → Bool) (n a b : ℕ) → a < n → b < n → a ≢ b → p a ≡ false → p b ≡ false → how_many p n + 2 ≤ n
how_many-two p n a b la lb ne outa outb =
    let apart : (y : ℕ) → p y ≡ true → y ≢ b = λ y h same. true≢false (sym h ∙ ap p same ∙ outb) in
    let less : how_many p n < how_many (λ y. not (nat_eq y b)) n = how_many-less p (λ y. not (nat_eq y b)) n
    (λ y l h. ap not (ne_eqb y b (apart y h))) a la outa (ap not (ne_eqb a b ne)) in
    let missing : how_many (λ y. not (nat_eq y b)) n + 1 ≤ n = how_many-missing (λ y. not (nat_eq y b)) n b lb (ap not (eq-eqb b b refl)) in
    omega arith

-- ---- two values of a test

pub both : (b : Bool) → (b ≡ true) ⊎ (b ≡ false)
both true = inl refl
both false = inr refl

pub and_true : (b c : Bool) → b ≡ true → c ≡ true → (b && c) ≡ true
and_true true true h k = refl
and_true false c h k = cc
and_true true false h k = cc

pub and_left : (b c : Bool) → (b && c) ≡ true → b ≡ true
and_left true c h = refl
and_left false c h = cc

pub and_right : (b c : Bool) → (b && c) ≡ true → c ≡ true
and_right true c h = h
and_right false c h = cc

pub not_true : (b : Bool) → not b ≡ true → b ≡ false
not_true true h = cc
not_true false h = refl

pub false_by : (b : Bool) → (b ≡ true → ⊥) → b ≡ false
false_by true no_way = absurd (no_way refl)
false_by false no_way = refl

-- ---- the ranks of an order

module _ (count : ℕ) (le : Order) (more : 1 < count) (order : IsOrder count le) where
  below-itself : (x : ℕ) → is_below le x x ≡ false
  below-itself x = elim (both (le x x)) [
    | inl h ↦ false_by (is_below le x x) (λ g. true≢false (sym h ∙ not_true (le x x) (and_right (le x x) (not (le x x)) g)))
    | inr h ↦ false_by (is_below le x x) (λ g. true≢false (sym (and_left (le x x) (not (le x x)) g) ∙ h))
  ]

  rank-top : (x : ℕ) → le 1 x ≡ true → rank count le x ≡ count - 1
  rank-top x top = ap (λ b. cond b (count - 1) (how_many (λ y. is_below le y x) count)) top

  rank-other : (x : ℕ) → le 1 x ≡ false → rank count le x ≡ how_many (λ y. is_below le y x) count
  rank-other x other = ap (λ b. cond b (count - 1) (how_many (λ y. is_below le y x) count)) other

  -- neither the place nor the place 1 is strictly below it
  rank-few : (x : ℕ) → x < count → le 1 x ≡ false → how_many (λ y. is_below le y x) count + 2 ≤ count
  rank-few x lt other =
      how_many-two (λ y. is_below le y x) count x 1 lt more apart (below-itself x)
      (false_by (is_below le 1 x) (λ g. true≢false (sym (and_left (le 1 x) (not (le x 1)) g) ∙ other)))
    where
      apart : x ≢ 1
      apart same = true≢false (sym (order.reflexive 1 more) ∙ ap (le 1) (sym same) ∙ other)

  pub rank-small : (x : ℕ) → x < count → rank count le x + 1 ≤ count
  rank-small x lt = elim (both (le 1 x)) [
    | inl top ↦ let e : rank count le x ≡ count - 1 = rank-top x top in omega arith
    | inr other ↦ let e = rank-other x other in let few = rank-few x lt other in omega (arith, e, few)
  ]

  -- what is at most another has at most its rank
  pub rank-monotone : (x y : ℕ) → x < count → y < count → le x y ≡ true → rank count le x ≤ rank count le y
  rank-monotone x y lx ly at_most = elim (both (le 1 y)) [
    | inl top ↦ let e : rank count le y ≡ count - 1 = rank-top y top in let small = rank-small x lx in omega (arith, e, small)
    | inr other ↦
        let less : le 1 x ≡ false = false_by (le 1 x) (λ g. true≢false (sym (order.transitive 1 x y more lx ly g at_most) ∙ other)) in
        let within : how_many (λ z. is_below le z x) count ≤ how_many (λ z. is_below le z y) count =
        how_many-within (λ z. is_below le z x) (λ z. is_below le z y) count (λ z lz h.
        let zx : le z x ≡ true = and_left (le z x) (not (le x z)) h in
        let xz : le x z ≡ false = not_true (le x z) (and_right (le z x) (not (le x z)) h) in
        and_true (le z y) (not (le y z)) (order.transitive z x y lz lx ly zx at_most)
        (ap not (false_by (le y z) (λ g. true≢false (sym (order.transitive x y z lx ly lz at_most g) ∙ xz))))) in
        let ex = rank-other x less in
        let ey = rank-other y other in
        omega (arith, within, ex, ey)
  ]

  -- what is strictly below another has a lower rank
  pub rank-strict : (x y : ℕ) → x < count → y < count → le x y ≡ true → le y x ≡ false → rank count le x < rank count le y
  rank-strict x y lx ly at_most strictly =
      let less : le 1 x ≡ false = false_by (le 1 x) (λ g. true≢false (sym (order.transitive y 1 x ly more lx (order.greatest y ly) g) ∙ strictly)) in
      let ex = rank-other x less in
      elim (both (le 1 y)) [
        | inl top ↦ let ey : rank count le y ≡ count - 1 = rank-top y top in let few = rank-few x lx less in omega (arith, ex, ey, few)
        | inr other ↦
            let within : how_many (λ z. is_below le z x) count < how_many (λ z. is_below le z y) count =
            how_many-less (λ z. is_below le z x) (λ z. is_below le z y) count (λ z lz h.
            let zx : le z x ≡ true = and_left (le z x) (not (le x z)) h in
            let xz : le x z ≡ false = not_true (le x z) (and_right (le z x) (not (le x z)) h) in
            and_true (le z y) (not (le y z)) (order.transitive z x y lz lx ly zx at_most)
            (ap not (false_by (le y z) (λ g. true≢false (sym (order.transitive x y z lx ly lz at_most g) ∙ xz)))))
            x lx (below-itself x) (and_true (le x y) (not (le y x)) at_most (ap not strictly)) in
            let ey = rank-other y other in
            omega (arith, within, ex, ey)
      ]

  -- the order of the ranks says what the order says
  pub by_rank-within : IsWithin count le (by_rank (rank count le))
  by_rank-within x y lx ly h = le-leb (rank count le x) (rank count le y) (rank-monotone x y lx ly h)

  -- and where the order decides it says nothing else
  pub by_rank-decided : (x y : ℕ) → x < count → y < count → le y x ≡ true → by_rank (rank count le) x y ≡ true → le x y ≡ true
  by_rank-decided x y lx ly other h = elim (both (le x y)) [
    | inl yes_so ↦ yes_so
    | inr strictly ↦
        let less : rank count le y < rank count le x = rank-strict y x ly lx other strictly in
        let most : rank count le x ≤ rank count le y = leb-true (rank count le x) (rank count le y) h in
        absurd (omega (arith, less, most))
  ]

  pub by_rank-order : IsOrder count (by_rank (rank count le))
  by_rank-order = record {
    reflexive = λ x lx. le-leb (rank count le x) (rank count le x) (omega arith);
    transitive = λ x y z lx ly lz xy yz.
        let a : rank count le x ≤ rank count le y = leb-true (rank count le x) (rank count le y) xy in
        let b : rank count le y ≤ rank count le z = leb-true (rank count le y) (rank count le z) yz in
        le-leb (rank count le x) (rank count le z) (omega (arith, a, b));
    least = λ x lx. by_rank-within 0 x (omega (arith, more)) lx (order.least x lx);
    greatest = λ x lx. by_rank-within x 1 lx more (order.greatest x lx);
  }

  -- the end 0 has the least rank where the end 1 isn't at most it, and the end 1 has the greatest
  pub rank-zero : le 1 0 ≡ false → rank count le 0 ≡ 0
  rank-zero apart = rank-other 0 apart ∙ how_many-none (λ y. is_below le y 0) count (λ y lt.
      false_by (is_below le y 0) (λ g. true≢false (sym (order.least y lt) ∙ not_true (le 0 y) (and_right (le y 0) (not (le 0 y)) g))))

  pub rank-one : rank count le 1 ≡ count - 1
  rank-one = rank-top 1 (order.reflexive 1 more)
