-- Orders of places.
use Rattle.std.proofs.Common.{◌≡◌, ℕ, ◌<◌, ◌&&◌, true, ◌⊎◌, inl, inr, refl, sym, ap, ◌∙◌, arith}
use Rattle.std.specs.Prelude.{◌==◌, ◌||◌}
use Rattle.std.proofs.lemmas.Bool.{eq-eqb, eqb-true}
use Rattle.rz_tope_proof.specs.Order.{Order, IsOrder, IsWithin}
use Rattle.rz_tope_search.specs.Table.{with_pair, between_ends, AreSame}
use Rattle.rz_tope_search.proofs.RankOrders.{and_true, and_left, and_right}
use Rattle.rz_tope_search.proofs.Values.{or_left, or_right, or_cases}

-- ---- orders that say the same

pub IsOrder-same : (count : ℕ) (le more : Order) → 1 < count → AreSame count le more → IsOrder count le → IsOrder count more
IsOrder-same count le more two same order = record {
  reflexive = λ x lx. same x x lx lx ∙ order.reflexive x lx;
  transitive = λ x y z lx ly lz xy yz.
      same x z lx lz ∙ order.transitive x y z lx ly lz (sym (same x y lx ly) ∙ xy) (sym (same y z ly lz) ∙ yz);
  least = λ x lx. same 0 x (omega (arith, two)) lx ∙ order.least x lx;
  greatest = λ x lx. same x 1 lx two ∙ order.greatest x lx;
}

-- ---- a comparison more

module _ (count : ℕ) (le : Order) (first second : ℕ) (lf : first < count) (ls : second < count) (order : IsOrder count le) where
  pub within-with_pair : IsWithin count le (with_pair le first second)
  within-with_pair x y lx ly h = or_left (le x y) (le x first && le second y) h

  pub pair-with_pair : with_pair le first second first second ≡ true
  pair-with_pair = or_right (le first second) (le first first && le second second)
      (and_true (le first first) (le second second) (order.reflexive first lf) (order.reflexive second ls))

  through : (x y : ℕ) → le x first ≡ true → le second y ≡ true → with_pair le first second x y ≡ true
  through x y xf sy = or_right (le x y) (le x first && le second y) (and_true (le x first) (le second y) xf sy)

  with_pair-transitive : (x y z : ℕ) → x < count → y < count → z < count
      → with_pair le first second x y ≡ true → with_pair le first second y z ≡ true → with_pair le first second x z ≡ true
  with_pair-transitive x y z lx ly lz xy yz =
      elim (or_cases (le x y) (le x first && le second y) xy) [
        | inl a ↦ elim (or_cases (le y z) (le y first && le second z) yz) [
          | inl b ↦ within-with_pair x z lx lz (order.transitive x y z lx ly lz a b)
          | inr b ↦ through x z (order.transitive x y first lx ly lf a (and_left (le y first) (le second z) b)) (and_right (le y first) (le second z) b)
        ]
        | inr a ↦ elim (or_cases (le y z) (le y first && le second z) yz) [
          | inl b ↦ through x z (and_left (le x first) (le second y) a) (order.transitive second y z ls ly lz (and_right (le x first) (le second y) a) b)
          | inr b ↦ through x z (and_left (le x first) (le second y) a) (and_right (le y first) (le second z) b)
        ]
      ]

  pub with_pair-order : IsOrder count (with_pair le first second)
  with_pair-order = record {
    reflexive = λ x lx. within-with_pair x x lx lx (order.reflexive x lx);
    transitive = with_pair-transitive;
    least = λ x lx. or_left (le 0 x) (le 0 first && le second x) (order.least x lx);
    greatest = λ x lx. or_left (le x 1) (le x first && le second 1) (order.greatest x lx);
  }

-- it says no more than any order has to that says the comparison
pub with_pair-least : (count : ℕ) (le more : Order) (first second : ℕ) → first < count → second < count
    → IsOrder count more → IsWithin count le more → more first second ≡ true → IsWithin count (with_pair le first second) more
with_pair-least count le more first second lf ls order within pair x y lx ly h =
    elim (or_cases (le x y) (le x first && le second y) h) [
      | inl a ↦ within x y lx ly a
      | inr a ↦ order.transitive x second y lx ls ly
          (order.transitive x first second lx lf ls (within x first lx lf (and_left (le x first) (le second y) a)) pair)
          (within second y ls ly (and_right (le x first) (le second y) a))
    ]

-- ---- the order of the ends

pub ends-cases : (x y : ℕ) → between_ends x y ≡ true → (x ≡ y) ⊎ ((x ≡ 0) ⊎ (y ≡ 1))
ends-cases x y h =
    elim (or_cases ((x == y) || (x == 0)) (y == 1) h) [
      | inl a ↦ elim (or_cases (x == y) (x == 0) a) [
        | inl same ↦ inl (eqb-true x y same)
        | inr low ↦ inr (inl (eqb-true x 0 low))
      ]
      | inr high ↦ inr (inr (eqb-true y 1 high))
    ]

ends-same : (x y : ℕ) → x ≡ y → between_ends x y ≡ true
ends-same x y same = or_left ((x == y) || (x == 0)) (y == 1) (or_left (x == y) (x == 0) (eq-eqb x y same))

ends-low : (x y : ℕ) → x ≡ 0 → between_ends x y ≡ true
ends-low x y low = or_left ((x == y) || (x == 0)) (y == 1) (or_right (x == y) (x == 0) (eq-eqb x 0 low))

ends-high : (x y : ℕ) → y ≡ 1 → between_ends x y ≡ true
ends-high x y high = or_right ((x == y) || (x == 0)) (y == 1) (eq-eqb y 1 high)

pub ends-order : (count : ℕ) → IsOrder count between_ends
ends-order count = record {
  reflexive = λ x lx. ends-same x x refl;
  transitive = λ x y z lx ly lz xy yz.
      elim (ends-cases x y xy) [
        | inl a ↦ elim (ends-cases y z yz) [
          | inl b ↦ ends-same x z (a ∙ b)
          | inr b ↦ elim b [ inl low ↦ ends-low x z (a ∙ low) | inr high ↦ ends-high x z high ]
        ]
        | inr a ↦ elim a [
          | inl low ↦ ends-low x z low
          | inr one ↦ elim (ends-cases y z yz) [
            | inl b ↦ ends-high x z (sym b ∙ one)
            | inr b ↦ elim b [
              | inl low ↦ let e : 1 ≡ 0 = sym one ∙ low in absurd (omega (arith, e))
              | inr high ↦ ends-high x z high
            ]
          ]
        ]
      ];
  least = λ x lx. ends-low 0 x refl;
  greatest = λ x lx. ends-high x 1 refl;
}

pub ends-least : (count : ℕ) (le more : Order) → AreSame count between_ends le → IsOrder count more → IsWithin count le more
ends-least count le more same order x y lx ly h =
    elim (ends-cases x y (sym (same x y lx ly) ∙ h)) [
      | inl a ↦ ap (λ z. more x z) (sym a) ∙ order.reflexive x lx
      | inr a ↦ elim a [
        | inl low ↦ ap (λ z. more z y) low ∙ order.least y ly
        | inr high ↦ ap (λ z. more x z) high ∙ order.greatest x lx
      ]
    ]
