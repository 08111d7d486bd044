-- Questions of topes: whether a tope follows, and which coordinates of a context are in no order.
use Rattle.std.specs.Prelude.{ℕ, List, [], ◌∷◌, ◌++◌, map}
use Rattle.rz_rules.specs.Tree.{Tree}
use Rattle.rz_rules.specs.Tope.{at_most, top}
use Rattle.rz_rules.specs.Coordinate.{point_of}
use Rattle.rz_rules.specs.Validity.{occurring, Entailment, Valid, Invalid, entailment}

-- of two questions: both are valid, or else the first answer that is another one
abbrev pub both_valid : Entailment → Entailment → Entailment
both_valid Valid second = second
both_valid Invalid second = Invalid
both_valid (Entailment.Over count) second = Entailment.Over count

-- of two questions: one of them is valid; the second counts only where the first is invalid
abbrev pub either_valid : Entailment → Entailment → Entailment
either_valid Valid second = Valid
either_valid Invalid second = second
either_valid (Entailment.Over count) second = Entailment.Over count

-- one of two points is at most the other
abbrev pub in_order : Tree → Tree → Tree → Entailment
in_order context s u = either_valid (entailment context (at_most s u)) (entailment context (at_most u s))

-- the pairs of a list, one stands before the other, in the order of the first and then of the second
abbrev pub pairs : List Tree → List (Tree × Tree)
pairs [] = []
pairs (s ∷ rest) = map (λ u. (s, u)) rest ++ pairs rest

-- the coordinates of variables in the topes of a context, in order of first occurrence
abbrev pub occurring_points : Tree → List Tree
occurring_points context = map point_of (occurring context top)

-- which two points are in neither order
pub data Orders : Type 0 where
  AllInOrder : Orders
  InNoOrder : (s u : Tree) → Orders
  Over : (coordinates : ℕ) → Orders

abbrev pub first_in_no_order : Tree → List (Tree × Tree) → Orders
first_in_no_order context [] = AllInOrder
first_in_no_order context (pair ∷ rest) =
    elim (in_order context pair.0 pair.1) [
      | Valid ↦ first_in_no_order context rest
      | Invalid ↦ InNoOrder pair.0 pair.1
      | Entailment.Over count ↦ Orders.Over count
    ]

-- the first pair of coordinates in the topes of a context of which neither is at most the other
abbrev pub orders : Tree → Orders
orders context = first_in_no_order context (pairs (occurring_points context))
