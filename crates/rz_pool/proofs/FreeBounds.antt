-- The bound of a tree's free variables is the least index from which it has none.
use Rattle.std.proofs.Common.{◌≡◌, ℕ, zero, suc, ◌+◌, ◌-◌, ◌<◌, ◌≤◌, ◌↔◌, max, Bool, true, false, IsTrue, if◌then◌else◌, List, [], ◌∷◌, length, get_or, take, map, refl, sym, ap, ◌∙◌, true≢false, arith}
use Rattle.rz_rules.specs.declared.kinds.Role.{Role}
use Rattle.rz_rules.specs.declared.kinds.Role.TheVariants.{Variable, Declared, Former}
use Rattle.rz_rules.specs.declared.kinds.Slot.{Slot}
use Rattle.rz_rules.specs.declared.kinds.Space.{Space}
use Rattle.rz_rules.specs.Form.{form, bound}
use Rattle.rz_rules.specs.Tree.{Tree, Trees, At, Nil, And, trees_of}
use Rattle.rz_rules.specs.Substitution.{first_slot, other_slots, same_space, NoneFromHere, NoneFrom, NoneInKids}
use Rattle.rz_pool.specs.Free.{bound_here, free_bound, kids_bound}

-- a node, where what is told of its kids is bounded
here_within : (space : Space) (limit : ℕ) (role : Role) (number kids : ℕ) (Kids : Type 0) → (Kids → kids ≤ limit)
    → NoneFromHere space limit role number Kids → bound_here space role number kids ≤ limit
here_within space limit (Variable other) number kids Kids within h = by (same_space space other) h.0 (within h.1)
  where
    by : (b : Bool) → (IsTrue b → number < limit) → kids ≤ limit → (if b then max (number + 1) kids else kids) ≤ limit
    by true low le = let lt : number < limit = low refl in omega arith
    by false low le = le
here_within space limit Declared number kids Kids within h = omega arith
here_within space limit Former number kids Kids within h = within h

here_none : (space : Space) (limit : ℕ) (role : Role) (number kids : ℕ) (Kids : Type 0) → (kids ≤ limit → Kids)
    → bound_here space role number kids ≤ limit → NoneFromHere space limit role number Kids
here_none space limit (Variable other) number kids Kids none h = by (same_space space other) h
  where
    by : (b : Bool) → (if b then max (number + 1) kids else kids) ≤ limit → (IsTrue b → number < limit) × Kids
    by true le = (λ _. omega arith, none (omega arith))
    by false le = (λ e. absurd (true≢false (sym e)), none le)
here_none space limit Declared number kids Kids none h = tt
here_none space limit Former number kids Kids none h = none h

mutual
  within_limit : (space : Space) (limit : ℕ) (tree : Tree) → NoneFrom space limit tree → free_bound space tree ≤ limit
  within_limit space limit (At kind number name kids) h =
      here_within space limit (form kind).role number (kids_bound space (form kind).kids kids) (NoneInKids space limit (form kind).kids kids)
      (kids_within space limit (form kind).kids kids) h

  kids_within : (space : Space) (limit : ℕ) (slots : List Slot) (trees : Trees) → NoneInKids space limit slots trees → kids_bound space slots trees ≤ limit
  kids_within space limit slots Nil h = omega arith
  kids_within space limit slots (And first rest) h =
      let one = within_limit space (limit + bound (first_slot slots) space) first h.0 in
      let others = kids_within space limit (other_slots slots) rest h.1 in
      omega arith

mutual
  none_from : (space : Space) (limit : ℕ) (tree : Tree) → free_bound space tree ≤ limit → NoneFrom space limit tree
  none_from space limit (At kind number name kids) h =
      here_none space limit (form kind).role number (kids_bound space (form kind).kids kids) (NoneInKids space limit (form kind).kids kids)
      (none_in_kids space limit (form kind).kids kids) h

  none_in_kids : (space : Space) (limit : ℕ) (slots : List Slot) (trees : Trees) → kids_bound space slots trees ≤ limit → NoneInKids space limit slots trees
  none_in_kids space limit slots Nil h = tt
  none_in_kids space limit slots (And first rest) h = (
    none_from space (limit + bound (first_slot slots) space) first (omega arith),
    none_in_kids space limit (other_slots slots) rest (omega arith),
  )

-- the bound is exact
pub NoneFrom-free_bound : (space : Space) (tree : Tree) (limit : ℕ) → NoneFrom space limit tree ↔ (free_bound space tree ≤ limit)
NoneFrom-free_bound space tree limit = (within_limit space limit tree, none_from space limit tree)

-- one kid more
module _ (tree : ℕ → Tree) (space : Space) where
  abbrev pub bound_of : List Slot → List ℕ → ℕ
  bound_of slots ids = kids_bound space slots (trees_of (map tree ids))

  pub bound_of_suc : (slots : List Slot) (ids : List ℕ) (i : ℕ) (d : Slot) → i < length ids → i < length slots
      → bound_of slots (take (suc i) ids) ≡ max (bound_of slots (take i ids)) (free_bound space (tree (get_or ids i 0)) - bound (get_or slots i d) space)
  bound_of_suc slots [] i d l m = absurd (omega arith)
  bound_of_suc [] (id ∷ ids) i d l m = absurd (omega arith)
  bound_of_suc (slot ∷ slots) (id ∷ ids) zero d l m = omega arith
  bound_of_suc (slot ∷ slots) (id ∷ ids) (suc i) d l m =
      let rest : bound_of slots (take (suc i) ids) ≡ max (bound_of slots (take i ids)) (free_bound space (tree (get_or ids i 0)) - bound (get_or slots i d) space) =
      bound_of_suc slots ids i d (omega arith) (omega arith) in
      omega arith

  pub bound_of_more : (slots : List Slot) (ids : List ℕ) (i : ℕ) (d : Slot) → i < length ids → i < length slots
      → bound_of slots (take (i + 1) ids) ≡ max (bound_of slots (take i ids)) (free_bound space (tree (get_or ids i 0)) - bound (get_or slots i d) space)
  bound_of_more slots ids i d l m =
      let one : i + 1 ≡ suc i = omega arith in
      ap (λ n. bound_of slots (take n ids)) one ∙ bound_of_suc slots ids i d l m
