-- The least index of a tree's free variables: below it there is none, and where it isn't 0 there is one.
use Rattle.std.proofs.Common.{◌≡◌, ℕ, zero, suc, ◌+◌, ◌-◌, ◌<◌, ◌≤◌, ◌↔◌, max, Bool, true, false, IsTrue, if◌then◌else◌, List, [], ◌∷◌, length, get_or, take, map, inl, inr, refl, sym, ap, ◌∙◌, true≢false, arith}
use Rattle.std.proofs.lemmas.Bool.{cases_lt}
use Rattle.std.proofs.lemmas.Bool.Decides.{nat_tests}
use Rattle.rz_rules.specs.declared.kinds.Role.{Role}
use Rattle.rz_rules.specs.declared.kinds.Role.TheVariants.{Variable, Declared, Former}
use Rattle.rz_rules.specs.declared.kinds.Slot.{Slot}
use Rattle.rz_rules.specs.declared.kinds.Space.{Space}
use Rattle.rz_rules.specs.Form.{form, bound}
use Rattle.rz_rules.specs.Tree.{Tree, Trees, At, Nil, And, trees_of}
use Rattle.rz_rules.specs.Substitution.{first_slot, other_slots, same_space}
use Rattle.rz_pool.specs.Spans.{lesser}
use Rattle.rz_pool.specs.Free.{bound_here, free_bound, kids_bound, least_here, free_least, kids_least, NoneBetweenHere, NoneBetween, NoneBetweenInKids}
use Rattle.rz_pool.proofs.FreeBounds.{bound_of, bound_of_suc}

-- the lesser of two least indices
lesser-le : (b l c m : ℕ) → l ≤ b → m ≤ c → lesser b l c m ≤ max b c
lesser-le b l c m p q = grind (arith, nat_tests)

lesser-none : (b l : ℕ) → l ≤ b → lesser b l 0 0 ≡ lesser 0 0 b l
lesser-none b l p = grind (arith, nat_tests)

lesser_assoc : (b l c m d n : ℕ) → lesser b l (max c d) (lesser c m d n) ≡ lesser (max b c) (lesser b l c m) d n
lesser_assoc b l c m d n = grind (arith, nat_tests)

below_first : (b l c m : ℕ) → 0 < b → lesser b l c m ≤ l
below_first b l c m p = grind (arith, nat_tests)

below_second : (b l c m : ℕ) → 0 < c → lesser b l c m ≤ m
below_second b l c m p = grind (arith, nat_tests)

above_lesser : (b l c m low high : ℕ) → (low < l → high ≤ l) → (low < m → high ≤ m) → low < lesser b l c m → high ≤ lesser b l c m
above_lesser b l c m low high p q r = grind (arith, nat_tests)

-- it is below the bound, or both are 0
here_within : (space : Space) (role : Role) (number bound least : ℕ) → least ≤ bound → least_here space role number bound least ≤ bound_here space role number bound
here_within space (Variable other) number bound least le = by (same_space space other)
  where
    by : (b : Bool) → (if b then lesser (number + 1) number bound least else least) ≤ (if b then max (number + 1) bound else bound)
    by true = lesser-le (number + 1) number bound least (omega arith) le
    by false = le
here_within space Declared number bound least le = omega arith
here_within space Former number bound least le = le

mutual
  pub least_within : (space : Space) (tree : Tree) → free_least space tree ≤ free_bound space tree
  least_within space (At kind number name kids) =
      here_within space (form kind).role number (kids_bound space (form kind).kids kids) (kids_least space (form kind).kids kids) (kids_within space (form kind).kids kids)

  kids_within : (space : Space) (slots : List Slot) (trees : Trees) → kids_least space slots trees ≤ kids_bound space slots trees
  kids_within space slots Nil = omega arith
  kids_within space slots (And first rest) =
      let one = least_within space first in
      lesser-le (free_bound space first - bound (first_slot slots) space) (free_least space first - bound (first_slot slots) space)
      (kids_bound space (other_slots slots) rest) (kids_least space (other_slots slots) rest) (omega arith) (kids_within space (other_slots slots) rest)

-- where it is told of what is bounded that it reaches so far
reaches : (low high bound least number : ℕ) → (low < high → low < bound → high ≤ least) → low < bound → low ≤ number → least ≤ number → high ≤ number
reaches low high bound least number told l le m = elim (cases_lt low high) [ inl k ↦ omega (arith, told k l) | inr k ↦ omega arith ]

-- below it there is none
module _ (space : Space) where
  here_none : (low high : ℕ) (role : Role) (number bound least : ℕ) (Kids : Type 0) → ((low < high → low < bound → high ≤ least) → Kids)
      → (low < high → low < bound_here space role number bound → high ≤ least_here space role number bound least) → NoneBetweenHere space low high role number Kids
  here_none low high (Variable other) number bound least Kids none h = by (same_space space other) h
    where
      by : (b : Bool) → (low < high → low < (if b then max (number + 1) bound else bound) → high ≤ (if b then lesser (number + 1) number bound least else least))
          → (IsTrue b → low ≤ number → high ≤ number) × Kids
      by true h = (
        (λ _ le. reaches low high (max (number + 1) bound) (lesser (number + 1) number bound least) number h (omega arith) le (below_first (number + 1) number bound least (omega arith))),
        none (λ l m. omega (arith, below_second (number + 1) number bound least (omega arith), h l (omega arith))),
      )
      by false h = ((λ e. absurd (true≢false (sym e))), none h)
  here_none low high Declared number bound least Kids none h = tt
  here_none low high Former number bound least Kids none h = none h

  mutual
    pub none_between : (low high : ℕ) (tree : Tree) → (low < high → low < free_bound space tree → high ≤ free_least space tree) → NoneBetween space low high tree
    none_between low high (At kind number name kids) h =
        here_none low high (form kind).role number (kids_bound space (form kind).kids kids) (kids_least space (form kind).kids kids) (NoneBetweenInKids space low high (form kind).kids kids)
        (none_in_kids low high (form kind).kids kids) h

    none_in_kids : (low high : ℕ) (slots : List Slot) (trees : Trees) → (low < high → low < kids_bound space slots trees → high ≤ kids_least space slots trees)
        → NoneBetweenInKids space low high slots trees
    none_in_kids low high slots Nil h = tt
    none_in_kids low high slots (And first rest) h =
        let more = bound (first_slot slots) space in
        let b = free_bound space first in
        let l = free_least space first in
        let c = kids_bound space (other_slots slots) rest in
        let m = kids_least space (other_slots slots) rest in (
          none_between (low + more) (high + more) first (λ p q.
              let k : high ≤ lesser (b - more) (l - more) c m = h (omega arith) (omega arith) in
              omega (arith, below_first (b - more) (l - more) c m (omega arith))),
          none_in_kids low high (other_slots slots) rest (λ p q.
              let k : high ≤ lesser (b - more) (l - more) c m = h p (omega arith) in
              omega (arith, below_second (b - more) (l - more) c m (omega arith))),
        )

  -- a stretch without any doesn't go past it, where it isn't 0
  here_least : (low high : ℕ) (role : Role) (number bound least : ℕ) (Kids : Type 0) → (Kids → low < least → high ≤ least)
      → NoneBetweenHere space low high role number Kids → low < least_here space role number bound least → high ≤ least_here space role number bound least
  here_least low high (Variable other) number bound least Kids kids none l = by (same_space space other) none.0 l
    where
      by : (b : Bool) → (IsTrue b → low ≤ number → high ≤ number) → low < (if b then lesser (number + 1) number bound least else least)
          → high ≤ (if b then lesser (number + 1) number bound least else least)
      by true here l = above_lesser (number + 1) number bound least low high (λ k. here refl (omega arith)) (kids none.1) l
      by false here l = kids none.1 l
  here_least low high Declared number bound least Kids kids none l = absurd (omega arith)
  here_least low high Former number bound least Kids kids none l = kids none l

  mutual
    upto_least : (low high : ℕ) (tree : Tree) → NoneBetween space low high tree → low < free_least space tree → high ≤ free_least space tree
    upto_least low high (At kind number name kids) none l =
        here_least low high (form kind).role number (kids_bound space (form kind).kids kids) (kids_least space (form kind).kids kids) (NoneBetweenInKids space low high (form kind).kids kids)
        (upto_kids low high (form kind).kids kids) none l

    upto_kids : (low high : ℕ) (slots : List Slot) (trees : Trees) → NoneBetweenInKids space low high slots trees → low < kids_least space slots trees
        → high ≤ kids_least space slots trees
    upto_kids low high slots Nil none l = absurd (omega arith)
    upto_kids low high slots (And first rest) none l =
        let more = bound (first_slot slots) space in
        above_lesser (free_bound space first - more) (free_least space first - more) (kids_bound space (other_slots slots) rest) (kids_least space (other_slots slots) rest) low high
        (λ k. let one = upto_least (low + more) (high + more) first none.0 (omega arith) in omega arith)
        (upto_kids low high (other_slots slots) rest none.1) l

  -- the least index is exact where it isn't 0
  pub NoneBetween-free_least : (tree : Tree) → 0 < free_least space tree → (limit : ℕ) → NoneBetween space 0 limit tree ↔ (limit ≤ free_least space tree)
  NoneBetween-free_least tree l limit = ((λ none. upto_least 0 limit tree none l), (λ le. none_between 0 limit tree (λ _ _. le)))

-- one kid more
module _ (tree : ℕ → Tree) (space : Space) where
  abbrev pub least_of : List Slot → List ℕ → ℕ
  least_of slots ids = kids_least space slots (trees_of (map tree ids))

  abbrev bounds : List Slot → List ℕ → ℕ
  bounds slots ids = bound_of tree space slots ids

  least_of_suc : (slots : List Slot) (ids : List ℕ) (i : ℕ) (d : Slot) → i < length ids → i < length slots
      → least_of slots (take (suc i) ids)
      ≡ lesser (bounds slots (take i ids)) (least_of slots (take i ids))
      (free_bound space (tree (get_or ids i 0)) - bound (get_or slots i d) space) (free_least space (tree (get_or ids i 0)) - bound (get_or slots i d) space)
  least_of_suc slots [] i d l m = absurd (omega arith)
  least_of_suc [] (id ∷ ids) i d l m = absurd (omega arith)
  least_of_suc (slot ∷ slots) (id ∷ ids) zero d l m =
      let within = least_within space (tree id) in
      lesser-none (free_bound space (tree id) - bound slot space) (free_least space (tree id) - bound slot space) (omega arith)
  least_of_suc (slot ∷ slots) (id ∷ ids) (suc i) d l m =
      let b = free_bound space (tree id) - bound slot space in
      let n = free_least space (tree id) - bound slot space in
      (λ j. lesser b n (bound_of_suc tree space slots ids i d (omega arith) (omega arith) j) (least_of_suc slots ids i d (omega arith) (omega arith) j))
      ∙ lesser_assoc b n (bounds slots (take i ids)) (least_of slots (take i ids))
      (free_bound space (tree (get_or ids i 0)) - bound (get_or slots i d) space) (free_least space (tree (get_or ids i 0)) - bound (get_or slots i d) space)

  pub least_of_more : (slots : List Slot) (ids : List ℕ) (i : ℕ) (d : Slot) → i < length ids → i < length slots
      → least_of slots (take (i + 1) ids)
      ≡ lesser (bounds slots (take i ids)) (least_of slots (take i ids))
      (free_bound space (tree (get_or ids i 0)) - bound (get_or slots i d) space) (free_least space (tree (get_or ids i 0)) - bound (get_or slots i d) space)
  least_of_more slots ids i d l m =
      let one : i + 1 ≡ suc i = omega arith in
      ap (λ n. least_of slots (take n ids)) one ∙ least_of_suc slots ids i d l m
