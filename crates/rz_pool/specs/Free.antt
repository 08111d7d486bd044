-- The free variables of a tree: how far out they reach, and from where on they begin.
use Rattle.std.specs.Prelude.{◌≡◌, ℕ, ◌+◌, ◌-◌, ◌≤◌, max, IsTrue, List, Some, slice_get, if◌then◌else◌}
use Rattle.rz_rules.specs.declared.kinds.Role.{Role}
use Rattle.rz_rules.specs.declared.kinds.Role.TheVariants.{Variable, Declared, Former}
use Rattle.rz_rules.specs.declared.kinds.Slot.{Slot}
use Rattle.rz_rules.specs.declared.kinds.Space.{Space}
use Rattle.rz_rules.specs.declared.nodes.Node.{Node}
use Rattle.rz_rules.specs.Form.{form, bound}
use Rattle.rz_rules.specs.Tree.{Tree, Trees, At, Nil, And, tree_of}
use Rattle.rz_rules.specs.Substitution.{first_slot, other_slots, same_space}
use Rattle.rz_pool.specs.declared.spans.Spans.{Spans}
use Rattle.rz_pool.specs.Spans.{span_of, lesser}

-- a node's bound, where that of its kids is known; those of constants and postulates are closed
abbrev pub bound_here : Space → Role → ℕ → ℕ → ℕ
bound_here space (Variable other) number kids =
    if same_space space other then max (number + 1) kids else kids
bound_here space Declared number kids = 0
bound_here space Former number kids = kids

-- the least index from which a tree has no free variable of a space; a binder takes one off
abbrev mutual
  pub free_bound : Space → Tree → ℕ
  free_bound space (At kind number name kids) =
      bound_here space (form kind).role number (kids_bound space (form kind).kids kids)

  pub kids_bound : Space → List Slot → Trees → ℕ
  kids_bound space slots Nil = 0
  kids_bound space slots (And first rest) =
      max (free_bound space first - bound (first_slot slots) space)
      (kids_bound space (other_slots slots) rest)

-- a node's least index, where the bound and the least index of its kids are known
abbrev pub least_here : Space → Role → ℕ → ℕ → ℕ → ℕ
least_here space (Variable other) number bound least =
    if same_space space other then lesser (number + 1) number bound least else least
least_here space Declared number bound least = 0
least_here space Former number bound least = least

-- an index below which a tree has no free variable of a space; a binder takes one off, but of 0
abbrev mutual
  pub free_least : Space → Tree → ℕ
  free_least space (At kind number name kids) =
      least_here space (form kind).role number (kids_bound space (form kind).kids kids)
      (kids_least space (form kind).kids kids)

  pub kids_least : Space → List Slot → Trees → ℕ
  kids_least space slots Nil = 0
  kids_least space slots (And first rest) =
      lesser (free_bound space first - bound (first_slot slots) space)
      (free_least space first - bound (first_slot slots) space)
      (kids_bound space (other_slots slots) rest) (kids_least space (other_slots slots) rest)

-- a node without such a variable, where that is told of its kids
abbrev pub NoneBetweenHere : Space → ℕ → ℕ → Role → ℕ → Type 0 → Type 0
NoneBetweenHere space low high (Variable other) number kids =
    (IsTrue (same_space space other) → low ≤ number → high ≤ number) × kids
NoneBetweenHere space low high Declared number kids = Unit {0}
NoneBetweenHere space low high Former number kids = kids

-- a tree has no variable of a space from one index on and below another, apart from those it binds
abbrev mutual
  pub NoneBetween : Space → ℕ → ℕ → Tree → Type 0
  NoneBetween space low high (At kind number name kids) =
      NoneBetweenHere space low high (form kind).role number
      (NoneBetweenInKids space low high (form kind).kids kids)

  pub NoneBetweenInKids : Space → ℕ → ℕ → List Slot → Trees → Type 0
  NoneBetweenInKids space low high slots Nil = Unit {0}
  NoneBetweenInKids space low high slots (And first rest) =
      NoneBetween space (low + bound (first_slot slots) space)
      (high + bound (first_slot slots) space) first
      × NoneBetweenInKids space low high (other_slots slots) rest

-- these are the spans of a tree's free variables
pub record AreSpansOf (tree : Tree) (spans : Spans) : Type 0 where
  pub bound : (space : Space) → (span_of spans space).bound ≡ free_bound space tree
  pub least : (space : Space) → (span_of spans space).least ≡ free_least space tree

-- each node is kept with the spans of its tree
abbrev pub HaveSpans : List Node → List Spans → Type 0
HaveSpans nodes kept =
    (id : ℕ) (spans : Spans) → slice_get kept id ≡ Some spans
    → AreSpansOf (tree_of nodes id) spans
