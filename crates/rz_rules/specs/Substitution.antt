-- Substitution: what becomes of a tree where its variables change.
use Rattle.std.specs.Prelude.{ℕ, ◌+◌, ◌-◌, ◌<◌, nat_le, nat_lt, ◌==◌, Bool, true, false, IsTrue, if◌then◌else◌, List, [], ◌∷◌}
use Rattle.rz_rules.specs.declared.kinds.Sort.TheVariants.{Term}
use Rattle.rz_rules.specs.declared.kinds.Space.{Space}
use Rattle.rz_rules.specs.declared.kinds.Space.TheVariants.{Points, Terms}
use Rattle.rz_rules.specs.declared.kinds.Role.{Role}
use Rattle.rz_rules.specs.declared.kinds.Role.TheVariants.{Variable, Declared, Former}
use Rattle.rz_rules.specs.declared.kinds.Slot.{Slot}
use Rattle.rz_rules.specs.declared.kinds.Kind.{Kind}
use Rattle.rz_rules.specs.Form.{form, plain, bound}
use Rattle.rz_rules.specs.Tree.{Tree, Trees, At, Nil, And}

-- for each space a count of variables: of those bound above a place in a tree, or of entries of a context
abbrev pub Depth : Type 0
Depth = Space → ℕ

abbrev pub none : Depth
none space = 0

abbrev pub only : Space → ℕ → Depth
only Points count Points = count
only Points count Terms = 0
only Terms count Points = 0
only Terms count Terms = count

abbrev pub total : Depth → Depth → Depth
total depth more space = depth space + more space

-- what becomes of a variable: it gets another number, or a tree takes its place
pub data Change : Type 0 where
  Renumbered : (number : ℕ) → Change
  Replaced : (tree : Tree) → Change

-- what becomes of each variable, by its space, the depth at which it stands, and its number
abbrev pub Changes : Type 0
Changes = Space → Depth → ℕ → Change

abbrev pub changed_variable : Change → Kind → List ℕ → Trees → Tree
changed_variable (Renumbered number) kind name kids = At kind number name kids
changed_variable (Replaced tree) kind name kids = tree

-- a node, where its kids have changed: those of constants and postulates are closed and stay
abbrev pub changed_node : Changes → Depth → Role → Kind → ℕ → List ℕ → Trees → Trees → Tree
changed_node changes depth (Variable space) kind number name kids new = changed_variable (changes space depth number) kind name new
changed_node changes depth Declared kind number name kids new = At kind number name kids
changed_node changes depth Former kind number name kids new = At kind number name new

abbrev pub first_slot : List Slot → Slot
first_slot [] = plain Term
first_slot (slot ∷ slots) = slot

abbrev pub other_slots : List Slot → List Slot
other_slots [] = []
other_slots (slot ∷ slots) = slots

-- the tree where each variable has changed; it stands at a depth, and each kid deeper by what the node binds there
abbrev mutual
  pub changed : Changes → Depth → Tree → Tree
  changed changes depth (At kind number name kids) =
      changed_node changes depth (form kind).role kind number name kids (changed_kids changes depth (form kind).kids kids)

  pub changed_kids : Changes → Depth → List Slot → Trees → Trees
  changed_kids changes depth slots Nil = Nil
  changed_kids changes depth slots (And first rest) =
      And (changed changes (total depth (bound (first_slot slots))) first) (changed_kids changes depth (other_slots slots) rest)

-- the variables that are bound `from` binders further out, or still further, rise by so many
abbrev pub raising : Depth → Depth → Changes
raising from by space depth number = Renumbered (if nat_le (from space + depth space) number then number + by space else number)

-- the textbook's shift: the variables of a space from an index on rise
abbrev pub shift : Space → ℕ → ℕ → Tree → Tree
shift space from by = changed (raising (only space from) (only space by)) none

-- a tree as it is read so much further in: all its variables rise
abbrev pub weakened : Depth → Tree → Tree
weakened by = changed (raising none by) none

abbrev pub same_space : Space → Space → Bool
same_space Points Points = true
same_space Points Terms = false
same_space Terms Points = false
same_space Terms Terms = true

-- a value for the variable of a space that is bound just outside of so many entries; those bound further out lose one
abbrev pub putting : Space → Depth → Tree → Changes
putting space at value other depth number =
    let place = at space + depth space in
    if same_space space other then
    (if nat_lt number place then Renumbered number else if number == place then Replaced (weakened (total at depth) value) else Renumbered (number - 1))
    else Renumbered number

-- the textbook's substitution: the value stands where the entries end, and the tree behind them
abbrev pub put : Space → Depth → Tree → Tree → Tree
put space at value = changed (putting space at value) none

-- every index in a tree is below a bound
abbrev mutual
  pub IndicesBelow : ℕ → Tree → Type 0
  IndicesBelow limit (At kind number name kids) = (number < limit) × AllIndicesBelow limit kids

  pub AllIndicesBelow : ℕ → Trees → Type 0
  AllIndicesBelow limit Nil = Unit {0}
  AllIndicesBelow limit (And first rest) = IndicesBelow limit first × AllIndicesBelow limit rest

-- a node without such a variable, where that is told of its kids
abbrev pub NoneFromHere : Space → ℕ → Role → ℕ → Type 0 → Type 0
NoneFromHere space limit (Variable other) number kids = (IsTrue (same_space space other) → number < limit) × kids
NoneFromHere space limit Declared number kids = Unit {0}
NoneFromHere space limit Former number kids = kids

-- a tree has no variable of a space from an index on, apart from those that it binds itself
abbrev mutual
  pub NoneFrom : Space → ℕ → Tree → Type 0
  NoneFrom space limit (At kind number name kids) = NoneFromHere space limit (form kind).role number (NoneInKids space limit (form kind).kids kids)

  pub NoneInKids : Space → ℕ → List Slot → Trees → Type 0
  NoneInKids space limit slots Nil = Unit {0}
  NoneInKids space limit slots (And first rest) =
      NoneFrom space (limit + bound (first_slot slots) space) first × NoneInKids space limit (other_slots slots) rest
