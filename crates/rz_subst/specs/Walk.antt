-- The places of a shared tree, and what becomes of the trees there.
pub use Rattle.rz_pool.specs.Asking.{IsAnswerOf}
use Rattle.std.specs.Prelude.{◌≡◌, ℕ, ◌+◌, ◌<◌, ◌≤◌, ◌^◌, ◌==◌, nat_lt, ◌||◌, ◌&&◌, not, if◌then◌else◌, Bool, true, false, List, [], ◌∷◌, Option, Some, None, IfSome, length, ◌⊎◌}
use Rattle.rz_rules.specs.declared.kinds.Sort.{Sort}
use Rattle.rz_rules.specs.declared.kinds.Sort.TheVariants.{Point, Term}
use Rattle.rz_rules.specs.declared.kinds.Space.{Space}
use Rattle.rz_rules.specs.declared.kinds.Space.TheVariants.{Points, Terms}
use Rattle.rz_rules.specs.declared.kinds.Slot.{Slot}
use Rattle.rz_rules.specs.declared.nodes.Node.{Node}
use Rattle.rz_rules.specs.Tree.{Tree, sort_of, tree_of}
use Rattle.rz_rules.specs.Substitution.{Depth, Changes, first_slot, other_slots, changed, IndicesBelow, NoneFrom}
use Rattle.rz_rules.specs.Substitution as meanings
use Rattle.rz_pool.specs.declared.counts.Counts.{Counts}
use Rattle.rz_pool.specs.declared.questions.VariableChange.{VariableChange}
use Rattle.rz_pool.specs.declared.questions.VariableChange.TheVariants.{PutPoint, PutTerm}
use Rattle.rz_pool.specs.Counts.{depth_of}
use Rattle.rz_pool.specs.Free.{free_bound, free_least}
use Rattle.rz_subst.specs.declared.walk.Extent.{Extent}
use Rattle.rz_subst.specs.declared.walk.Reach.{Reach}
use Rattle.rz_subst.specs.declared.walk.Place.{Place}
use Rattle.rz_subst.specs.declared.walk.Change.{Change}
use Rattle.rz_subst.specs.declared.walk.Change.TheVariants.{Renumbered, Replaced}

-- the sort of the variables of a space
abbrev pub sort_in : Space → Sort
sort_in Points = Point
sort_in Terms = Term

-- how far out the variables of a space lie that may change
abbrev pub reach_of : Reach → Space → Extent
reach_of reach Points = reach.points
reach_of reach Terms = reach.terms

-- the whole tree of an id
abbrev pub top_place : ℕ → Place
top_place id = record { id = id; depth = record { points = 0; terms = 0 } }

-- a kid of the node at a place
abbrev pub kid_place : Place → Slot → ℕ → Place
kid_place place slot kid =
    let points = place.depth.points + slot.points in
    let terms = place.depth.terms + slot.terms in
    record { id = kid; depth = record { points = points; terms = terms } }

abbrev pub kid_places : Place → List Slot → List ℕ → List Place
kid_places place slots [] = []
kid_places place slots (kid ∷ kids) =
    kid_place place (first_slot slots) kid ∷ kid_places place (other_slots slots) kids

-- the tree at a place has no variable of a space that may change
abbrev pub StaysIn : (Space → Extent) → List Node → Place → Space → Type 0
StaysIn reach nodes place space =
    IfSome (reach space).start
    (λ start. NoneFrom space (start + depth_of place.depth space) (tree_of nodes place.id))

-- nothing changes in the tree at a place
abbrev pub IsBeyond : (Space → Extent) → List Node → Place → Type 0
IsBeyond reach nodes place = (space : Space) → StaysIn reach nodes place space

-- variables that aren't reached stay as they are
abbrev pub IsWithin : (Space → Extent) → Changes → Type 0
IsWithin reach changes =
    (space : Space) (depth : Depth) (number : ℕ)
    → IfSome (reach space).start (λ start. number < start + depth space)
    → changes space depth number ≡ meanings.Renumbered number

-- variables further out than the first that may change become the same at every depth
abbrev pub IsSteady : (Space → Extent) → Changes → Type 0
IsSteady reach changes =
    (space : Space) (depth other : Depth) (number : ℕ)
    → IfSome (reach space).start
    (λ start. (start + depth space < number) × (start + other space < number))
    → changes space depth number ≡ changes space other number

-- what becomes of a variable depends on its own space's depth, and on those with which values move
abbrev pub MovesOnlyWith : (Space → Extent) → Changes → Type 0
MovesOnlyWith reach changes =
    (space : Space) (depth other : Depth) (number : ℕ) → depth space ≡ other space
    → ((moved : Space) → (depth moved ≡ other moved) ⊎ ((reach moved).moves ≡ false))
    → changes space depth number ≡ changes space other number

-- what becomes of variables keeps to a reach
pub record KeepsTo (reach : Space → Extent) (changes : Changes) : Type 0 where
  pub within : IsWithin reach changes
  pub steady : IsSteady reach changes
  pub moves : MovesOnlyWith reach changes

-- whether a bound and a least index tell that the free variables are past the first to change
abbrev pub lies_past : Option ℕ → (depth bound least : ℕ) → Bool
lies_past None depth bound least = true
lies_past (Some start) depth bound least = bound == 0 || nat_lt (start + depth) least

-- whether the pool tells so of the free variables of a space in the tree at a place
abbrev pub is_past : (Space → Extent) → List Node → Place → Space → Bool
is_past reach nodes place space =
    let tree = tree_of nodes place.id in
    lies_past (reach space).start (depth_of place.depth space) (free_bound space tree)
    (free_least space tree)

-- a space's depth, which is of no account where its variables lie past the first to change, and
-- either those of the other space do so too, or no value moves with this one
abbrev pub count_where : (moves past others : Bool) → ℕ → ℕ
count_where moves past others count = if past && (others || not moves) then 0 else count

abbrev pub place_where : (Space → Extent) → Place → (points terms : Bool) → Place
place_where reach place points terms =
    let in_points = count_where (reach Points).moves points terms place.depth.points in
    let in_terms = count_where (reach Terms).moves terms points place.depth.terms in
    record { id = place.id; depth = record { points = in_points; terms = in_terms } }

-- the place whose answer serves for a place
abbrev pub shared_place : (Space → Extent) → List Node → Place → Place
shared_place reach nodes place =
    place_where reach place (is_past reach nodes place Points) (is_past reach nodes place Terms)

-- what becomes of the tree at a place
abbrev pub answer : Changes → List Node → Place → Tree
answer changes nodes place = changed changes (depth_of place.depth) (tree_of nodes place.id)

-- what the code answers for a variable
abbrev pub IsChange : List Node → Change → meanings.Change → Type 0
IsChange nodes (Renumbered number) (meanings.Renumbered other) =
    (number ≡ other) × (number < 2 ^ 32)
IsChange nodes (Replaced id) (meanings.Replaced tree) =
    (id < length nodes) × (tree_of nodes id ≡ tree)
IsChange nodes (Renumbered number) (meanings.Replaced tree) = ⊥
IsChange nodes (Replaced id) (meanings.Renumbered other) = ⊥

-- no index in it is too large
abbrev pub FitsChange : meanings.Change → Type 0
FitsChange (meanings.Renumbered number) = number < 2 ^ 32
FitsChange (meanings.Replaced tree) = IndicesBelow (2 ^ 32) tree

-- what the code answers for a variable, or none where an index would be too large
abbrev pub IsAnswer : List Node → Option Change → meanings.Change → Type 0
IsAnswer nodes (Some change) meaning = IsChange nodes change meaning
IsAnswer nodes None meaning = ¬ (FitsChange meaning)

-- a variable gets this number, or none where it is too large
abbrev pub IsNewNumber : ℕ → Option Change → Type 0
IsNewNumber number change =
    (number < 2 ^ 32 → change ≡ Some (Renumbered number)) × (2 ^ 32 ≤ number → change ≡ None)

-- where variables from an index on rise by so many, those from there on change if any does
abbrev pub raised_from : ℕ → ℕ → Option ℕ
raised_from from by = if by == 0 then None else Some from

-- then no value moves
abbrev pub raising_extent : ℕ → ℕ → Extent
raising_extent from by = record { start = raised_from from by; moves = false }

abbrev pub raising_reach : Counts → Counts → Reach
raising_reach from by = record {
  points = raising_extent from.points by.points;
  terms = raising_extent from.terms by.terms;
}

-- a value moves with the spaces of which it has free variables
abbrev pub putting_extent : Option ℕ → Space → Tree → Extent
putting_extent start space value =
    record { start = start; moves = nat_lt 0 (free_bound space value) }

abbrev pub putting_reach : Space → Counts → Tree → Reach
putting_reach Points at value = record {
  points = putting_extent (Some at.points) Points value;
  terms = putting_extent None Terms value;
}
putting_reach Terms at value = record {
  points = putting_extent None Points value;
  terms = putting_extent (Some at.terms) Terms value;
}

abbrev pub HasSort : Sort → meanings.Change → Type 0
HasSort sort (meanings.Renumbered number) = Unit {0}
HasSort sort (meanings.Replaced tree) = sort_of tree ≡ sort

-- only trees of its sort take the place of a variable
abbrev pub KeepsSorts : Changes → Type 0
KeepsSorts changes =
    (space : Space) (depth : Depth) (number : ℕ)
    → HasSort (sort_in space) (changes space depth number)

-- a value of its sort in a pool
abbrev pub IsValue : Space → ℕ → List Node → Type 0
IsValue space value nodes = (value < length nodes) × (sort_of (tree_of nodes value) ≡ sort_in space)

-- the change that a question names
abbrev pub put_change : Space → Counts → ℕ → VariableChange
put_change Points at value = PutPoint at value
put_change Terms at value = PutTerm at value
