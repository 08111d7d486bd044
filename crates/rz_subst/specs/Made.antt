-- What became of the places that a walk has come to.
use Rattle.std.specs.Prelude.{◌≡◌, ℕ, ◌<◌, List, Some, Contains, length, ◌⊎◌}
use Rattle.std.specs.HashMap.{HashMap, get}
use Rattle.rz_rules.specs.declared.nodes.Node.{Node}
use Rattle.rz_rules.specs.Tree.{tree_of}
use Rattle.rz_rules.specs.Substitution.{Changes}
use Rattle.rz_pool.specs.declared.keys.HashKey.{HashKey}
use Rattle.rz_subst.specs.declared.made.Answered.{Answered}
use Rattle.rz_subst.specs.declared.made.Made.{Made}
use Rattle.rz_subst.specs.declared.walk.Place.{Place}
use Rattle.rz_subst.specs.contracts.walk.PlacePartialEq.TheImpl.{eq-value}
use Rattle.rz_subst.specs.Walk.{answer}

abbrev pub answered : Place → ℕ → Answered
answered place id = record { place = place; id = id }

-- a table has this id for a place
abbrev pub IsIn : HashMap Place ℕ HashKey → Place → ℕ → Type 0
IsIn table place id = get eq-value.it table place ≡ Some id

-- the list or the table has it
abbrev pub IsAmong : Made → Place → ℕ → Type 0
IsAmong made place id = Contains made.few.items (answered place id) ⊎ IsIn made.many place id

-- what is had now was had before, but for one answer
abbrev pub AddsOnly : Made → Made → Place → ℕ → Type 0
AddsOnly old new place id =
    (other : Place) (found : ℕ) → IsAmong new other found
    → IsAmong old other found ⊎ ((other ≡ place) × (found ≡ id))

-- an id stands for what became of the tree at a place
pub record IsMadeAt (changes : Changes) (nodes : List Node) (place : Place) (id : ℕ) : Type 0 where
  pub live : place.id < length nodes
  pub within : id < length nodes
  pub tree : tree_of nodes id ≡ answer changes nodes place

-- each answer is right
abbrev pub AreMade : Changes → List Node → Made → Type 0
AreMade changes nodes made =
    (place : Place) (id : ℕ) → IsAmong made place id → IsMadeAt changes nodes place id
