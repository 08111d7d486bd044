-- Branches of the search.
use Rattle.std.specs.Prelude.{◌≡◌, ℕ, ◌<◌, ◌||◌, Bool, true, false, List, length, Option, None, is_some, All}
use Rattle.std.specs.List.{slice_index_or}
use Rattle.rz_tope_proof.specs.declared.parts.Form.{Form}
use Rattle.rz_tope_proof.specs.declared.parts.Form.TheVariants as form
use Rattle.rz_tope_proof.specs.declared.parts.Part.{Part}
use Rattle.rz_tope_search.specs.declared.branches.Branch.{Branch}
use Rattle.rz_tope_search.specs.declared.branches.Waiting.{Waiting}
use Rattle.rz_tope_proof.specs.Order.{Order, IsOrder, IsWithin}
use Rattle.rz_tope_proof.specs.Part.{AreValues, value_over}
use Rattle.rz_tope_search.specs.Table.{order_of}

-- a disjunction that waits is made of parts
abbrev pub IsWaitingFor : List Part → Waiting → Type 0
IsWaitingFor parts waiting = (waiting.sides.0 < length parts) × (waiting.sides.1 < length parts)

-- what each branch keeps: its table is an order, and what waits are parts
pub record IsBranch (count : ℕ) (parts : List Part) (branch : Branch) : Type 0 where
  pub order : IsOrder count (order_of branch.table)
  pub waiting : All (IsWaitingFor parts) branch.waiting.items

-- a disjunction that waits is true
abbrev pub IsTrueWaiting : (ℕ → Bool) → Waiting → Type 0
IsTrueWaiting value waiting = (value waiting.sides.0 || value waiting.sides.1) ≡ true

-- An order in which the ends are apart, with the values of all parts in it, is a model of a branch: it says what the
-- table says, and what waits is true.
pub record IsModel (count : ℕ) (parts : List Part) (branch : Branch) (le : Order) (value : ℕ → Bool) : Type 0 where
  pub order : IsOrder count le
  pub apart : le 1 0 ≡ false
  pub values : AreValues le parts value
  pub within : IsWithin count (order_of branch.table) le
  pub waiting : All (IsTrueWaiting value) branch.waiting.items

-- each model of one branch is a model of another
abbrev pub Refines : ℕ → List Part → Branch → Branch → Type 0
Refines count parts new old = (le : Order) (value : ℕ → Bool) → IsModel count parts new le value → IsModel count parts old le value

-- whether a form is a conjunction of two parts, and these
abbrev pub is_joint : Form → Bool
is_joint (form.And first second) = true
is_joint (form.EqualPairs of left right pairs) = true
is_joint other = false

abbrev pub first_of : Form → ℕ
first_of (form.And first second) = first
first_of (form.EqualPairs of left right pairs) = left
first_of other = 0

abbrev pub second_of : Form → ℕ
second_of (form.And first second) = second
second_of (form.EqualPairs of left right pairs) = right
second_of other = 0

-- the inference of a part, where there is one
abbrev pub has_step : List (Option ℕ) → ℕ → Bool
has_step steps k = is_some (slice_index_or steps k None)

-- A form is accounted for: the parts of a conjunction have inferences, and any other is true in each model of the branch.
pub record IsDone (count : ℕ) (parts : List Part) (branch : Branch) (steps : List (Option ℕ)) (form : Form) : Type 0 where
  pub kids : is_joint form ≡ true → (has_step steps (first_of form) ≡ true) × (has_step steps (second_of form) ≡ true)
  pub others : is_joint form ≡ false
      → (le : Order) (value : ℕ → Bool) → IsModel count parts branch le value → value_over le value form ≡ true
