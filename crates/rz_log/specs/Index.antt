-- The first places at which judgments stand in a list.
use Rattle.std.specs.Prelude.{◌≡◌, ℕ, ◌<◌, List, Option, Some, None, slice_get}
use Rattle.std.specs.HashMap.{get}
use Rattle.rz_rules.specs.declared.judgments.Judgment.{Judgment}
use Rattle.rz_rules.specs.Judgment.{context_of, parts_of}
use Rattle.rz_log.specs.declared.index.Key.{Key}
use Rattle.rz_log.specs.declared.index.Index.{Index}
use Rattle.rz_log.specs.contracts.index.KeyPartialEq.TheImpl.{eq-value}

-- a place is the first at which a judgment stands, or it stands at none
abbrev pub IsFirst : List Judgment → Judgment → Option ℕ → Type 0
IsFirst said says (Some step) = (slice_get said step ≡ Some says) × ((before : ℕ) → before < step → slice_get said before ≡ Some says → ⊥)
IsFirst said says None = (step : ℕ) → slice_get said step ≡ Some says → ⊥

-- a judgment as the index finds it
abbrev pub key_of : Judgment → Key
key_of says = record { context = context_of says; parts = parts_of says }

-- the place that an index has for a judgment
abbrev pub step_in : Index → Judgment → Option ℕ
step_in index says = get eq-value.it index.steps (key_of says)

-- an index has the first places of a list
abbrev pub IsIndex : List Judgment → Index → Type 0
IsIndex said index = (says : Judgment) → IsFirst said says (step_in index says)
