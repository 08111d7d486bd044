-- Which inferences lead to an assumption.
use Rattle.std.specs.Prelude.{◌≡◌, ℕ, ◌<◌, ◌==◌, ◌||◌, Bool, false, List, Some, length, slice_get, take}
use Rattle.std.specs.List.{slice_index_or}
use Rattle.rz_tope_proof.specs.declared.proof.Reason.{Reason}
use Rattle.rz_tope_proof.specs.declared.proof.Reason.TheVariants as reason
use Rattle.rz_tope_proof.specs.declared.proof.Inference.{Inference}

-- whether the inference with this number is marked
abbrev pub is_marked : List Bool → ℕ → Bool
is_marked marks number = slice_index_or marks number false

-- whether a premise is marked
abbrev pub leads_by : List Bool → Reason → Bool
leads_by marks (reason.Hypothesis number) = false
leads_by marks reason.Assumption = false
leads_by marks (reason.Axiom by) = false
leads_by marks (reason.One by premise) = is_marked marks premise
leads_by marks (reason.Two by first second) = is_marked marks first || is_marked marks second
leads_by marks (reason.Cases cover one other) = is_marked marks cover || is_marked marks one.1 || is_marked marks other.1

-- Each inference that has a mark or none is marked exactly where it is this assumption, or an earlier one is its premise and marked.
abbrev pub AreMarks : List Inference → ℕ → List Bool → Type 0
AreMarks all leaf marks = (i : ℕ) (step : Inference) → slice_get all i ≡ Some step → i < length marks
    → is_marked marks i ≡ (i == leaf || leads_by (take i marks) step.reason)
