-- The parts of a conjunction.
use Rattle.std.specs.Prelude.{◌≡◌, ℕ, Bool, true, false, List, is_some, ◌⊎◌}
use Rattle.rz_tope_proof.specs.declared.parts.Form.{Form}
use Rattle.rz_tope_proof.specs.declared.parts.Form.TheVariants as form
use Rattle.rz_tope_proof.specs.declared.parts.Part.{Part}
use Rattle.rz_tope_search.specs.declared.branches.Branch.{Branch}
use Rattle.rz_tope_search.specs.declared.solving.Conjunct.{Conjunct}
use Rattle.rz_tope_search.specs.declared.solving.Conjunct.TheVariants as conjunct
use Rattle.rz_tope_proof.specs.Order.{Order}
use Rattle.rz_tope_proof.specs.Part.{AreValues}
use Rattle.rz_tope_search.specs.Search.{IsRefuted}

-- both parts of a conjunction are marked
abbrev pub MarksKids : (ℕ → Bool) → Form → Type 0
MarksKids marked (form.And first second) = (marked first ≡ true) × (marked second ≡ true)
MarksKids marked (form.EqualPairs of left right pairs) = (marked left ≡ true) × (marked right ≡ true)
MarksKids marked other = Unit {0}

-- a part is one of the two of a conjunction
abbrev pub IsKid : Form → ℕ → Type 0
IsKid (form.And first second) k = (k ≡ first) ⊎ (k ≡ second)
IsKid (form.EqualPairs of left right pairs) k = (k ≡ left) ⊎ (k ≡ right)
IsKid other k = ⊥

-- where one part isn't true, another isn't either
abbrev pub Follows : List Part → ℕ → ℕ → Type 0
Follows parts whole part = (le : Order) (value : ℕ → Bool) → AreValues le parts value → value part ≡ false → value whole ≡ false

-- what is found of a part of a conjunction
abbrev pub IsConjunct : ℕ → List Part → Branch → ℕ → Bool → Conjunct → Type 0
IsConjunct count parts root part is_asked (conjunct.Step step) = is_asked ≡ true → is_some step ≡ true
IsConjunct count parts root part is_asked (conjunct.Refuted table) = (is_asked ≡ true) × IsRefuted count parts root part table
