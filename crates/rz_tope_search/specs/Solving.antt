-- What the solver answers.
use Rattle.std.specs.Prelude.{◌≡◌, ℕ, Bool, true, false, List, All, IfSome}
use Rattle.rz_tope_proof.specs.declared.parts.Part.{Part}
use Rattle.rz_tope_proof.specs.declared.proof.Inference.{Inference}
use Rattle.rz_tope_proof.specs.Order.{by_rank, rank}
use Rattle.rz_tope_proof.specs.Part.{AreValues}
use Rattle.rz_tope_proof.specs.Reading.{tope_at}
use Rattle.rz_tope_search.specs.declared.solving.Conjunct.{Conjunct}
use Rattle.rz_tope_search.specs.declared.solving.Conjunct.TheVariants as conjunct
use Rattle.rz_tope_search.specs.declared.table.Table.{Table}
use Rattle.rz_tope_search.specs.Showing.{Setting, Shows}
use Rattle.rz_tope_search.specs.Table.{order_of}

-- what a hypothesis says, a part with its inference, is proved
abbrev pub ProvesGiven : Setting → List Inference → List Part → ℕ × ℕ → Type 0
ProvesGiven at all parts hypothesis = Shows at all hypothesis.1 (tope_at at.nodes parts hypothesis.0)

-- the part of a hypothesis is true
abbrev pub IsTrueGiven : (ℕ → Bool) → ℕ × ℕ → Type 0
IsTrueGiven value hypothesis = value hypothesis.0 ≡ true

-- one part of a conjunction is proved, if its inference was found
abbrev pub ProvesConjunct : Setting → List Inference → List Part → ℕ → Conjunct → Type 0
ProvesConjunct at all parts part (conjunct.Step step) = IfSome step (λ s. Shows at all s (tope_at at.nodes parts part))
ProvesConjunct at all parts part (conjunct.Refuted table) = Unit {0}

-- In the order of the ranks that a table gives the places below a count, each hypothesis is true and a part is false.
pub record RanksRefute (count : ℕ) (parts : List Part) (given : List (ℕ × ℕ)) (goal : ℕ) (table : Table) : Type 0 where
  pub hypotheses : (value : ℕ → Bool) → AreValues (by_rank (rank count (order_of table))) parts value → All (IsTrueGiven value) given
  pub fails : (value : ℕ → Bool) → AreValues (by_rank (rank count (order_of table))) parts value → value goal ≡ false
