-- The search for a proof of a part.
use Rattle.std.specs.Prelude.{◌≡◌, ℕ, ◌<◌, Bool, true, false, List, length, All}
use Rattle.rz_tope_proof.specs.declared.parts.Part.{Part}
use Rattle.rz_tope_search.specs.declared.branches.Branch.{Branch}
use Rattle.rz_tope_search.specs.declared.search.Case.{Case}
use Rattle.rz_tope_search.specs.declared.search.Case.TheVariants as case
use Rattle.rz_tope_search.specs.declared.search.Fork.{Fork}
use Rattle.rz_tope_search.specs.declared.search.Split.{Split}
use Rattle.rz_tope_search.specs.declared.search.Next.{Next}
use Rattle.rz_tope_search.specs.declared.search.Next.TheVariants as next
use Rattle.rz_tope_search.specs.declared.search.Resumed.{Resumed}
use Rattle.rz_tope_search.specs.declared.search.Resumed.TheVariants as resumed
use Rattle.rz_tope_search.specs.declared.search.Found.{Found}
use Rattle.rz_tope_search.specs.declared.search.Found.TheVariants as found
use Rattle.rz_tope_search.specs.declared.table.Table.{Table}
use Rattle.rz_tope_proof.specs.Order.{Order, IsOrder, rank, by_rank}
use Rattle.rz_tope_proof.specs.Part.{AreValues}
use Rattle.rz_tope_search.specs.Branch.{IsBranch, IsModel, Refines}
use Rattle.rz_tope_search.specs.Table.{order_of}

-- one side of a disjunction: a part, or a comparison of places
abbrev pub IsCase : ℕ → List Part → Case → Type 0
IsCase count parts (case.Part part) = part < length parts
IsCase count parts (case.AtMost low high) = (low < count) × (high < count)

-- whether a side is true
abbrev pub case_value : Order → (ℕ → Bool) → Case → Bool
case_value le value (case.Part part) = value part
case_value le value (case.AtMost low high) = le low high

-- each model of a branch in which a side is true is a model of another
abbrev pub CaseRefines : ℕ → List Part → Branch → Case → Branch → Type 0
CaseRefines count parts branch case old = (le : Order) (value : ℕ → Bool)
    → IsModel count parts branch le value → case_value le value case ≡ true → IsModel count parts old le value

-- A branch is split: each model of what is known besides in which one side of the fork is true is a model of the branch.
pub record IsFork (count : ℕ) (parts : List Part) (old new : Branch) (fork : Fork) : Type 0 where
  pub branch : IsBranch count parts new
  pub left : IsCase count parts fork.left
  pub right : IsCase count parts fork.right
  pub left_refines : CaseRefines count parts new fork.left old
  pub right_refines : CaseRefines count parts new fork.right old

-- what each split keeps
pub record IsSplit (count : ℕ) (parts : List Part) (split : Split) : Type 0 where
  pub branch : IsBranch count parts split.branch
  pub right : IsCase count parts split.fork.right

-- the right branch of a split is one of the search that began with a branch
abbrev pub Leads : ℕ → List Part → Branch → Split → Type 0
Leads count parts start split = CaseRefines count parts split.branch split.fork.right start

-- Each model of the present branch is one of the branch at the start, and so it is in the branches to come.
pub record IsSearch (count : ℕ) (parts : List Part) (start branch : Branch) (splits : List Split) : Type 0 where
  pub branch_is : IsBranch count parts branch
  pub refines : Refines count parts branch start
  pub splits_are : All (IsSplit count parts) splits
  pub leads : All (Leads count parts start) splits

-- The ranks of a table refute a part in a branch: they make a model of it in which the part is false.
pub record IsRefuted (count : ℕ) (parts : List Part) (branch : Branch) (goal : ℕ) (table : Table) : Type 0 where
  pub order : IsOrder count (order_of table)
  pub apart : order_of table 1 0 ≡ false
  pub model : (value : ℕ → Bool) → AreValues (by_rank (rank count (order_of table))) parts value
      → IsModel count parts branch (by_rank (rank count (order_of table))) value
  pub refutes : (value : ℕ → Bool) → AreValues (by_rank (rank count (order_of table))) parts value → value goal ≡ false

-- what comes next in a branch
abbrev pub IsNext : ℕ → List Part → Branch → ℕ → Next → Type 0
IsNext count parts branch goal (next.Proved step) = Unit {0}
IsNext count parts branch goal (next.Taken place) = place < length branch.waiting.items
IsNext count parts branch goal (next.Compared low high) = (low < count) × (high < count)
IsNext count parts branch goal next.Refuted = IsRefuted count parts branch goal branch.table

-- the branch with which a search goes on is one of its own
abbrev pub IsResumed : ℕ → List Part → Resumed → Type 0
IsResumed count parts (resumed.Branch branch) = IsBranch count parts branch
IsResumed count parts (resumed.Done step) = Unit {0}

abbrev pub ResumedRefines : ℕ → List Part → Resumed → Branch → Type 0
ResumedRefines count parts (resumed.Branch branch) start = Refines count parts branch start
ResumedRefines count parts (resumed.Done step) start = Unit {0}

-- what a search finds
abbrev pub IsFound : ℕ → List Part → Branch → ℕ → Found → Type 0
IsFound count parts branch goal (found.Proved step) = Unit {0}
IsFound count parts branch goal (found.Refuted table) = IsRefuted count parts branch goal table
