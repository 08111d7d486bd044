-- What is proved in the course of a search.
use Rattle.std.specs.Prelude.{ℕ, List, [], ◌∷◌}
use Rattle.rz_rules.specs.declared.nodes.Node.{Node}
use Rattle.rz_rules.specs.Tree.{Tree}
use Rattle.rz_tope_proof.specs.declared.parts.Part.{Part}
use Rattle.rz_tope_proof.specs.declared.places.Places.{Places}
use Rattle.rz_tope_proof.specs.declared.proof.Inference.{Inference}
use Rattle.rz_tope_proof.specs.declared.proof.Reason.TheVariants as reason
use Rattle.rz_tope_proof.specs.Proving.{IsInference}
use Rattle.rz_tope_proof.specs.Reading.{tope_at}
use Rattle.rz_rules.specs.Tope.{disjunction}
use Rattle.rz_tope_search.specs.declared.branches.Branch.{Branch}
use Rattle.rz_tope_search.specs.declared.search.Case.{Case}
use Rattle.rz_tope_search.specs.declared.search.Case.TheVariants as case
use Rattle.rz_tope_search.specs.declared.search.Fork.{Fork}
use Rattle.rz_tope_search.specs.declared.search.Found.{Found}
use Rattle.rz_tope_search.specs.declared.search.Found.TheVariants as found
use Rattle.rz_tope_search.specs.declared.search.Next.{Next}
use Rattle.rz_tope_search.specs.declared.search.Next.TheVariants as next
use Rattle.rz_tope_search.specs.declared.search.Resumed.{Resumed}
use Rattle.rz_tope_search.specs.declared.search.Resumed.TheVariants as resumed
use Rattle.rz_tope_search.specs.declared.search.Split.{Split}
use Rattle.rz_tope_search.specs.declared.search.Stage.{Stage}
use Rattle.rz_tope_search.specs.declared.search.Stage.TheVariants as stage
use Rattle.rz_tope_search.specs.Showing.{Setting, Shows, assuming, places_tope, ProvesBranch}

-- one side of a disjunction as a tope
abbrev pub case_tope : List Node → Places → List Part → Case → Tree
case_tope nodes places parts (case.Part part) = tope_at nodes parts part
case_tope nodes places parts (case.AtMost low high) = places_tope nodes places low high

-- the inference of a fork proves its disjunction
abbrev pub ProvesFork : Setting → List Inference → Places → List Part → Fork → Type 0
ProvesFork at all places parts fork =
    Shows at all fork.cover (disjunction (case_tope at.nodes places parts fork.left) (case_tope at.nodes places parts fork.right))

-- an inference is the assumption of a tope
abbrev pub Assumes : Setting → List Inference → ℕ → Tree → Type 0
Assumes at all leaf tope = IsInference at.nodes at.context all leaf reason.Assumption tope

-- The left side is assumed, or the right one, after a part was proved under the left one.
abbrev pub ProvesStage : Setting → List Inference → Places → List Part → ℕ → Fork → ℕ → Stage → Type 0
ProvesStage at all places parts goal fork leaf stage.Left = Assumes at all leaf (case_tope at.nodes places parts fork.left)
ProvesStage at all places parts goal fork leaf (stage.Right before first) =
    Assumes at all before (case_tope at.nodes places parts fork.left)
    × Shows (assuming before at) all first (tope_at at.nodes parts goal)
    × Assumes at all leaf (case_tope at.nodes places parts fork.right)

-- what a split keeps is proved under the assumptions of those before it
pub record ProvesSplit (at : Setting) (all : List Inference) (places : Places) (parts : List Part) (goal : ℕ) (split : Split) : Type 0 where
  pub cover : ProvesFork at all places parts split.fork
  pub branch : ProvesBranch at all places parts split.branch
  pub stage : ProvesStage at all places parts goal split.fork split.leaf split.stage

-- the assumptions of splits, the last one's first, before others
abbrev pub assumed_of : List Split → List ℕ → List ℕ
assumed_of [] others = others
assumed_of (split ∷ splits) others = assumed_of splits (split.leaf ∷ others)

-- the setting with the assumptions of splits
abbrev pub within : Setting → List Split → Setting
within at splits = record { nodes = at.nodes; context = at.context; assumed = assumed_of splits at.assumed }

-- each split keeps what is proved under the assumptions of those before it
abbrev pub ProvesSplits : Setting → List Inference → Places → List Part → ℕ → List Split → Type 0
ProvesSplits at all places parts goal [] = Unit {0}
ProvesSplits at all places parts goal (split ∷ splits) =
    ProvesSplit at all places parts goal split × ProvesSplits (assuming split.leaf at) all places parts goal splits

-- what is known in the present branch is proved under the assumptions of the splits
pub record ProvesSearch (at : Setting) (all : List Inference) (places : Places) (parts : List Part) (goal : ℕ) (splits : List Split) (branch : Branch)
    : Type 0 where
  pub splits_are : ProvesSplits at all places parts goal splits
  pub branch_is : ProvesBranch (within at splits) all places parts branch

-- a part is proved, if that is what comes next
abbrev pub ProvesNext : Setting → List Inference → List Part → ℕ → Next → Type 0
ProvesNext at all parts goal (next.Proved step) = Shows at all step (tope_at at.nodes parts goal)
ProvesNext at all parts goal (next.Taken place) = Unit {0}
ProvesNext at all parts goal (next.Compared low high) = Unit {0}
ProvesNext at all parts goal next.Refuted = Unit {0}

-- the search goes on, or a part is proved
abbrev pub ProvesResumed : Setting → List Inference → Places → List Part → ℕ → List Split → Resumed → Type 0
ProvesResumed at all places parts goal splits (resumed.Branch branch) = ProvesSearch at all places parts goal splits branch
ProvesResumed at all places parts goal splits (resumed.Done step) = Shows at all step (tope_at at.nodes parts goal)

-- a part is proved, if that is what was found
abbrev pub ProvesFound : Setting → List Inference → List Part → ℕ → Found → Type 0
ProvesFound at all parts goal (found.Proved step) = Shows at all step (tope_at at.nodes parts goal)
ProvesFound at all parts goal (found.Refuted table) = Unit {0}
