-- What is proved of splits and of branches.
use Rattle.std.proofs.Common.{◌≡◌, ℕ, List, [], ◌∷◌, ◌++◌, Vec, Global, refl, sym, subst}
use Rattle.rz_rules.specs.Tree.{Tree}
use Rattle.rz_tope_proof.specs.declared.parts.Part.{Part}
use Rattle.rz_tope_proof.specs.declared.places.Places.{Places}
use Rattle.rz_tope_proof.specs.declared.proof.Inference.{Inference}
use Rattle.rz_tope_proof.specs.declared.proof.Reason.TheVariants as reason
use Rattle.rz_tope_proof.specs.Proving.{Extends}
use Rattle.rz_tope_proof.specs.Reading.{tope_at}
use Rattle.rz_rules.specs.Tope.{disjunction}
use Rattle.rz_tope_proof.proofs.Proving.{inference_kept}
use Rattle.rz_tope_search.specs.declared.branches.Branch.{Branch}
use Rattle.rz_tope_search.specs.declared.search.Fork.{Fork}
use Rattle.rz_tope_search.specs.declared.search.Split.{Split}
use Rattle.rz_tope_search.specs.declared.search.Stage.{Stage}
use Rattle.rz_tope_search.specs.declared.search.Stage.TheVariants as stage
use Rattle.rz_tope_search.specs.Showing.{Setting, assuming, IsReading, ProvesBranch}
use Rattle.rz_tope_search.specs.Searching.{case_tope, Assumes, ProvesFork, ProvesStage, ProvesSplit, ProvesSplits, ProvesSearch, assumed_of, within}
use Rattle.rz_tope_search.proofs.Showing.{shows-later, branch-later}

-- the same is read under other assumptions
pub reading-under : (at : Setting) (all : List Inference) (places : Places) (parts : List Part) → IsReading at all places parts
    → (assumed : List ℕ) → IsReading (record { nodes = at.nodes; context = at.context; assumed = assumed }) all places parts
reading-under at all places parts is assumed = record { places_are = is.places_are; parts_are = is.parts_are }

-- ---- among more inferences

module _ (places : Places) (parts : List Part) (goal : ℕ) (old new : List Inference) (extends : Extends old new) where
  pub assumes-later : (at : Setting) (leaf : ℕ) (tope : Tree) → Assumes at old leaf tope → Assumes at new leaf tope
  assumes-later at leaf tope is = inference_kept at.nodes at.context old new extends leaf reason.Assumption tope is

  pub fork-later : (at : Setting) (fork : Fork) → ProvesFork at old places parts fork → ProvesFork at new places parts fork
  fork-later at fork proves = shows-later at old new extends fork.cover
      (disjunction (case_tope at.nodes places parts fork.left) (case_tope at.nodes places parts fork.right)) proves

  stage-later : (at : Setting) (fork : Fork) (leaf : ℕ) (now : Stage)
      → ProvesStage at old places parts goal fork leaf now → ProvesStage at new places parts goal fork leaf now
  stage-later at fork leaf stage.Left is = assumes-later at leaf (case_tope at.nodes places parts fork.left) is
  stage-later at fork leaf (stage.Right before first) is = (
    assumes-later at before (case_tope at.nodes places parts fork.left) is.0,
    shows-later (assuming before at) old new extends first (tope_at at.nodes parts goal) is.1,
    assumes-later at leaf (case_tope at.nodes places parts fork.right) is.2,
  )

  pub split-later : (at : Setting) (split : Split) → ProvesSplit at old places parts goal split → ProvesSplit at new places parts goal split
  split-later at split proves = record {
    cover = fork-later at split.fork proves.cover;
    branch = branch-later at parts old new extends places split.branch proves.branch;
    stage = stage-later at split.fork split.leaf split.stage proves.stage;
  }

  pub splits-later : (at : Setting) (splits : List Split) → ProvesSplits at old places parts goal splits → ProvesSplits at new places parts goal splits
  splits-later at [] proves = tt
  splits-later at (split ∷ splits) proves = (split-later at split proves.0, splits-later (assuming split.leaf at) splits proves.1)

-- ---- a split more

assumed-push : (splits : List Split) (last : Split) (others : List ℕ) → assumed_of (splits ++ last ∷ []) others ≡ last.leaf ∷ assumed_of splits others
assumed-push [] last others = refl
assumed-push (split ∷ splits) last others = assumed-push splits last (split.leaf ∷ others)

pub within-push : (at : Setting) (splits : List Split) (last : Split) → within at (splits ++ last ∷ []) ≡ assuming last.leaf (within at splits)
within-push at splits last = λ i. record { nodes = at.nodes; context = at.context; assumed = assumed-push splits last at.assumed i }

module _ (all : List Inference) (places : Places) (parts : List Part) (goal : ℕ) where
  pub splits-push : (at : Setting) (splits : List Split) (last : Split) → ProvesSplits at all places parts goal splits
      → ProvesSplit (within at splits) all places parts goal last → ProvesSplits at all places parts goal (splits ++ last ∷ [])
  splits-push at [] last before here = (here, tt)
  splits-push at (split ∷ splits) last before here = (before.0, splits-push (assuming split.leaf at) splits last before.1 here)

  pub splits-front : (at : Setting) (splits : List Split) (last : Split) → ProvesSplits at all places parts goal (splits ++ last ∷ [])
      → ProvesSplits at all places parts goal splits
  splits-front at [] last proves = tt
  splits-front at (split ∷ splits) last proves = (proves.0, splits-front (assuming split.leaf at) splits last proves.1)

  pub splits-last : (at : Setting) (splits : List Split) (last : Split) → ProvesSplits at all places parts goal (splits ++ last ∷ [])
      → ProvesSplit (within at splits) all places parts goal last
  splits-last at [] last proves = proves.0
  splits-last at (split ∷ splits) last proves = splits-last (assuming split.leaf at) splits last proves.1

  pub search-push : (at : Setting) (splits more : List Split) (last : Split) (branch : Branch) → more ≡ splits ++ last ∷ []
      → ProvesSplits at all places parts goal splits → ProvesSplit (within at splits) all places parts goal last
      → ProvesBranch (assuming last.leaf (within at splits)) all places parts branch → ProvesSearch at all places parts goal more branch
  search-push at splits more last branch is before here proves =
      subst (λ (xs : List Split). ProvesSearch at all places parts goal xs branch) (sym is) (record {
        splits_are = splits-push at splits last before here;
        branch_is = subst (λ (s : Setting). ProvesBranch s all places parts branch) (sym (within-push at splits last)) proves;
      })

-- the same search
pub search-moved : (at : Setting) (places : Places) (parts : List Part) (goal : ℕ) (p q : List Inference) (b1 b2 : Branch) (s1 s2 : Vec Split Global)
    → p ≡ q → b1 ≡ b2 → s1 ≡ s2 → ProvesSearch at q places parts goal s2.items b2 → ProvesSearch at p places parts goal s1.items b1
search-moved at places parts goal p q b1 b2 s1 s2 e f g proves =
    subst (λ (x : List Inference). ProvesSearch at x places parts goal s1.items b1) (sym e)
    (subst (λ (b : Branch). ProvesSearch at q places parts goal s1.items b) (sym f)
    (subst (λ (s : Vec Split Global). ProvesSearch at q places parts goal s.items b2) (sym g) proves))
