-- Lines for a proof, in the contexts that its assumptions make.
use Rattle.std.specs.Prelude.{◌≡◌, ℕ, ◌<◌, List, [], map, length, All, Some, slice_get}
use Rattle.std.specs.List.{slice_index_or}
use Rattle.rz_rules.specs.declared.nodes.Node.{Node}
use Rattle.rz_rules.specs.Tree.{Tree, tree_of}
use Rattle.rz_rules.specs.Context.{OfTope, with_entries}
use Rattle.rz_rules.specs.Structural.{formed, holds}
use Rattle.rz_pool.specs.Pool as pool
use Rattle.rz_tope_proof.specs.declared.proof.Claim.TheVariants as claim
use Rattle.rz_tope_proof.specs.declared.proof.Inference.{Inference}
use Rattle.rz_tope_proof.specs.declared.proof.Reason.TheVariants as reason
use Rattle.rz_tope_proof.specs.Claim.{tope_of}
use Rattle.rz_tope_proof.specs.Proving.{IsInference, Proves}
use Rattle.rz_log.specs.declared.world.World.{World}
use Rattle.rz_log.specs.World.{IsSound, Says}
use Rattle.rz_solver.specs.declared.writing.Place.{Place}
use Rattle.rz_solver.specs.declared.writing.Task.{Task}
use Rattle.rz_solver.specs.declared.writing.Outcome.{Outcome}
use Rattle.rz_solver.specs.declared.writing.Outcome.TheVariants.{Said, Needs, NeedsUnder}

-- the nodes that a proof names, the context that it speaks of, and its inferences
pub record Setting : Type 0 where
  pub nodes : List Node
  pub context : Tree
  pub all : List Inference

-- the inference with a number
abbrev pub inference_at : List Inference → ℕ → Inference
inference_at all i = slice_index_or all i (record { claim = claim.Tope 0; reason = reason.Hypothesis 0 })

-- the tope that it says
abbrev pub tope_said : Setting → ℕ → Tree
tope_said here i = tope_of here.nodes (inference_at here.all i).claim

-- it is proved where these are assumed, the first of them innermost
abbrev pub IsProved : Setting → List ℕ → ℕ → Type 0
IsProved here assumed i = Proves here.nodes here.context here.all assumed i (tope_said here i)

-- the context to which assumptions are added
abbrev pub context_under : Setting → List ℕ → Tree
context_under here assumed = with_entries here.context (map (λ i. OfTope (tope_said here i)) assumed)

-- a step says an inference's tope there
abbrev pub IsSaid : Setting → World → List ℕ → ℕ → ℕ → Type 0
IsSaid here w assumed i step = Says w step (holds (context_under here assumed) (tope_said here i))

-- a place is such a context, and a step says that it is formed
pub record IsPlace (here : Setting) (w : World) (place : Place) : Type 0 where
  pub live : place.context < length w.pool.nodes
  pub context_is : tree_of w.pool.nodes place.context ≡ context_under here place.assumed.items
  pub formed_is : Says w place.formed (formed (context_under here place.assumed.items))

-- an inference that is proved at a place is to be said there
pub record IsJob (here : Setting) (w : World) (place : Place) (i : ℕ) : Type 0 where
  pub sound : IsSound w
  pub grows : pool.Grows here.nodes w.pool.nodes
  pub is_place : IsPlace here w place
  pub proves : IsProved here place.assumed.items i

-- an inference is an assumption that is to be added at a place
pub record IsSide (here : Setting) (w : World) (place : Place) (assumption : ℕ) : Type 0 where
  pub sound : IsSound w
  pub grows : pool.Grows here.nodes w.pool.nodes
  pub is_place : IsPlace here w place
  pub there : IsInference here.nodes here.context here.all assumption reason.Assumption (tope_said here assumption)

-- The inference is said, or another has to be before: at the same place, or at a new one.
abbrev pub IsOutcome : Setting → World → List ℕ → ℕ → Outcome → Type 0
IsOutcome here w assumed i (Said step) = IsSaid here w assumed i step
IsOutcome here w assumed i (Needs other) = IsProved here assumed other
IsOutcome here w assumed i (NeedsUnder place other) = IsPlace here w place × IsProved here place.assumed.items other

-- a task is to say an inference at a place where it is proved
pub record IsTask (here : Setting) (places : List Place) (task : Task) : Type 0 where
  pub place : Place
  pub there : slice_get places task.place ≡ Some place
  pub proves : IsProved here place.assumed.items task.inference

-- A world, places and tasks with which a proof is written. The first place is the context itself.
pub record IsWriting (here : Setting) (w : World) (places : List Place) (tasks : List Task) : Type 0 where
  pub sound : IsSound w
  pub grows : pool.Grows here.nodes w.pool.nodes
  pub places_are : All (IsPlace here w) places
  pub tasks_are : All (IsTask here places) tasks
  pub root : Place
  pub root_is : slice_get places 0 ≡ Some root
  pub bare : root.assumed.items ≡ []
