-- What a walk has still to do, and what comes of it.
use Rattle.std.specs.Prelude.{◌≡◌, ℕ, suc, ◌+◌, ◌<◌, ◌^◌, List, [], ◌∷◌, length, map, reverse, take, drop, All}
use Rattle.rz_rules.specs.declared.kinds.Role.TheVariants.{Former}
use Rattle.rz_rules.specs.declared.nodes.Node.{Node}
use Rattle.rz_rules.specs.Form.{form}
use Rattle.rz_rules.specs.Tree.{Tree, Trees, At, Nil, And, trees_of, tree_of, kind_at}
use Rattle.rz_rules.specs.Substitution.{Depth, Changes, changed, changed_kids, IndicesBelow}
use Rattle.rz_pool.specs.Counts.{depth_of}
use Rattle.rz_subst.specs.declared.going.Look.{Look}
use Rattle.rz_subst.specs.declared.going.Look.TheVariants.{Known, New, TooLarge, OfKids}
use Rattle.rz_subst.specs.declared.going.Walk.{Walk}
use Rattle.rz_subst.specs.declared.tasks.Task.{Task}
use Rattle.rz_subst.specs.declared.tasks.Task.TheVariants.{Visit, Make}
use Rattle.rz_subst.specs.declared.walk.Place.{Place}
use Rattle.rz_subst.specs.Made.{AreMade}
use Rattle.rz_subst.specs.Walk.{KeepsTo, answer, reach_of, top_place}

-- a node over other kids
abbrev pub with_kids : Node → List ℕ → Node
with_kids node kids =
    record { kind = node.kind; number = node.number; name = node.name; kids = kids }

abbrev pub place_of : Task → Place
place_of (Visit place) = place
place_of (Make place) = place

-- a task, over trees: one is to change, or one is to be made over what became of its kids
pub data Job : Type 0 where
  Changing : (depth : Depth) (tree : Tree) → Job
  Making : (depth : Depth) (tree : Tree) → Job

abbrev pub job_of : List Node → Task → Job
job_of nodes (Visit place) = Changing (depth_of place.depth) (tree_of nodes place.id)
job_of nodes (Make place) = Making (depth_of place.depth) (tree_of nodes place.id)

abbrev pub count_of : Trees → ℕ
count_of Nil = 0
count_of (And first rest) = suc (count_of rest)

abbrev pub kid_count : Tree → ℕ
kid_count (At kind number name kids) = count_of kids

-- what becomes of the kids of a tree
abbrev pub kid_answers : Changes → Depth → Tree → Trees
kid_answers changes depth (At kind number name kids) =
    changed_kids changes depth (form kind).kids kids

-- the results after a job, the last first: a new one, in the place of those that it is made over
abbrev pub after_job : Changes → Job → List Tree → List Tree
after_job changes (Changing depth tree) results = changed changes depth tree ∷ results
after_job changes (Making depth tree) results =
    changed changes depth tree ∷ drop (kid_count tree) results

-- the results after all jobs, of which the last is done first
abbrev pub after_jobs : Changes → List Job → List Tree → List Tree
after_jobs changes [] results = results
after_jobs changes (job ∷ jobs) results = after_job changes job (after_jobs changes jobs results)

-- a node is made where the last results are what became of its kids
abbrev pub IsReady : Changes → Job → List Tree → Type 0
IsReady changes (Changing depth tree) results = Unit {0}
IsReady changes (Making depth tree) results =
    ((form (kind_at tree)).role ≡ Former)
    × (trees_of (take (kid_count tree) results) ≡ kid_answers changes depth tree)

-- each job is ready when it is its turn
abbrev pub AreReady : Changes → List Job → List Tree → Type 0
AreReady changes [] results = Unit {0}
AreReady changes (job ∷ jobs) results =
    IsReady changes job (after_jobs changes jobs results) × AreReady changes jobs results

-- no index in what becomes of a tree that is to change is too large
abbrev pub Fits : Changes → Job → Type 0
Fits changes (Changing depth tree) = IndicesBelow (2 ^ 32) (changed changes depth tree)
Fits changes (Making depth tree) = Unit {0}

-- how many steps it takes at most to walk a tree, and to do a job, and more jobs
abbrev mutual
  pub weight : Tree → ℕ
  weight (At kind number name kids) = suc (suc (weights kids))

  pub weights : Trees → ℕ
  weights Nil = 0
  weights (And first rest) = weight first + weights rest

abbrev pub job_weight : Job → ℕ
job_weight (Changing depth tree) = weight tree
job_weight (Making depth tree) = 1

abbrev pub total_weight : List Job → ℕ
total_weight [] = 0
total_weight (job ∷ jobs) = job_weight job + total_weight jobs

abbrev pub jobs_of : List Node → List Task → List Job
jobs_of nodes tasks = map (job_of nodes) tasks

-- the results' trees, the last first
abbrev pub results_of : List Node → List ℕ → List Tree
results_of nodes news = map (tree_of nodes) (reverse news)

-- what becomes of a whole tree
abbrev pub whole_answer : Changes → List Node → ℕ → Tree
whole_answer changes nodes id = answer changes nodes (top_place id)

-- the tasks lead from these results to what becomes of the tree of an id
pub record IsGoing (changes : Changes) (nodes : List Node) (id : ℕ) (tasks : List Task)
    (news : List ℕ) : Type 0 where
  pub whole : id < length nodes
  pub live : All (λ task. (place_of task).id < length nodes) tasks
  pub within : All (λ new. new < length nodes) (reverse news)
  pub ready : AreReady changes (jobs_of nodes tasks) (results_of nodes news)
  pub ends : after_jobs changes (jobs_of nodes tasks) (results_of nodes news)
      ≡ whole_answer changes nodes id ∷ []
  pub fits : IndicesBelow (2 ^ 32) (whole_answer changes nodes id)
      → All (Fits changes) (jobs_of nodes tasks)

-- and what became of places before is right
pub record IsWalking (changes : Changes) (nodes : List Node) (id : ℕ) (tasks : List Task)
    (walk : Walk) : Type 0 where
  pub going : IsGoing changes nodes id tasks walk.news.items
  pub made : AreMade changes nodes walk.made
  pub keeps : KeepsTo (reach_of walk.reach) changes

-- a step leads on: from the tasks of a walk to fewer ones, or to smaller trees
pub record LeadsOn (changes : Changes) (old : List Node) (tasks : List Task) (before : Walk)
    (later : Changes) (new : List Node) (after : Walk) : Type 0 where
  pub walking : (id : ℕ) → IsWalking changes old id tasks before
      → IsWalking later new id after.tasks.items after
  pub lighter : total_weight (jobs_of new after.tasks.items) < total_weight (jobs_of old tasks)

-- a step finds that an index is too large
abbrev pub IsMisfit : Changes → List Node → List Task → Walk → Type 0
IsMisfit changes nodes tasks walk =
    (id : ℕ) → IsWalking changes nodes id tasks walk
    → ¬ (IndicesBelow (2 ^ 32) (whole_answer changes nodes id))

-- what is known of a place, in a pool that has grown
abbrev pub IsLook : Changes → List Node → List Node → Place → Look → Type 0
IsLook changes old new place (Known id) =
    (id < length new) × (tree_of new id ≡ answer changes old place)
IsLook changes old new place (New id) =
    (id < length new) × (tree_of new id ≡ answer changes old place)
IsLook changes old new place TooLarge = ¬ (IndicesBelow (2 ^ 32) (answer changes old place))
IsLook changes old new place OfKids = (form (kind_at (tree_of old place.id))).role ≡ Former
