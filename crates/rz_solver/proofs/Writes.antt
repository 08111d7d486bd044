-- Places and tasks with which a proof is written.
use Rattle.std.proofs.Common.{◌≡◌, ℕ, zero, suc, ◌<◌, List, [], ◌∷◌, ◌++◌, length, get_or, Some, None, refl, sym, ap, ◌∙◌, subst}
use Rattle.std.specs.Prelude.{All, slice_get}
use Rattle.std.proofs.lemmas.List.Elements.{All-push, All-nil, All-cons, All-head, All-tail}
use Rattle.rz_rules.specs.Tree.{tree_of}
use Rattle.rz_rules.specs.Structural.{formed}
use Rattle.rz_pool.proofs.Nodes.{Grows-trans, Grows-same}
use Rattle.rz_log.specs.declared.world.World.{World}
use Rattle.rz_log.specs.World.{Grows, IsSound, Says}
use Rattle.rz_solver.specs.declared.writing.Place.{Place}
use Rattle.rz_solver.specs.declared.writing.Task.{Task}
use Rattle.rz_solver.specs.Writing.{Setting, IsJob, IsPlace, IsProved, IsTask, IsWriting, context_under}
use Rattle.rz_solver.proofs.Jobs.{place_grown}
use Rattle.rz_log.proofs.Saying.{item_all}

-- items of a longer list
item_before : {A : Type 0} (list more : List A) (k : ℕ) (x : A) → slice_get list k ≡ Some x → slice_get (list ++ more) k ≡ Some x
item_before [] more k x h = let wrong : None ≡ Some x = h in absurd cc
item_before (y ∷ list) more zero x h = h
item_before (y ∷ list) more (suc k) x h = item_before list more k x h

item_last : {A : Type 0} (list : List A) (x : A) → slice_get (list ++ x ∷ []) (length list) ≡ Some x
item_last [] x = refl
item_last (y ∷ list) x = item_last list x

-- what holds of all items holds of the last, and of those before it
All-last : {A : Type 0} (P : A → Type 0) (list : List A) (x : A) → All P (list ++ x ∷ []) → P x
All-last P [] x all = All-head P x [] all
All-last P (y ∷ list) x all = All-last P list x (All-tail P y (list ++ x ∷ []) all)

All-front : {A : Type 0} (P : A → Type 0) (list : List A) (x : A) → All P (list ++ x ∷ []) → All P list
All-front P [] x all = All-nil P
All-front P (y ∷ list) x all =
    All-cons P y list (All-head P y (list ++ x ∷ []) all) (All-front P list x (All-tail P y (list ++ x ∷ []) all))

-- a task more
pub add_task : (here : Setting) (w : World) (places : List Place) (tasks : List Task) (task : Task) → IsWriting here w places tasks
    → IsTask here places task → IsWriting here w places (tasks ++ task ∷ [])
add_task here w places tasks task is one = record {
  sound = is.sound;
  grows = is.grows;
  places_are = is.places_are;
  tasks_are = All-push (IsTask here places) tasks task is.tasks_are one;
  root = is.root;
  root_is = is.root_is;
  bare = is.bare;
}

-- a place more
task_kept : (here : Setting) (places more : List Place) (task : Task) → IsTask here places task → IsTask here (places ++ more) task
task_kept here places more task is = record { place = is.place; there = item_before places more task.place is.place is.there; proves = is.proves }

pub add_place : (here : Setting) (w : World) (places : List Place) (tasks : List Task) (place : Place) → IsWriting here w places tasks
    → IsPlace here w place → IsWriting here w (places ++ place ∷ []) tasks
add_place here w places tasks place is one = record {
  sound = is.sound;
  grows = is.grows;
  places_are = All-push (IsPlace here w) places place is.places_are one;
  tasks_are = λ k d less. task_kept here places (place ∷ []) (get_or tasks k d) (is.tasks_are k d less);
  root = is.root;
  root_is = item_before places (place ∷ []) 0 is.root is.root_is;
  bare = is.bare;
}

-- what has to be said at the same place
pub follow_same : (here : Setting) (w : World) (places : List Place) (tasks : List Task) (task : Task) (i : ℕ) → IsWriting here w places tasks
    → (is : IsTask here places task) → IsProved here is.place.assumed.items i
    → IsWriting here w places ((tasks ++ task ∷ []) ++ record { place = task.place; inference = i } ∷ [])
follow_same here w places tasks task i writing is proves =
    add_task here w places (tasks ++ task ∷ []) (record { place = task.place; inference = i }) (add_task here w places tasks task writing is)
    (record { place = is.place; there = is.there; proves = proves })

-- what has to be said at a new one
pub follow_under : (here : Setting) (w : World) (places : List Place) (tasks : List Task) (task : Task) (inner : Place) (i : ℕ) → IsWriting here w places tasks
    → IsTask here places task → IsPlace here w inner → IsProved here inner.assumed.items i
    → IsWriting here w (places ++ inner ∷ []) ((tasks ++ task ∷ []) ++ record { place = length places; inference = i } ∷ [])
follow_under here w places tasks task inner i writing is is_place proves =
    add_task here w (places ++ inner ∷ []) (tasks ++ task ∷ []) (record { place = length places; inference = i })
    (add_task here w (places ++ inner ∷ []) tasks task (add_place here w places tasks inner writing is_place) (task_kept here places (inner ∷ []) task is))
    (record { place = inner; there = item_last places inner; proves = proves })

-- the world grows
pub writing_grown : (here : Setting) (w later : World) (places : List Place) (tasks : List Task) → IsWriting here w places tasks → Grows w later
    → IsWriting here later places tasks
writing_grown here w later places tasks is grows = record {
  sound = grows.sound;
  grows = Grows-trans here.nodes w.pool.nodes later.pool.nodes is.grows grows.nodes;
  places_are = λ k d less. place_grown here w later (get_or places k d) is.sound grows (is.places_are k d less);
  tasks_are = is.tasks_are;
  root = is.root;
  root_is = is.root_is;
  bare = is.bare;
}

-- the last task is taken
pub last_task : (here : Setting) (w : World) (places : List Place) (tasks : List Task) (task : Task) → IsWriting here w places (tasks ++ task ∷ [])
    → IsTask here places task
last_task here w places tasks task is = All-last (IsTask here places) tasks task is.tasks_are

pub before_last : (here : Setting) (w : World) (places : List Place) (tasks : List Task) (task : Task) → IsWriting here w places (tasks ++ task ∷ [])
    → IsWriting here w places tasks
before_last here w places tasks task is = record {
  sound = is.sound;
  grows = is.grows;
  places_are = is.places_are;
  tasks_are = All-front (IsTask here places) tasks task is.tasks_are;
  root = is.root;
  root_is = is.root_is;
  bare = is.bare;
}

-- the inference below all as a task
pub root_task : (here : Setting) (w : World) (places : List Place) (tasks : List Task) (goal : ℕ) → IsWriting here w places tasks → IsProved here [] goal
    → IsTask here places (record { place = 0; inference = goal })
root_task here w places tasks goal is proves = record {
  place = is.root;
  there = is.root_is;
  proves = subst (λ (l : List ℕ). IsProved here l goal) (sym is.bare) proves;
}

-- what is to be done at a task's place
pub job_of : (here : Setting) (w : World) (places : List Place) (tasks : List Task) (task : Task) → IsWriting here w places tasks → (is : IsTask here places task)
    → IsJob here w is.place task.inference
job_of here w places tasks task writing is = record {
  sound = writing.sound;
  grows = writing.grows;
  is_place = item_all (IsPlace here w) places task.place is.place writing.places_are is.there;
  proves = is.proves;
}

-- at the start there is the context itself, and no task
pub start_writing : (here : Setting) (w : World) (places : List Place) (tasks : List Task) (place : Place) → IsSound w → here.nodes ≡ w.pool.nodes
    → place.context < length w.pool.nodes → tree_of w.pool.nodes place.context ≡ here.context → Says w place.formed (formed here.context)
    → place.assumed.items ≡ [] → places ≡ place ∷ [] → tasks ≡ [] → IsWriting here w places tasks
start_writing here w places tasks place sound nodes live context_is says bare places_are tasks_are =
    let is_place : IsPlace here w place = record {
      live = live;
      context_is = context_is ∙ ap (context_under here) (sym bare);
      formed_is = subst (λ (l : List ℕ). Says w place.formed (formed (context_under here l))) (sym bare) says;
    } in record {
      sound = sound;
      grows = Grows-same here.nodes w.pool.nodes (sym nodes);
      places_are = subst (All (IsPlace here w)) (sym places_are) (All-cons (IsPlace here w) place [] is_place (All-nil (IsPlace here w)));
      tasks_are = subst (All (IsTask here places)) (sym tasks_are) (All-nil (IsTask here places));
      root = place;
      root_is = ap (λ (l : List Place). slice_get l 0) places_are;
      bare = bare;
    }
