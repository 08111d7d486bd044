-- Steps of a walk: what is known by then stays right, and the jobs that are left weigh less.
use Rattle.std.proofs.Common.{◌≡◌, ℕ, ◌+◌, ◌<◌, Bool, true, false, cond, List, [], ◌∷◌, ◌++◌, Option, Some, length, map, reverse, take, drop, All, ◌⊎◌, inl, inr, refl, sym, ap, subst, ◌∙◌, append-nil, arith}
use Rattle.std.proofs.lemmas.List.{map-append, reverse-append, drop-map}
use Rattle.std.proofs.lemmas.List.Elements.{All-head, All-cons, All-nil, All-drop}
use Rattle.std.specs.HashMap.{HashMap, get}
use Rattle.rz_rules.specs.declared.kinds.Role.TheVariants.{Former}
use Rattle.rz_rules.specs.declared.nodes.Node.{Node}
use Rattle.rz_rules.specs.Form.{form}
use Rattle.rz_rules.specs.Tree.{Tree, kind_at, trees_in, tree_over, tree_of}
use Rattle.rz_rules.specs.Substitution.{Depth, Changes, changed, none}
use Rattle.rz_pool.specs.declared.keys.HashKey.{HashKey}
use Rattle.rz_pool.specs.Counts.{depth_of}
use Rattle.rz_pool.specs.Pool.{Grows}
use Rattle.rz_pool.specs.Asking.{NamesNodes, changes_by, asked_tree, IsAnswerOf, IsRight}
use Rattle.rz_pool.specs.declared.questions.Question.{Question}
use Rattle.rz_pool.specs.declared.questions.VariableChange.{VariableChange}
use Rattle.rz_pool.proofs.Nodes.{length-Grows, KeepsTrees-Grows}
use Rattle.rz_subst.specs.declared.going.Walk.{Walk}
use Rattle.rz_subst.specs.declared.tasks.Task.{Task}
use Rattle.rz_subst.specs.declared.tasks.Task.TheVariants.{Visit, Make}
use Rattle.rz_subst.specs.declared.walk.Place.{Place}
use Rattle.rz_subst.specs.declared.walk.Reach.{Reach}
use Rattle.rz_subst.specs.contracts.walk.PlacePartialEq.TheImpl.{eq-value}
use Rattle.rz_subst.specs.Made.{IsIn, IsAmong, IsMadeAt, AreMade}
use Rattle.rz_subst.specs.Tasks.{with_kids, kid_count, place_of, job_of, jobs_of, results_of, whole_answer, after_job, after_jobs, Fits, job_weight, total_weight, IsGoing, IsWalking}
use Rattle.rz_subst.specs.Walk.{kid_places, shared_place, KeepsTo, answer, reach_of, top_place}
use Rattle.rz_subst.proofs.Jobs.{all_front, weight-append, results-push, visits, job_live, job_ready, weight-split, jobs_kept, IsGoing-next, IsGoing-Grows, AreMade-Grows}
use Rattle.rz_subst.proofs.Making.{IsNodeAt, count, remade_tree, goes_on, goes_ready, goes_fit, goes_live, goes_lighter}
use Rattle.rz_subst.proofs.Places.{depth_top, places_Decides}

-- a table with one answer more
pub added : (old new : HashMap Place ℕ HashKey) (place : Place) (id : ℕ) → ((q : Place) → get eq-value.it new q ≡ cond (eq-value.it place q) (Some id) (get eq-value.it old q))
    → (other : Place) (found : ℕ) → IsIn new other found → IsIn old other found ⊎ ((other ≡ place) × (found ≡ id))
added old new place id updates other found is = by (eq-value.it place other) refl
  where
    by : (b : Bool) → eq-value.it place other ≡ b → IsIn old other found ⊎ ((other ≡ place) × (found ≡ id))
    by true e =
        let here : Some id ≡ Some found = sym (updates other ∙ ap (λ b. cond b (Some id) (get eq-value.it old other)) e) ∙ is in
        inr (sym ((places_Decides place other).0 e), (let same : id ≡ found = cc in sym same))
    by false e = inl (sym (updates other ∙ ap (λ b. cond b (Some id) (get eq-value.it old other)) e) ∙ is)

-- the first task
pub IsWalking-start : (changes : Changes) (nodes : List Node) (id : ℕ) (walk : Walk) → walk.tasks.items ≡ Visit (top_place id) ∷ [] → walk.news.items ≡ []
    → ((place : Place) (new : ℕ) → IsAmong walk.made place new → ⊥) → KeepsTo (reach_of walk.reach) changes → id < length nodes
    → IsWalking changes nodes id walk.tasks.items walk
IsWalking-start changes nodes id walk tasks news none keeps live =
    let start : IsGoing changes nodes id (Visit (top_place id) ∷ []) [] = record {
      whole = live;
      live = All-cons (λ task. (place_of task).id < length nodes) (Visit (top_place id)) [] live (All-nil (λ task. (place_of task).id < length nodes));
      within = All-nil (λ new. new < length nodes);
      ready = (tt, tt);
      ends = refl;
      fits = λ h. All-cons (Fits changes) (job_of nodes (Visit (top_place id))) [] h (All-nil (Fits changes));
    } in
    record {
      going = subst (λ (ts : List Task). IsGoing changes nodes id ts walk.news.items) (sym tasks) (subst (λ (ns : List ℕ). IsGoing changes nodes id (Visit (top_place id) ∷ []) ns) (sym news) start);
      made = λ place new among. absurd (none place new among);
      keeps = keeps;
    }

module _ (changes later : Changes) (old new : List Node) (grows : Grows old new) (same : later ≡ changes) where
  answer_kept : (place : Place) → place.id < length old → answer changes new place ≡ answer changes old place
  answer_kept place l = ap (changed changes (depth_of place.depth)) (KeepsTrees-Grows old new grows place.id l)

  -- a walk in a pool that has grown
  pub IsWalking-Grows : (id : ℕ) (tasks : List Task) (walk : Walk) → IsWalking changes old id tasks walk → IsWalking changes new id tasks walk
  IsWalking-Grows id tasks walk walking = record {
    going = IsGoing-Grows old new grows changes id tasks walk.news.items walking.going;
    made = AreMade-Grows old new grows changes walk.made walking.made;
    keeps = walking.keeps;
  }

  module _ (tasks : List Task) (task : Task) (before after : Walk) (reach : after.reach ≡ before.reach) where
    keeps_on : KeepsTo (reach_of before.reach) changes → KeepsTo (reach_of after.reach) changes
    keeps_on keeps = subst (λ (r : Reach). KeepsTo (reach_of r) changes) (sym reach) keeps

    -- a task is done, and its result is the last
    module _ (left : List ℕ) (result : ℕ) (within : result < length new) (tree : tree_of new result ≡ answer changes old (place_of task))
        (rest : after.tasks.items ≡ tasks) (news : after.news.items ≡ left ++ result ∷ [])
        (made : (place : Place) (id : ℕ) → IsAmong after.made place id → IsAmong before.made place id ⊎ ((place ≡ place_of task) × (id ≡ result))) where
      pub IsWalking-done : (id : ℕ) → All (λ n. n < length new) (reverse left)
          → answer changes new (place_of task) ∷ results_of new left ≡ after_job changes (job_of new task) (results_of new before.news.items)
          → IsWalking changes old id (tasks ++ task ∷ []) before → IsWalking later new id after.tasks.items after
      IsWalking-done id all_left ends was =
          let live : (place_of task).id < length old = job_live changes old id tasks task before.news.items was.going in
          let walking = IsWalking-Grows id (tasks ++ task ∷ []) before was in
          let here : tree_of new result ≡ answer changes new (place_of task) = tree ∙ sym (answer_kept (place_of task) live) in
          let listed : results_of new (left ++ result ∷ []) ≡ after_job changes (job_of new task) (results_of new before.news.items) =
          results-push new left result ∙ (ap (λ (t : Tree). t ∷ results_of new left) here ∙ ends) in
          let all_within : All (λ n. n < length new) (reverse (left ++ result ∷ [])) =
          subst (All (λ n. n < length new)) (sym (reverse-append left (result ∷ []))) (All-cons (λ n. n < length new) result (reverse left) within all_left) in
          let going : IsGoing changes new id tasks (left ++ result ∷ []) =
          IsGoing-next changes new id tasks task before.news.items walking.going [] tasks (left ++ result ∷ []) (sym (append-nil tasks)) listed tt
          (All-nil (λ (t : Task). (place_of t).id < length new)) all_within (λ h. All-nil (Fits changes)) in
          subst (λ (c : Changes). IsWalking c new id after.tasks.items after) (sym same) (record {
            going = subst (λ (ts : List Task). IsGoing changes new id ts after.news.items) (sym rest) (subst (IsGoing changes new id tasks) (sym news) going);
            made = λ place id among. elim (made place id among) [
              | inl was ↦ walking.made place id was
              | inr is ↦ subst (λ (p : Place). IsMadeAt changes new p id) (sym is.0) (subst (IsMadeAt changes new (place_of task)) (sym is.1)
                  (record { live = omega (arith, live, length-Grows old new grows); within = within; tree = here }))
            ];
            keeps = keeps_on walking.keeps;
          })

    pub lighter-done : (id : ℕ) → IsGoing changes old id (tasks ++ task ∷ []) before.news.items → 0 < job_weight (job_of old task) → after.tasks.items ≡ tasks
        → total_weight (jobs_of new after.tasks.items) < total_weight (jobs_of old (tasks ++ task ∷ []))
    lighter-done id going some rest =
        let kept = jobs_kept old new grows tasks (all_front (λ (t : Task). (place_of t).id < length old) tasks (task ∷ []) going.live) in
        let now : total_weight (jobs_of new after.tasks.items) ≡ total_weight (jobs_of old tasks) = ap (λ (ts : List Task). total_weight (jobs_of new ts)) rest ∙ ap total_weight kept in
        omega (arith, now, some, weight-split changes old id tasks task before.news.items going)

  -- a node is made
  module _ (tasks : List Task) (place : Place) (before after : Walk) (reach : after.reach ≡ before.reach) (node : Node) (known : IsNodeAt old place node)
      (left : List ℕ) (left_is : reverse left ≡ drop (length node.kids) (reverse before.news.items))
      (result : ℕ) (within : result < length new) (tree : tree_of new result ≡ tree_over (trees_in old) (with_kids node (take (length node.kids) (reverse before.news.items))))
      (rest : after.tasks.items ≡ tasks) (news : after.news.items ≡ left ++ result ∷ [])
      (made : (place' : Place) (id : ℕ) → IsAmong after.made place' id → IsAmong before.made place' id ⊎ ((place' ≡ place) × (id ≡ result))) where
    pub IsWalking-made : (id : ℕ) → IsWalking changes old id (tasks ++ Make place ∷ []) before → IsWalking later new id after.tasks.items after
    IsWalking-made id was =
        let live : place.id < length old = job_live changes old id tasks (Make place) before.news.items was.going in
        let ready = job_ready changes old id tasks (Make place) before.news.items was.going in
        let counted : kid_count (tree_of new place.id) ≡ length node.kids =
        ap kid_count (KeepsTrees-Grows old new grows place.id live) ∙ count changes old place node known before.news.items ready in
        let walking = IsWalking-Grows id (tasks ++ Make place ∷ []) before was in
        let ends : results_of new left ≡ drop (kid_count (tree_of new place.id)) (results_of new before.news.items) =
        ap (map (tree_of new)) left_is ∙ sym (drop-map (tree_of new) (length node.kids) (reverse before.news.items))
        ∙ ap (λ n. drop n (results_of new before.news.items)) (sym counted) in
        IsWalking-done tasks (Make place) before after reach left result within (tree ∙ remade_tree changes old place node known before.news.items ready) rest news made id
        (subst (All (λ n. n < length new)) (sym left_is) (All-drop (λ n. n < length new) (length node.kids) (reverse before.news.items) walking.going.within))
        (ap (λ (rs : List Tree). answer changes new place ∷ rs) ends) was

  -- the walk goes on to the kids of a place
  module _ (tasks : List Task) (place : Place) (before after : Walk) (reach : after.reach ≡ before.reach) (news : after.news.items ≡ before.news.items) (made : after.made ≡ before.made)
      (node : Node) (known : IsNodeAt new place node) (former : (form (kind_at (tree_of old place.id))).role ≡ Former)
      (rest : after.tasks.items ≡ tasks ++ Make place ∷ map Visit (map (shared_place (reach_of before.reach) new) (kid_places place (form node.kind).kids node.kids)))
      (id : ℕ) (was : IsWalking changes old id (tasks ++ Visit place ∷ []) before) where
    walking : IsWalking changes new id (tasks ++ Visit place ∷ []) before
    walking = IsWalking-Grows id (tasks ++ Visit place ∷ []) before was

    live : place.id < length old
    live = job_live changes old id tasks (Visit place) before.news.items was.going

    former_now : (form (kind_at (tree_of new place.id))).role ≡ Former
    former_now = ap (λ (t : Tree). (form (kind_at t)).role) (KeepsTrees-Grows old new grows place.id live) ∙ former

    abbrev more : List Task
    more = Make place ∷ visits (reach_of before.reach) changes was.keeps new place (form node.kind).kids node.kids

    pub IsWalking-kids : IsWalking later new id after.tasks.items after
    IsWalking-kids =
        let going : IsGoing changes new id (tasks ++ more) before.news.items =
        IsGoing-next changes new id tasks (Visit place) before.news.items walking.going more (tasks ++ more) before.news.items refl
        (goes_on changes new place node known (reach_of before.reach) was.keeps former_now (results_of new before.news.items))
        (goes_ready changes new place node known (reach_of before.reach) was.keeps former_now (results_of new before.news.items))
        (goes_live changes new place node known (reach_of before.reach) was.keeps former_now (omega (arith, live, length-Grows old new grows)))
        walking.going.within
        (goes_fit changes new place node known (reach_of before.reach) was.keeps former_now) in
        subst (λ (c : Changes). IsWalking c new id after.tasks.items after) (sym same) (record {
          going = subst (λ (ts : List Task). IsGoing changes new id ts after.news.items) (sym rest) (subst (IsGoing changes new id (tasks ++ more)) (sym news) going);
          made = subst (AreMade changes new) (sym made) walking.made;
          keeps = subst (λ (r : Reach). KeepsTo (reach_of r) changes) (sym reach) walking.keeps;
        })

    pub lighter-kids : total_weight (jobs_of new after.tasks.items) < total_weight (jobs_of old (tasks ++ Visit place ∷ []))
    lighter-kids =
        let kept : jobs_of new (tasks ++ Visit place ∷ []) ≡ jobs_of old (tasks ++ Visit place ∷ []) = jobs_kept old new grows (tasks ++ Visit place ∷ []) was.going.live in
        let now : total_weight (jobs_of new after.tasks.items) ≡ total_weight (jobs_of new tasks) + total_weight (jobs_of new more) =
        ap (λ (ts : List Task). total_weight (jobs_of new ts)) rest ∙ (ap total_weight (map-append (job_of new) tasks more) ∙ weight-append (jobs_of new tasks) (jobs_of new more)) in
        let split = weight-split changes new id tasks (Visit place) before.news.items walking.going in
        omega (arith, now, split, ap total_weight kept, goes_lighter changes new place node known (reach_of before.reach) was.keeps former_now)

-- the walk has no task left
module _ (changes : Changes) (nodes : List Node) (id : ℕ) (tasks : List Task) (news : List ℕ) (going : IsGoing changes nodes id tasks news) (none : tasks ≡ []) where
  ended : results_of nodes news ≡ whole_answer changes nodes id ∷ []
  ended = sym (ap (λ (ts : List Task). after_jobs changes (jobs_of nodes ts) (results_of nodes news)) none) ∙ going.ends

  pub has_result : news ≡ [] → ⊥
  has_result e = let same : [] ≡ whole_answer changes nodes id ∷ [] = sym (ap (results_of nodes) e) ∙ ended in cc

  pub result_is : (left : List ℕ) (new : ℕ) → news ≡ left ++ new ∷ [] → (new < length nodes) × (tree_of nodes new ≡ whole_answer changes nodes id)
  result_is left new e =
      let same : tree_of nodes new ∷ results_of nodes left ≡ whole_answer changes nodes id ∷ [] = sym (ap (results_of nodes) e ∙ results-push nodes left new) ∙ ended in
      let reversed : reverse news ≡ new ∷ reverse left = ap reverse e ∙ reverse-append left (new ∷ []) in
      (All-head (λ n. n < length nodes) new (reverse left) (subst (All (λ n. n < length nodes)) reversed going.within), (let t : tree_of nodes new ≡ whole_answer changes nodes id = cc in t))

-- the tree that a question asks for
pub asked : (nodes : List Node) (question : Question) (id : ℕ) (change : VariableChange) (changes : Changes) → question.id ≡ id → question.change ≡ change → changes_by nodes change ≡ changes
    → asked_tree nodes question ≡ changed changes none (tree_of nodes id)
asked nodes question id change changes ids same by =
    (λ i. changed (changes_by nodes (same i)) none (tree_of nodes (ids i))) ∙ ap (λ (c : Changes). changed c none (tree_of nodes id)) by

pub IsRight-here : (nodes : List Node) (question : Question) (id : ℕ) (change : VariableChange) (changes : Changes) (answer : Option ℕ) → question.id ≡ id → question.change ≡ change
    → NamesNodes nodes change → changes_by nodes change ≡ changes → id < length nodes → IsAnswerOf nodes (changed changes none (tree_of nodes id)) answer → IsRight nodes question answer
IsRight-here nodes question id change changes answer ids same named by live is = record {
  live = omega (arith, ids, live);
  named = subst (NamesNodes nodes) (sym same) named;
  is = subst (λ (t : Tree). IsAnswerOf nodes t answer) (sym (asked nodes question id change changes ids same by)) is;
}

-- the same walk, with its tasks elsewhere
pub IsWalking-along : (changes : Changes) (nodes : List Node) (id : ℕ) (tasks others : List Task) (walk other : Walk) → tasks ≡ others → other.reach ≡ walk.reach
    → other.news.items ≡ walk.news.items → other.made ≡ walk.made → IsWalking changes nodes id tasks walk → IsWalking changes nodes id others other
IsWalking-along changes nodes id tasks others walk other same reach news made walking = record {
  going = subst (λ (ts : List Task). IsGoing changes nodes id ts other.news.items) same (subst (IsGoing changes nodes id tasks) (sym news) walking.going);
  made = subst (AreMade changes nodes) (sym made) walking.made;
  keeps = subst (λ (r : Reach). KeepsTo (reach_of r) changes) (sym reach) walking.keeps;
}

-- what becomes of the whole tree, in a pool that has grown
pub whole_is : (changes later : Changes) (old new : List Node) (id : ℕ) → Grows old new → later ≡ changes → id < length old
    → whole_answer later new id ≡ changed changes none (tree_of old id)
whole_is changes later old new id grows same live =
    ap (λ (c : Changes). whole_answer c new id) same
    ∙ ap (changed changes (depth_of (top_place id).depth)) (KeepsTrees-Grows old new grows id live)
    ∙ ap (λ (d : Depth). changed changes d (tree_of old id)) (depth_top id)
