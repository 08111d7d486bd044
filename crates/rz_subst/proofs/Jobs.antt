-- Jobs of a walk: some more, those of a node's kids, and the same in a pool that has grown.
use Rattle.std.proofs.Common.{◌≡◌, ℕ, suc, ◌+◌, ◌<◌, ◌^◌, List, [], ◌∷◌, ◌++◌, length, map, reverse, All, Contains, refl, sym, ap, subst, ◌∙◌, arith}
use Rattle.std.proofs.lemmas.List.{map-append, length-map, length-append, get_or_append_left, reverse-append}
use Rattle.std.proofs.lemmas.List.Elements.{All-head, All-tail, All-cons, All-nil, All-append, All-weaker, Contains-push}
use Rattle.rz_rules.specs.declared.kinds.Slot.{Slot}
use Rattle.rz_rules.specs.declared.kinds.Space.{Space}
use Rattle.rz_rules.specs.declared.nodes.Node.{Node}
use Rattle.rz_rules.specs.Form.{bound}
use Rattle.rz_rules.specs.Tree.{Tree, Trees, At, Nil, And, trees_of, tree_of}
use Rattle.rz_rules.specs.Substitution.{Depth, Changes, changed, changed_kids, first_slot, other_slots, total, IndicesBelow, AllIndicesBelow}
use Rattle.rz_pool.specs.Counts.{depth_of}
use Rattle.rz_pool.specs.Pool.{Grows}
use Rattle.rz_pool.proofs.Nodes.{length-Grows, KeepsTrees-Grows}
use Rattle.rz_subst.specs.declared.made.Made.{Made}
use Rattle.rz_subst.specs.declared.tasks.Task.{Task}
use Rattle.rz_subst.specs.declared.tasks.Task.TheVariants.{Visit, Make}
use Rattle.rz_subst.specs.declared.walk.Extent.{Extent}
use Rattle.rz_subst.specs.declared.walk.Place.{Place}
use Rattle.rz_subst.specs.Made.{AreMade}
use Rattle.rz_subst.specs.Tasks.{Job, Changing, Making, place_of, job_of, jobs_of, results_of, whole_answer, after_job, after_jobs, IsReady, AreReady, Fits, weight, weights, job_weight, total_weight, count_of, IsGoing}
use Rattle.rz_subst.specs.Walk.{kid_place, kid_places, shared_place, KeepsTo, answer, top_place}
use Rattle.rz_subst.proofs.Places.{depth_kid, length-kid_places}
use Rattle.rz_subst.proofs.Sharing.{answer-shared}

-- what holds of all holds of those in front, and of the last
pub all_front : {X : Type 0} (P : X → Type 0) (xs ys : List X) → All P (xs ++ ys) → All P xs
all_front P xs ys all k d l = subst P (get_or_append_left xs ys d k l) (all k d (omega (arith, length-append xs ys)))

pub all_last : {X : Type 0} (P : X → Type 0) (xs : List X) (x : X) → All P (xs ++ x ∷ []) → P x
all_last P xs x all = at (Contains-push xs x)
  where
    at : Contains (xs ++ x ∷ []) x → P x
    at (k, l, e) = subst P e (all k x l)

module _ (changes : Changes) where
  pub after-append : (jobs more : List Job) (results : List Tree) → after_jobs changes (jobs ++ more) results ≡ after_jobs changes jobs (after_jobs changes more results)
  after-append [] more results = refl
  after-append (job ∷ jobs) more results = ap (after_job changes job) (after-append jobs more results)

  pub ready-front : (jobs more : List Job) (results : List Tree) → AreReady changes (jobs ++ more) results → AreReady changes jobs (after_jobs changes more results)
  ready-front [] more results h = tt
  ready-front (job ∷ jobs) more results h =
      (subst (IsReady changes job) (after-append jobs more results) h.0, ready-front jobs more results h.1)

  pub ready-last : (jobs : List Job) (job : Job) (results : List Tree) → AreReady changes (jobs ++ job ∷ []) results → IsReady changes job results
  ready-last [] job results h = h.0
  ready-last (other ∷ jobs) job results h = ready-last jobs job results h.1

  pub ready-join : (jobs more : List Job) (results : List Tree) → AreReady changes jobs (after_jobs changes more results) → AreReady changes more results
      → AreReady changes (jobs ++ more) results
  ready-join [] more results h g = g
  ready-join (job ∷ jobs) more results h g =
      (subst (IsReady changes job) (sym (after-append jobs more results)) h.0, ready-join jobs more results h.1 g)

pub weight-append : (jobs more : List Job) → total_weight (jobs ++ more) ≡ total_weight jobs + total_weight more
weight-append [] more = omega arith
weight-append (job ∷ jobs) more = omega (arith, weight-append jobs more)

pub weight-some : (tree : Tree) → 0 < weight tree
weight-some (At kind number name kids) = omega arith

pub count-trees : (trees : List Tree) → count_of (trees_of trees) ≡ length trees
count-trees [] = refl
count-trees (t ∷ ts) = ap suc (count-trees ts)

pub count-changed : (changes : Changes) (depth : Depth) (slots : List Slot) (kids : Trees) → count_of (changed_kids changes depth slots kids) ≡ count_of kids
count-changed changes depth slots Nil = refl
count-changed changes depth slots (And kid kids) = ap suc (count-changed changes depth (other_slots slots) kids)

-- the kids of a node at a place
module _ (reach : Space → Extent) (changes : Changes) (keeps : KeepsTo reach changes) (nodes : List Node) (place : Place) where
  abbrev shared : Place → Place
  shared kid = shared_place reach nodes kid

  abbrev pub visits : List Slot → List ℕ → List Task
  visits slots kids = map Visit (map shared (kid_places place slots kids))

  abbrev pub answers : List Slot → List ℕ → List Tree
  answers slots kids = map (answer changes nodes) (map shared (kid_places place slots kids))

  after : (places : List Place) (results : List Tree) → after_jobs changes (jobs_of nodes (map Visit places)) results ≡ map (answer changes nodes) places ++ results
  after [] results = refl
  after (p ∷ places) results = ap (λ (rs : List Tree). answer changes nodes p ∷ rs) (after places results)

  pub visits_after : (slots : List Slot) (kids : List ℕ) (results : List Tree) → after_jobs changes (jobs_of nodes (visits slots kids)) results ≡ answers slots kids ++ results
  visits_after slots kids results = after (map shared (kid_places place slots kids)) results

  ready : (places : List Place) (results : List Tree) → AreReady changes (jobs_of nodes (map Visit places)) results
  ready [] results = tt
  ready (p ∷ places) results = (tt, ready places results)

  pub visits_ready : (slots : List Slot) (kids : List ℕ) (results : List Tree) → AreReady changes (jobs_of nodes (visits slots kids)) results
  visits_ready slots kids results = ready (map shared (kid_places place slots kids)) results

  kid_answer : (slots : List Slot) (kid : ℕ) → answer changes nodes (shared (kid_place place (first_slot slots) kid)) ≡ changed changes (total (depth_of place.depth) (bound (first_slot slots))) (tree_of nodes kid)
  kid_answer slots kid =
      answer-shared reach changes keeps nodes (kid_place place (first_slot slots) kid)
      ∙ ap (λ (d : Depth). changed changes d (tree_of nodes kid)) (depth_kid place (first_slot slots) kid)

  pub answers_are : (slots : List Slot) (kids : List ℕ) → trees_of (answers slots kids) ≡ changed_kids changes (depth_of place.depth) slots (trees_of (map (tree_of nodes) kids))
  answers_are slots [] = refl
  answers_are slots (kid ∷ kids) = λ i. And (kid_answer slots kid i) (answers_are (other_slots slots) kids i)

  pub length-answers : (slots : List Slot) (kids : List ℕ) → length (answers slots kids) ≡ length kids
  length-answers slots kids =
      length-map (map shared (kid_places place slots kids)) (answer changes nodes)
      ∙ length-map (kid_places place slots kids) shared ∙ length-kid_places place slots kids

  pub visits_weight : (slots : List Slot) (kids : List ℕ) → total_weight (jobs_of nodes (visits slots kids)) ≡ weights (trees_of (map (tree_of nodes) kids))
  visits_weight slots [] = refl
  visits_weight slots (kid ∷ kids) = ap (λ n. weight (tree_of nodes kid) + n) (visits_weight (other_slots slots) kids)

  pub visits_fit : (slots : List Slot) (kids : List ℕ) → AllIndicesBelow (2 ^ 32) (changed_kids changes (depth_of place.depth) slots (trees_of (map (tree_of nodes) kids)))
      → All (Fits changes) (jobs_of nodes (visits slots kids))
  visits_fit slots [] h = All-nil (Fits changes)
  visits_fit slots (kid ∷ kids) h =
      All-cons (Fits changes) (job_of nodes (Visit (shared (kid_place place (first_slot slots) kid)))) (jobs_of nodes (visits (other_slots slots) kids))
      (subst (IndicesBelow (2 ^ 32)) (sym (kid_answer slots kid)) h.0) (visits_fit (other_slots slots) kids h.1)

  pub visits_live : (slots : List Slot) (kids : List ℕ) → All (λ kid. kid < length nodes) kids → All (λ task. (place_of task).id < length nodes) (visits slots kids)
  visits_live slots [] live = All-nil (λ task. (place_of task).id < length nodes)
  visits_live slots (kid ∷ kids) live =
      All-cons (λ task. (place_of task).id < length nodes) (Visit (shared (kid_place place (first_slot slots) kid))) (visits (other_slots slots) kids)
      (All-head (λ k. k < length nodes) kid kids live) (visits_live (other_slots slots) kids (All-tail (λ k. k < length nodes) kid kids live))

-- one more result
pub results-push : (nodes : List Node) (news : List ℕ) (new : ℕ) → results_of nodes (news ++ new ∷ []) ≡ tree_of nodes new ∷ results_of nodes news
results-push nodes news new = ap (map (tree_of nodes)) (reverse-append news (new ∷ []))

-- the last task is done
module _ (changes : Changes) (nodes : List Node) (id : ℕ) (tasks : List Task) (task : Task) (news : List ℕ) (going : IsGoing changes nodes id (tasks ++ task ∷ []) news) where
  abbrev jobs : List Job
  jobs = jobs_of nodes tasks

  abbrev job : Job
  job = job_of nodes task

  abbrev results : List Tree
  results = results_of nodes news

  split : jobs_of nodes (tasks ++ task ∷ []) ≡ jobs ++ job ∷ []
  split = map-append (job_of nodes) tasks (task ∷ [])

  readies : AreReady changes (jobs ++ job ∷ []) results
  readies = subst (λ (js : List Job). AreReady changes js results) split going.ready

  pub job_ready : IsReady changes job results
  job_ready = ready-last changes jobs job results readies

  pub job_live : (place_of task).id < length nodes
  job_live = all_last (λ (t : Task). (place_of t).id < length nodes) tasks task going.live

  all_fit : IndicesBelow (2 ^ 32) (whole_answer changes nodes id) → All (Fits changes) (jobs ++ job ∷ [])
  all_fit h = subst (All (Fits changes)) split (going.fits h)

  pub job_fits : IndicesBelow (2 ^ 32) (whole_answer changes nodes id) → Fits changes job
  job_fits h = all_last (Fits changes) jobs job (all_fit h)

  pub weight-split : total_weight (jobs_of nodes (tasks ++ task ∷ [])) ≡ total_weight jobs + job_weight job
  weight-split = ap total_weight split ∙ (weight-append jobs (job ∷ []) ∙ ap (λ n. total_weight jobs + n) (plus_none (job_weight job)))
    where
      plus_none : (n : ℕ) → n + 0 ≡ n
      plus_none n = omega arith

  pub IsGoing-next : (more next : List Task) (later : List ℕ) → next ≡ tasks ++ more
      → after_jobs changes (jobs_of nodes more) (results_of nodes later) ≡ after_job changes job results
      → AreReady changes (jobs_of nodes more) (results_of nodes later)
      → All (λ task. (place_of task).id < length nodes) more
      → All (λ new. new < length nodes) (reverse later)
      → (Fits changes job → All (Fits changes) (jobs_of nodes more))
      → IsGoing changes nodes id next later
  IsGoing-next more next later is same ready live within fits =
      let both : jobs_of nodes next ≡ jobs ++ jobs_of nodes more = ap (jobs_of nodes) is ∙ map-append (job_of nodes) tasks more in
      let front : AreReady changes jobs (after_jobs changes (jobs_of nodes more) (results_of nodes later)) =
      subst (AreReady changes jobs) (sym same) (ready-front changes jobs (job ∷ []) results readies) in
      record {
        whole = going.whole;
        live = subst (All (λ (t : Task). (place_of t).id < length nodes)) (sym is)
            (All-append (λ (t : Task). (place_of t).id < length nodes) tasks more (all_front (λ (t : Task). (place_of t).id < length nodes) tasks (task ∷ []) going.live) live);
        within = within;
        ready = subst (λ (js : List Job). AreReady changes js (results_of nodes later)) (sym both) (ready-join changes jobs (jobs_of nodes more) (results_of nodes later) front ready);
        ends = ap (λ (js : List Job). after_jobs changes js (results_of nodes later)) both
            ∙ after-append changes jobs (jobs_of nodes more) (results_of nodes later)
            ∙ ap (after_jobs changes jobs) same
            ∙ sym (after-append changes jobs (job ∷ []) results)
            ∙ sym (ap (λ (js : List Job). after_jobs changes js results) split)
            ∙ going.ends;
        fits = λ h. subst (All (Fits changes)) (sym both)
            (All-append (Fits changes) jobs (jobs_of nodes more) (all_front (Fits changes) jobs (job ∷ []) (all_fit h)) (fits (job_fits h)));
      }

-- in a pool that has grown
module _ (old new : List Node) (grows : Grows old new) where
  job_kept : (task : Task) → (place_of task).id < length old → job_of new task ≡ job_of old task
  job_kept (Visit place) l = ap (Changing (depth_of place.depth)) (KeepsTrees-Grows old new grows place.id l)
  job_kept (Make place) l = ap (Making (depth_of place.depth)) (KeepsTrees-Grows old new grows place.id l)

  pub jobs_kept : (tasks : List Task) → All (λ task. (place_of task).id < length old) tasks → jobs_of new tasks ≡ jobs_of old tasks
  jobs_kept [] live = refl
  jobs_kept (task ∷ tasks) live =
      let Live : Task → Type 0 = λ t. (place_of t).id < length old in
      let first = job_kept task (All-head Live task tasks live) in
      let others = jobs_kept tasks (All-tail Live task tasks live) in
      λ i. first i ∷ others i

  trees_kept : (ids : List ℕ) → All (λ id. id < length old) ids → map (tree_of new) ids ≡ map (tree_of old) ids
  trees_kept [] live = refl
  trees_kept (id ∷ ids) live =
      let first = KeepsTrees-Grows old new grows id (All-head (λ k. k < length old) id ids live) in
      let others = trees_kept ids (All-tail (λ k. k < length old) id ids live) in
      λ i. first i ∷ others i

  grown : (n : ℕ) → n < length old → n < length new
  grown n l = omega (arith, length-Grows old new grows)

  pub whole_kept : (changes : Changes) (id : ℕ) → id < length old → whole_answer changes new id ≡ whole_answer changes old id
  whole_kept changes id l = ap (changed changes (depth_of (top_place id).depth)) (KeepsTrees-Grows old new grows id l)

  pub IsGoing-Grows : (changes : Changes) (id : ℕ) (tasks : List Task) (news : List ℕ) → IsGoing changes old id tasks news → IsGoing changes new id tasks news
  IsGoing-Grows changes id tasks news going =
      let jobs = jobs_kept tasks going.live in
      let results : results_of new news ≡ results_of old news = trees_kept (reverse news) going.within in
      let whole = whole_kept changes id going.whole in
      record {
        whole = grown id going.whole;
        live = All-weaker (λ (t : Task). (place_of t).id < length old) (λ (t : Task). (place_of t).id < length new) (λ t l. grown (place_of t).id l) tasks going.live;
        within = All-weaker (λ n. n < length old) (λ n. n < length new) grown (reverse news) going.within;
        ready = subst (λ (rs : List Tree). AreReady changes (jobs_of new tasks) rs) (sym results)
            (subst (λ (js : List Job). AreReady changes js (results_of old news)) (sym jobs) going.ready);
        ends = (λ i. after_jobs changes (jobs i) (results i)) ∙ going.ends ∙ sym (ap (λ (t : Tree). t ∷ []) whole);
        fits = λ h. subst (All (Fits changes)) (sym jobs) (going.fits (subst (IndicesBelow (2 ^ 32)) whole h));
      }

  pub AreMade-Grows : (changes : Changes) (made : Made) → AreMade changes old made → AreMade changes new made
  AreMade-Grows changes made are place id among =
      let was = are place id among in
      record {
        live = grown place.id was.live;
        within = grown id was.within;
        tree = KeepsTrees-Grows old new grows id was.within ∙ (was.tree ∙ sym (ap (changed changes (depth_of place.depth)) (KeepsTrees-Grows old new grows place.id was.live)));
      }
