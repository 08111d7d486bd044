-- The answers of the places in a tree, while they are made.
use Rattle.std.proofs.Common.{◌≡◌, ℕ, suc, ◌<◌, ◌≤◌, ◌^◌, List, [], ◌∷◌, ◌++◌, Some, length, map, reverse, take, drop, All, slice_get, refl, sym, ap, subst, ◌∙◌, true≢false, arith}
use Rattle.std.proofs.lemmas.List.{length-map, length-take, length-reverse, take-map}
use Rattle.std.proofs.lemmas.List.Elements.{All-cons, All-nil, All-take}
use Rattle.std.proofs.Math.Seq.{take-append_seam}
use Rattle.rz_rules.specs.declared.kinds.Kind.{Kind}
use Rattle.rz_rules.specs.declared.kinds.Role.{Role}
use Rattle.rz_rules.specs.declared.kinds.Role.TheVariants.{Variable, Declared, Former}
use Rattle.rz_rules.specs.declared.kinds.Slot.{Slot}
use Rattle.rz_rules.specs.declared.kinds.Sort.{Sort}
use Rattle.rz_rules.specs.declared.kinds.Space.{Space}
use Rattle.rz_rules.specs.declared.nodes.Node.{Node}
use Rattle.rz_rules.specs.Form.{form, is_numbered, bound}
use Rattle.rz_rules.specs.Tree.{Tree, Trees, At, Nil, And, HasForm, trees_of, sort_of, kind_at, trees_in, tree_over, tree_of}
use Rattle.rz_rules.specs.Substitution.{Depth, Changes, Change, Renumbered, Replaced, changed, changed_kids, changed_node, changed_variable, first_slot, other_slots, total, IndicesBelow}
use Rattle.rz_pool.specs.Counts.{depth_of}
use Rattle.rz_subst.specs.declared.tasks.Task.TheVariants.{Visit, Make}
use Rattle.rz_subst.specs.declared.walk.Extent.{Extent}
use Rattle.rz_subst.specs.declared.walk.Place.{Place}
use Rattle.rz_subst.specs.declared.walk.Change.TheVariants as answers
use Rattle.rz_subst.specs.Sorts.{variable_form, sort_changed}
use Rattle.rz_subst.specs.Tasks.{with_kids, place_of, job_of, jobs_of, results_of, count_of, kid_count, kid_answers, after_job, after_jobs, IsReady, AreReady, Fits, weight, weights, total_weight}
use Rattle.rz_subst.specs.Walk.{KeepsTo, answer, IsChange, FitsChange, KeepsSorts}
use Rattle.rz_subst.proofs.Jobs.{count-trees, count-changed, visits, visits_after, visits_ready, visits_fit, visits_live, visits_weight, answers as kid_trees, answers_are, length-answers}

-- the sorts of trees
abbrev sorts_in : Trees → List Sort
sorts_in Nil = []
sorts_in (And first rest) = sort_of first ∷ sorts_in rest

sorts-trees : (trees : List Tree) → sorts_in (trees_of trees) ≡ map sort_of trees
sorts-trees [] = refl
sorts-trees (t ∷ ts) = ap (λ (sorts : List Sort). sort_of t ∷ sorts) (sorts-trees ts)

sorts-changed : (changes : Changes) → KeepsSorts changes → (depth : Depth) (slots : List Slot) (kids : Trees) → sorts_in (changed_kids changes depth slots kids) ≡ sorts_in kids
sorts-changed changes keeps depth slots Nil = refl
sorts-changed changes keeps depth slots (And kid kids) =
    λ i. sort_changed changes keeps (total depth (bound (first_slot slots))) kid i ∷ sorts-changed changes keeps depth (other_slots slots) kids i

drop-append_seam : (xs ys : List Tree) → drop (length xs) (xs ++ ys) ≡ ys
drop-append_seam [] ys = refl
drop-append_seam (x ∷ xs) ys = drop-append_seam xs ys

-- the node at a place
pub record IsNodeAt (nodes : List Node) (place : Place) (node : Node) : Type 0 where
  pub at : slice_get nodes place.id ≡ Some node
  pub tree : tree_of nodes place.id ≡ tree_over (trees_in nodes) node
  pub form : HasForm (trees_in nodes) place.id node

pub IsNodeAt-copy : (nodes : List Node) (place : Place) (node copy : Node) → slice_get nodes place.id ≡ Some node → tree_of nodes place.id ≡ tree_over (trees_in nodes) node
    → HasForm (trees_in nodes) place.id node → copy ≡ node → IsNodeAt nodes place copy
IsNodeAt-copy nodes place node copy at tree form same = subst (IsNodeAt nodes place) (sym same) (record { at = at; tree = tree; form = form })

-- as many kids as slots
length-sorts : (nodes : List Node) (kids : List ℕ) (slots : List Slot) → map sort_of (map (tree_of nodes) kids) ≡ map (λ (slot : Slot). slot.sort) slots → length kids ≡ length slots
length-sorts nodes kids slots e =
    sym (length-map kids (tree_of nodes)) ∙ sym (length-map (map (tree_of nodes) kids) sort_of) ∙ ap length e ∙ length-map slots (λ (slot : Slot). slot.sort)

pub enough_slots : (nodes : List Node) (place : Place) (node : Node) → IsNodeAt nodes place node → length node.kids ≡ length (form node.kind).kids
enough_slots nodes place node known = length-sorts nodes node.kids (form node.kind).kids known.form.sorts

empty_list : (kids : List ℕ) → length kids ≡ 0 → kids ≡ []
empty_list [] e = refl
empty_list (kid ∷ kids) e = absurd (omega arith)

fits_change : (change : Change) (kind : Kind) (name : List ℕ) (kids : Trees) → IndicesBelow (2 ^ 32) (changed_variable change kind name kids) → FitsChange change
fits_change (Renumbered number) kind name kids h = h.0
fits_change (Replaced tree) kind name kids h = h

fits_number : (new : List Node) (change : Change) (number : ℕ) → IsChange new (answers.Renumbered number) change → number < 2 ^ 32
fits_number new (Renumbered other) number is = is.1
fits_number new (Replaced tree) number is = absurd is

renumbered_is : (new : List Node) (change : Change) (number : ℕ) (kind : Kind) (name : List ℕ) (kids : Trees) → IsChange new (answers.Renumbered number) change
    → At kind number name kids ≡ changed_variable change kind name kids
renumbered_is new (Renumbered other) number kind name kids is = ap (λ n. At kind n name kids) is.0
renumbered_is new (Replaced tree) number kind name kids is = absurd is

replaced_is : (new : List Node) (change : Change) (id : ℕ) (kind : Kind) (name : List ℕ) (kids : Trees) → IsChange new (answers.Replaced id) change
    → tree_of new id ≡ changed_variable change kind name kids
replaced_is new (Renumbered other) id kind name kids is = absurd is
replaced_is new (Replaced tree) id kind name kids is = is.1

replaced_live : (new : List Node) (change : Change) (id : ℕ) → IsChange new (answers.Replaced id) change → id < length new
replaced_live new (Renumbered other) id is = absurd is
replaced_live new (Replaced tree) id is = is.0

-- what becomes of the node at a place
module _ (changes : Changes) (nodes : List Node) (place : Place) (node : Node) (known : IsNodeAt nodes place node) where
  abbrev depth : Depth
  depth = depth_of place.depth

  abbrev kids : Trees
  kids = trees_of (map (tree_of nodes) node.kids)

  abbrev new_kids : Trees
  new_kids = changed_kids changes depth (form node.kind).kids kids

  answer_is : (role : Role) → (form node.kind).role ≡ role → answer changes nodes place ≡ changed_node changes depth role node.kind node.number node.name kids new_kids
  answer_is role e = ap (changed changes depth) known.tree ∙ ap (λ r. changed_node changes depth r node.kind node.number node.name kids new_kids) e

  -- a variable
  module _ (space : Space) (variable : (form node.kind).role ≡ Variable space) where
    no_kids : node.kids ≡ []
    no_kids = empty_list node.kids (enough_slots nodes place node known ∙ ap length (variable_form node.kind space variable).1)

    pub variable_fits : IndicesBelow (2 ^ 32) (answer changes nodes place) → FitsChange (changes space depth node.number)
    variable_fits fits =
        fits_change (changes space depth node.number) node.kind node.name new_kids (subst (IndicesBelow (2 ^ 32)) (answer_is (Variable space) variable) fits)

    pub renumbered_form : (new : List Node) (number : ℕ) → IsChange new (answers.Renumbered number) (changes space depth node.number)
        → HasForm (trees_in new) (length new) (record { kind = node.kind; number = number; name = node.name; kids = node.kids })
    renumbered_form new number is = record {
      kids = subst (All (λ id. id < length new)) (sym no_kids) (All-nil (λ id. id < length new));
      sorts = ap (λ (ids : List ℕ). map sort_of (map (tree_of new) ids)) no_kids ∙ (sym (ap (λ (ids : List ℕ). map sort_of (map (tree_of nodes) ids)) no_kids) ∙ known.form.sorts);
      label = record {
        small = fits_number new (changes space depth node.number) number is;
        unnumbered = λ e. absurd (true≢false (sym (ap is_numbered variable) ∙ e));
        unnamed = known.form.label.unnamed;
        named = known.form.label.named;
      };
    }

    pub renumbered_tree : (new : List Node) (number : ℕ) → IsChange new (answers.Renumbered number) (changes space depth node.number)
        → tree_over (trees_in new) (record { kind = node.kind; number = number; name = node.name; kids = node.kids }) ≡ answer changes nodes place
    renumbered_tree new number is =
        let none : trees_of (map (tree_of new) node.kids) ≡ Nil = ap (λ (ids : List ℕ). trees_of (map (tree_of new) ids)) no_kids in
        let none_old : new_kids ≡ Nil =
        ap (λ (ids : List ℕ). changed_kids changes depth (form node.kind).kids (trees_of (map (tree_of nodes) ids))) no_kids in
        ap (At node.kind number node.name) (none ∙ sym none_old)
        ∙ renumbered_is new (changes space depth node.number) number node.kind node.name new_kids is
        ∙ sym (answer_is (Variable space) variable)

    pub replaced_answer : (new : List Node) (id : ℕ) → IsChange new (answers.Replaced id) (changes space depth node.number)
        → (id < length new) × (tree_of new id ≡ answer changes nodes place)
    replaced_answer new id is = (
      replaced_live new (changes space depth node.number) id is,
      replaced_is new (changes space depth node.number) id node.kind node.name new_kids is ∙ sym (answer_is (Variable space) variable),
    )

  -- a constant or a postulate
  pub declared_tree : (form node.kind).role ≡ Declared → tree_of nodes place.id ≡ answer changes nodes place
  declared_tree declared = known.tree ∙ sym (answer_is Declared declared)

  -- a node whose kids have their answers last among the results
  module _ (news : List ℕ) (ready : IsReady changes (job_of nodes (Make place)) (results_of nodes news)) where
    abbrev ids : List ℕ
    ids = take (length node.kids) (reverse news)

    former : (form node.kind).role ≡ Former
    former = ap (λ (t : Tree). (form (kind_at t)).role) (sym known.tree) ∙ ready.0

    pub count : kid_count (tree_of nodes place.id) ≡ length node.kids
    count = ap kid_count known.tree ∙ count-trees (map (tree_of nodes) node.kids) ∙ length-map node.kids (tree_of nodes)

    new_trees : trees_of (map (tree_of nodes) ids) ≡ new_kids
    new_trees =
        ap trees_of (sym (take-map (tree_of nodes) (length node.kids) (reverse news)))
        ∙ ap (λ n. trees_of (take n (results_of nodes news))) (sym count)
        ∙ ready.1 ∙ ap (kid_answers changes depth) known.tree

    length_ids : length ids ≡ length node.kids
    length_ids =
        sym (length-map ids (tree_of nodes)) ∙ sym (count-trees (map (tree_of nodes) ids)) ∙ ap count_of new_trees
        ∙ count-changed changes depth (form node.kind).kids kids
        ∙ count-trees (map (tree_of nodes) node.kids) ∙ length-map node.kids (tree_of nodes)

    pub enough_news : length node.kids ≤ length news
    enough_news = omega (arith, length_ids, length-take (length node.kids) (reverse news), length-reverse news)

    new_sorts : KeepsSorts changes → map sort_of (map (tree_of nodes) ids) ≡ map sort_of (map (tree_of nodes) node.kids)
    new_sorts keeps =
        sym (sorts-trees (map (tree_of nodes) ids)) ∙ ap sorts_in new_trees
        ∙ sorts-changed changes keeps depth (form node.kind).kids kids ∙ sorts-trees (map (tree_of nodes) node.kids)

    pub remade_form : KeepsSorts changes → All (λ new. new < length nodes) (reverse news) → HasForm (trees_in nodes) (length nodes) (with_kids node ids)
    remade_form keeps within = record {
      kids = All-take (λ new. new < length nodes) (length node.kids) (reverse news) within;
      sorts = new_sorts keeps ∙ known.form.sorts;
      label = known.form.label;
    }

    pub remade_tree : tree_over (trees_in nodes) (with_kids node ids) ≡ answer changes nodes place
    remade_tree = ap (At node.kind node.number node.name) new_trees ∙ sym (answer_is Former former)

  -- a node goes on to its kids
  module _ (reach : Space → Extent) (keeps : KeepsTo reach changes) (former : (form (kind_at (tree_of nodes place.id))).role ≡ Former) where
    abbrev slots : List Slot
    slots = (form node.kind).kids

    pub goes_on : (results : List Tree) → after_jobs changes (jobs_of nodes (Make place ∷ visits reach changes keeps nodes place slots node.kids)) results
        ≡ after_job changes (job_of nodes (Visit place)) results
    goes_on results =
        let new : List Tree = kid_trees reach changes keeps nodes place slots node.kids in
        let count : kid_count (tree_of nodes place.id) ≡ length new = ap kid_count known.tree ∙ count-trees (map (tree_of nodes) node.kids) ∙ length-map node.kids (tree_of nodes)
        ∙ sym (length-answers reach changes keeps nodes place slots node.kids) in
        ap (λ (rs : List Tree). answer changes nodes place ∷ rs)
        (ap (drop (kid_count (tree_of nodes place.id))) (visits_after reach changes keeps nodes place slots node.kids results)
        ∙ ap (λ n. drop n (new ++ results)) count ∙ drop-append_seam new results)

    pub goes_ready : (results : List Tree) → AreReady changes (jobs_of nodes (Make place ∷ visits reach changes keeps nodes place slots node.kids)) results
    goes_ready results =
        let new : List Tree = kid_trees reach changes keeps nodes place slots node.kids in
        let count : kid_count (tree_of nodes place.id) ≡ length new = ap kid_count known.tree ∙ count-trees (map (tree_of nodes) node.kids) ∙ length-map node.kids (tree_of nodes)
        ∙ sym (length-answers reach changes keeps nodes place slots node.kids) in
        let last : trees_of (take (kid_count (tree_of nodes place.id)) (after_jobs changes (jobs_of nodes (visits reach changes keeps nodes place slots node.kids)) results)) ≡ kid_answers changes depth (tree_of nodes place.id) =
        ap (λ (rs : List Tree). trees_of (take (kid_count (tree_of nodes place.id)) rs)) (visits_after reach changes keeps nodes place slots node.kids results)
        ∙ ap (λ n. trees_of (take n (new ++ results))) count ∙ ap trees_of (take-append_seam new results)
        ∙ answers_are reach changes keeps nodes place slots node.kids ∙ sym (ap (kid_answers changes depth) known.tree) in
        ((former, last), visits_ready reach changes keeps nodes place slots node.kids results)

    pub goes_fit : Fits changes (job_of nodes (Visit place)) → All (Fits changes) (jobs_of nodes (Make place ∷ visits reach changes keeps nodes place slots node.kids))
    goes_fit fits =
        let role : (form node.kind).role ≡ Former = ap (λ (t : Tree). (form (kind_at t)).role) (sym known.tree) ∙ former in
        let whole : IndicesBelow (2 ^ 32) (At node.kind node.number node.name new_kids) = subst (IndicesBelow (2 ^ 32)) (answer_is Former role) fits in
        All-cons (Fits changes) (job_of nodes (Make place)) (jobs_of nodes (visits reach changes keeps nodes place slots node.kids)) tt
        (visits_fit reach changes keeps nodes place slots node.kids whole.1)

    pub goes_live : place.id < length nodes → All (λ task. (place_of task).id < length nodes) (Make place ∷ visits reach changes keeps nodes place slots node.kids)
    goes_live live =
        let low : All (λ kid. kid < length nodes) node.kids = λ k d l. omega (arith, known.form.kids k d l) in
        All-cons (λ task. (place_of task).id < length nodes) (Make place) (visits reach changes keeps nodes place slots node.kids) live
        (visits_live reach changes keeps nodes place slots node.kids low)

    pub goes_lighter : total_weight (jobs_of nodes (Make place ∷ visits reach changes keeps nodes place slots node.kids)) < weight (tree_of nodes place.id)
    goes_lighter =
        let kids_weigh = visits_weight reach changes keeps nodes place slots node.kids in
        let whole : weight (tree_of nodes place.id) ≡ suc (suc (weights (trees_of (map (tree_of nodes) node.kids)))) = ap weight known.tree in
        omega (arith, kids_weigh, whole)
