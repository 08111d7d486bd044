-- What is picked by places, and what a world has of it as it grows.
use Rattle.std.proofs.Common.{◌≡◌, ℕ, suc, zero, ◌+◌, ◌<◌, List, [], ◌∷◌, ◌++◌, Option, Some, None, length, map, All, get_or, refl, sym, ap, subst, ◌∙◌, arith}
use Rattle.std.specs.Prelude.{slice_get}
use Rattle.std.specs.List.{slice_index_or}
use Rattle.std.proofs.lemmas.List.{get_or-map, length-map, length-append}
use Rattle.std.proofs.lemmas.List.Elements.{All-cons, All-head, All-nil, All-tail}
use Rattle.std.proofs.lemmas.Option.{slice_get-get_or, slice_get_read, slice_get_within, get_or_from_slice_get}
use Rattle.std.specs.Borrow.{Bor}
use Rattle.rz_rules.specs.declared.kinds.Sort.{Sort}
use Rattle.rz_rules.specs.declared.judgments.JudgmentKind.TheVariants.{Formed}
use Rattle.rz_rules.specs.declared.nodes.Node.{Node}
use Rattle.rz_rules.specs.declared.rows.Row.{Row}
use Rattle.rz_rules.specs.Tree.{Tree, blank, tree_of}
use Rattle.rz_rules.specs.Judgment.{Statement}
use Rattle.rz_rules.specs.Row.{Assignment, spelled}
use Rattle.rz_rules.specs.Table.{rule_of}
use Rattle.rz_rules.specs.File.{statement_at}
use Rattle.rz_pool.specs.Pool as pool
use Rattle.rz_pool.proofs.Nodes.{KeepsTrees-Grows, slice_get-append}
use Rattle.rz_rule_text.specs.Letters.{tree_for}
use Rattle.rz_log.specs.declared.world.World.{World}
use Rattle.rz_log.specs.World.{Grows, IsSound, Says, statements_in}
use Rattle.rz_rules.specs.declared.judgments.Line.{Line}
use Rattle.rz_rules.specs.Judgment.{statement}
use Rattle.rz_rules.specs.Tree.{trees_in}
use Rattle.rz_log.proofs.Worlds.{says_grown}
use Rattle.rz_lemmas.specs.Letters.{Fill, letters_at, placed, slots}
use Rattle.rz_lemmas.specs.Conclude.{judgments_at}
use Rattle.rz_rules.specs.Context.{bound_by, changed_entries, with_entries, with_entry}
use Rattle.rz_rules.specs.Structural.{formed}
use Rattle.rz_rules.specs.Substitution.{none, raising}
use Rattle.rz_lemmas.specs.Moves.{CanWeaken}
use Rattle.rz_tope_tests.specs.Bench.{CanMove, HaveSorts, concluded, judgments_over, known, letters_over, placed_trees, said_after}

-- what is picked from a list
abbrev pub picked : List ℕ → List ℕ → List ℕ
picked numbers places = map (λ place. slice_index_or numbers place 0) places

-- a function of what is picked is picked from the function's list
pub picked_values : {X : Type 0} (f : ℕ → X) (none : X) (numbers places : List ℕ) → All (λ place. place < length numbers) places
    → map f (picked numbers places) ≡ map (λ place. slice_index_or (map f numbers) place none) places
picked_values f none numbers [] there = refl
picked_values f none numbers (place ∷ places) there =
    let here = sym (get_or-map f numbers place 0 none (All-head (λ p. p < length numbers) place places there)) in
    let others = picked_values f none numbers places (All-tail (λ p. p < length numbers) place places there) in
    λ i. here i ∷ others i

pub all_picked : (P : ℕ → Type 0) (numbers places : List ℕ) → All P numbers → All (λ place. place < length numbers) places → All P (picked numbers places)
all_picked P numbers [] all there = All-nil P
all_picked P numbers (place ∷ places) all there =
    All-cons P (slice_index_or numbers place 0) (picked numbers places) (all place 0 (All-head (λ p. p < length numbers) place places there))
    (all_picked P numbers places all (All-tail (λ p. p < length numbers) place places there))

-- ---- letters

module _ (nodes : List Node) where
  letter_known : (places : List (Option Sort)) (ids : List ℕ) (k : ℕ)
      → tree_for nodes (slice_index_or (placed places ids) k None) ≡ known (slice_index_or (placed_trees places (map (tree_of nodes) ids)) k None)
  letter_known [] ids k = refl
  letter_known (None ∷ places) ids zero = refl
  letter_known (None ∷ places) ids (suc k) = letter_known places ids k
  letter_known (Some wanted ∷ places) [] zero = refl
  letter_known (Some wanted ∷ places) [] (suc k) = letter_known places [] k
  letter_known (Some wanted ∷ places) (id ∷ ids) zero = refl
  letter_known (Some wanted ∷ places) (id ∷ ids) (suc k) = letter_known places ids k

  -- letters by ids are letters by trees
  pub letters_same : (row : Row) (ids : List ℕ) → letters_at nodes row ids None ≡ letters_over row (map (tree_of nodes) ids)
  letters_same row ids = λ i. record { letters = λ k. letter_known (slots (rule_of row).text) ids k i; name = [] }

  pub judgments_same : (row : Row) (ids : List ℕ) → judgments_at nodes row ids None ≡ judgments_over row (map (tree_of nodes) ids)
  judgments_same row ids = ap (λ (a : Assignment). (spelled (rule_of row).text a).statements) (letters_same row ids)

  pub fills : (places : List (Option Sort)) (ids : List ℕ) → All (λ id. id < length nodes) ids → HaveSorts places (map (tree_of nodes) ids) → Fill nodes places ids
  fills [] [] live sorts = tt
  fills [] (id ∷ ids) live sorts = elim sorts [ ]
  fills (None ∷ places) ids live sorts = fills places ids live sorts
  fills (Some wanted ∷ places) [] live sorts = elim sorts [ ]
  fills (Some wanted ∷ places) (id ∷ ids) live sorts =
      (All-head (λ i. i < length nodes) id ids live, sorts.0, fills places ids (All-tail (λ i. i < length nodes) id ids live) sorts.1)

-- ---- worlds

-- a step that is there says what it says
pub step_says : (w : World) (step : ℕ) → step < length w.log → Says w step (statement_at (statements_in w) step)
step_says w step there =
    slice_get-get_or (statements_in w) step (record { kind = Formed; context = blank; parts = [] }) (omega (arith, there, length-map (map (λ (line : Line). line.says) w.log) (statement (trees_in w.pool.nodes)), length-map w.log (λ (line : Line). line.says)))

pub steps_say : (w : World) (steps : List ℕ) → All (λ step. step < length w.log) steps
    → map (slice_get (statements_in w)) steps ≡ map (λ says. Some says) (map (statement_at (statements_in w)) steps)
steps_say w [] there = refl
steps_say w (step ∷ steps) there =
    let here = step_says w step (All-head (λ s. s < length w.log) step steps there) in
    let others = steps_say w steps (All-tail (λ s. s < length w.log) step steps there) in
    λ i. here i ∷ others i

-- what steps say, as a world grows
pub said_kept : (old new : World) → IsSound old → Grows old new → (steps : List ℕ) → All (λ step. step < length old.log) steps
    → map (statement_at (statements_in new)) steps ≡ map (statement_at (statements_in old)) steps
said_kept old new sound grows [] there = refl
said_kept old new sound grows (step ∷ steps) there =
    let says = statement_at (statements_in old) step in
    let kept = says_grown old new sound grows step says (step_says old step (All-head (λ s. s < length old.log) step steps there)) in
    let here : statement_at (statements_in new) step ≡ says = get_or_from_slice_get (statements_in new) step says (record { kind = Formed; context = blank; parts = [] }) kept in
    let others = said_kept old new sound grows steps (All-tail (λ s. s < length old.log) step steps there) in
    λ i. here i ∷ others i

pub trees_kept : (old new : List Node) → pool.Grows old new → (ids : List ℕ) → All (λ id. id < length old) ids → map (tree_of new) ids ≡ map (tree_of old) ids
trees_kept old new grows [] live = refl
trees_kept old new grows (id ∷ ids) live =
    let here = KeepsTrees-Grows old new grows id (All-head (λ i. i < length old) id ids live) in
    let others = trees_kept old new grows ids (All-tail (λ i. i < length old) id ids live) in
    λ i. here i ∷ others i

-- ---- moves

-- what is said at a place among steps is said by the step of that place
pub said_at : (w : World) (steps : List ℕ) → All (λ step. step < length w.log) steps → (place step : ℕ) (says : Statement)
    → step ≡ get_or steps place step → slice_get (map (statement_at (statements_in w)) steps) place ≡ Some says → Says w step says
said_at w steps there place step says read at =
    let blank_statement : Statement = record { kind = Formed; context = blank; parts = [] } in
    let within : place < length steps = omega (arith, slice_get_within (map (statement_at (statements_in w)) steps) place says at, length-map steps (statement_at (statements_in w))) in
    let same : get_or steps place 0 ≡ step = get_or_from_slice_get steps place step 0 (slice_get_read steps (length steps) place step refl within read) in
    let value : statement_at (statements_in w) step ≡ says =
    ap (statement_at (statements_in w)) (sym same) ∙ sym (get_or-map (statement_at (statements_in w)) steps place 0 blank_statement within)
    ∙ get_or_from_slice_get (map (statement_at (statements_in w)) steps) place says blank_statement at in
    subst (Says w step) value (step_says w step (subst (λ (s : ℕ). s < length w.log) same (there place 0 within)))

abbrev pub can_weaken : (w : World) (steps : List ℕ) → All (λ step. step < length w.log) steps → (row_step row_formed depth : ℕ)
    → (step formed_at : ℕ) → step ≡ get_or steps row_step step → formed_at ≡ get_or steps row_formed formed_at
    → CanMove (map (statement_at (statements_in w)) steps) row_step row_formed depth → CanWeaken w step formed_at depth
can_weaken w steps there row_step row_formed depth step formed_at read formed_read can = record {
  premise = can.premise;
  outer = can.outer;
  entry = can.entry;
  inner = can.inner;
  count = can.count;
  says = said_at w steps there row_step step can.premise read can.says;
  context = can.context;
  formed_is =
      said_at w steps there row_formed formed_at
      (formed (with_entries (with_entry can.outer can.entry) (changed_entries (raising none (bound_by can.entry)) can.inner))) formed_read can.formed_is;
}

-- what can move can where more is said
pub can_move_behind : (said more : List Statement) (step formed_at depth : ℕ) → CanMove said step formed_at depth → CanMove (said ++ more) step formed_at depth
can_move_behind said more step formed_at depth can = record {
  premise = can.premise;
  outer = can.outer;
  entry = can.entry;
  inner = can.inner;
  count = can.count;
  says = slice_get-append said more step can.premise can.says;
  context = can.context;
  formed_is = slice_get-append said more formed_at (formed (with_entries (with_entry can.outer can.entry) (changed_entries (raising none (bound_by can.entry)) can.inner))) can.formed_is;
}

pub can_move_on : (before now more : List Statement) → now ≡ before ++ more → (step formed_at depth : ℕ)
    → CanMove before step formed_at depth → CanMove now step formed_at depth
can_move_on before now more now_is step formed_at depth can =
    subst (λ (said : List Statement). CanMove said step formed_at depth) (sym now_is) (can_move_behind before more step formed_at depth can)

pub length_said_after : (trees : List Tree) (said : List Statement) (steps : List (Row × Bor (List ℕ) × Bor (List ℕ))) → length (said_after trees said steps) ≡ length said + length steps
length_said_after trees said [] = omega (arith)
length_said_after trees said (step ∷ steps) =
    let says = concluded trees step.0 step.1.now in
    omega (arith, length_said_after trees (said ++ says ∷ []) steps, length-append said (says ∷ []))

-- a step that says something is there
pub step_within : (w : World) (step : ℕ) (says : Statement) → Says w step says → step < length w.log
step_within w step says there =
    omega (arith, slice_get_within (statements_in w) step says there, length-map (map (λ (line : Line). line.says) w.log) (statement (trees_in w.pool.nodes)), length-map w.log (λ (line : Line). line.says))
