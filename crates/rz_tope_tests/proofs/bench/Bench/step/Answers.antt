use Rattle.std.proofs.Common.{◌≡◌, ℕ, ◌<◌, ◌++◌, ◌∷◌, [], List, Some, None, All, length, map, sym, ap, subst, ◌∙◌, true≢false, arith}
use Rattle.std.specs.Prelude.{slice_get}
use Rattle.std.proofs.lemmas.List.{length-map, length-append, map-append}
use Rattle.std.proofs.lemmas.List.Elements.{All-push}
use Rattle.std.proofs.lemmas.Option.{get_or_from_slice_get}
use Rattle.rz_rules.specs.declared.judgments.JudgmentKind.TheVariants.{Formed}
use Rattle.rz_rules.specs.Derivation.{IsMet}
use Rattle.rz_rules.specs.File.{statement_at}
use Rattle.rz_rules.specs.Judgment.{Statement}
use Rattle.rz_rules.specs.Row.{Assignment, spelled}
use Rattle.rz_rules.specs.Table.{rule_of}
use Rattle.rz_rules.specs.Tree.{blank, tree_of}
use Rattle.rz_pool.proofs.Nodes.{length-Grows}
use Rattle.rz_log.specs.World.{statements_in}
use Rattle.rz_lemmas.specs.Letters.{Fill, letters_at, slots}
use Rattle.rz_lemmas.specs.Conclude.{conclusion_in, conclusion_of, premises_in, premises_of}
use Rattle.rz_tope_tests.specs.Bench.{HaveSorts, concluded, letters_over}
use Rattle.rz_tope_tests.proofs.Picking.{all_picked, fills, letters_same, picked, picked_values, said_kept, step_within, steps_say, trees_kept}
use Rattle.rz_tope_tests.proofs.bench.Bench.step.Goals as goal

pub conclude-requires-clause-letters : goal.conclude-requires-clause-letters
conclude-requires-clause-letters c =
    let self = c.args.self.now in
    let nodes = self.w.pool.nodes in
    let row = c.args.row.now in
    let there : All (λ place. place < length self.ids.items) row.1.now = λ k d l. omega (arith, c.requires.concluded.letters_there k d l, length-map self.ids.items (tree_of nodes)) in
    let ids = c.deref-3.ensures.value ∙ c.in_ok-letters.ensures ∙ ap (λ (numbers : List ℕ). picked numbers row.1.now) c.deref.ensures.value in
    let values = picked_values (tree_of nodes) blank self.ids.items row.1.now there in
    record {
      fill = subst (Fill nodes (slots (rule_of row.0).text)) (sym ids)
          (fills nodes (slots (rule_of row.0).text) (picked self.ids.items row.1.now)
          (all_picked (λ id. id < length nodes) self.ids.items row.1.now c.requires.bench.ids there)
          (subst (HaveSorts (slots (rule_of row.0).text)) (sym values) c.requires.concluded.sorts));
      named = λ has. absurd (true≢false (sym has ∙ c.requires.concluded.unnamed));
    }

pub conclude-requires-clause-premises : goal.conclude-requires-clause-premises
conclude-requires-clause-premises c =
    let self = c.args.self.now in
    let w = self.w in
    let nodes = w.pool.nodes in
    let row = c.args.row.now in
    let there : All (λ place. place < length self.ids.items) row.1.now = λ k d l. omega (arith, c.requires.concluded.letters_there k d l, length-map self.ids.items (tree_of nodes)) in
    let steps_there : All (λ place. place < length self.steps.items) row.2.now =
    λ k d l. omega (arith, c.requires.concluded.premises_there k d l, length-map self.steps.items (statement_at (statements_in w))) in
    let ids = c.deref-3.ensures.value ∙ c.in_ok-letters.ensures ∙ ap (λ (numbers : List ℕ). picked numbers row.1.now) c.deref.ensures.value in
    let steps = c.deref-4.ensures.value ∙ c.in_ok-premises.ensures ∙ ap (λ (numbers : List ℕ). picked numbers row.2.now) c.deref-2.ensures.value in
    let values = picked_values (tree_of nodes) blank self.ids.items row.1.now there in
    let said = picked_values (statement_at (statements_in w)) (record { kind = Formed; context = blank; parts = [] }) self.steps.items row.2.now steps_there in
    let all = all_picked (λ step. step < length w.log) self.steps.items row.2.now c.requires.bench.steps steps_there in
    let same = ap (λ (l : List ℕ). letters_at nodes row.0 l None) ids ∙ letters_same nodes row.0 (picked self.ids.items row.1.now) ∙ ap (letters_over row.0) values in
    let premises : premises_of nodes row.0 c.deref-3.result.now None ≡ map (statement_at (statements_in w)) (picked self.steps.items row.2.now) =
    ap (λ (a : Assignment). premises_in (spelled (rule_of row.0).text a).statements) same ∙ sym c.requires.concluded.premises_are ∙ sym said in
    ap (map (slice_get (statements_in w))) steps ∙ steps_say w (picked self.steps.items row.2.now) all ∙ ap (map (λ (says : Statement). Some says)) (sym premises)

pub conclude-requires-clause-conditions : goal.conclude-requires-clause-conditions
conclude-requires-clause-conditions c =
    let self = c.args.self.now in
    let nodes = self.w.pool.nodes in
    let row = c.args.row.now in
    let there : All (λ place. place < length self.ids.items) row.1.now = λ k d l. omega (arith, c.requires.concluded.letters_there k d l, length-map self.ids.items (tree_of nodes)) in
    let ids = c.deref-3.ensures.value ∙ c.in_ok-letters.ensures ∙ ap (λ (numbers : List ℕ). picked numbers row.1.now) c.deref.ensures.value in
    let values = picked_values (tree_of nodes) blank self.ids.items row.1.now there in
    let same = ap (λ (l : List ℕ). letters_at nodes row.0 l None) ids ∙ letters_same nodes row.0 (picked self.ids.items row.1.now) ∙ ap (letters_over row.0) values in
    subst (λ (a : Assignment). All (IsMet a) (rule_of row.0).conditions) (sym same) c.requires.concluded.conditions

pub conclude-requires-clause-scoped : goal.conclude-requires-clause-scoped
conclude-requires-clause-scoped c =
    let self = c.args.self.now in
    let nodes = self.w.pool.nodes in
    let row = c.args.row.now in
    let there : All (λ place. place < length self.ids.items) row.1.now = λ k d l. omega (arith, c.requires.concluded.letters_there k d l, length-map self.ids.items (tree_of nodes)) in
    let ids = c.deref-3.ensures.value ∙ c.in_ok-letters.ensures ∙ ap (λ (numbers : List ℕ). picked numbers row.1.now) c.deref.ensures.value in
    let values = picked_values (tree_of nodes) blank self.ids.items row.1.now there in
    let same = ap (λ (l : List ℕ). letters_at nodes row.0 l None) ids ∙ letters_same nodes row.0 (picked self.ids.items row.1.now) ∙ ap (letters_over row.0) values in
    c.requires.concluded.scoped (conclusion_of nodes row.0 c.deref-3.result.now None) (ap (λ (a : Assignment). conclusion_in (spelled (rule_of row.0).text a).statements) same)

pub returns-clause-bench : goal.returns-clause-bench
returns-clause-bench c =
    let self = c.args.self.now in
    let grows = c.in_ok-step.ensures.grows in
    let new = c.conclude.new.w in
    let nodes = length-Grows self.w.pool.nodes new.pool.nodes grows.nodes in
    let lines = ap length grows.lines ∙ length-append self.w.log grows.added in
    record {
      sound = grows.sound;
      ids = λ k d l. omega (arith, c.requires.bench.ids k d l, nodes);
      steps = subst (All (λ step. step < length new.log)) (sym c.in_ok-push.ensures.items)
          (All-push (λ step. step < length new.log) self.steps.items c.in_ok-step.step
          (λ k d l. omega (arith, c.requires.bench.steps k d l, lines))
          (step_within new c.in_ok-step.step (conclusion_of self.w.pool.nodes c.args.row.now.0 c.deref-3.result.now None) c.in_ok-step.ensures.says));
    }

pub returns-clause-trees : goal.returns-clause-trees
returns-clause-trees c =
    let self = c.args.self.now in
    trees_kept self.w.pool.nodes c.conclude.new.w.pool.nodes c.in_ok-step.ensures.grows.nodes self.ids.items c.requires.bench.ids

pub returns-clause-said : goal.returns-clause-said
returns-clause-said c =
    let self = c.args.self.now in
    let nodes = self.w.pool.nodes in
    let row = c.args.row.now in
    let there : All (λ place. place < length self.ids.items) row.1.now = λ k d l. omega (arith, c.requires.concluded.letters_there k d l, length-map self.ids.items (tree_of nodes)) in
    let ids = c.deref-3.ensures.value ∙ c.in_ok-letters.ensures ∙ ap (λ (numbers : List ℕ). picked numbers row.1.now) c.deref.ensures.value in
    let values = picked_values (tree_of nodes) blank self.ids.items row.1.now there in
    let same = ap (λ (l : List ℕ). letters_at nodes row.0 l None) ids ∙ letters_same nodes row.0 (picked self.ids.items row.1.now) ∙ ap (letters_over row.0) values in
    let new = c.conclude.new.w in
    let before = said_kept self.w new c.requires.bench.sound c.in_ok-step.ensures.grows self.steps.items c.requires.bench.steps in
    let here : statement_at (statements_in new) c.in_ok-step.step ≡ concluded (map (tree_of nodes) self.ids.items) row.0 row.1.now =
    get_or_from_slice_get (statements_in new) c.in_ok-step.step (conclusion_of nodes row.0 c.deref-3.result.now None) (record { kind = Formed; context = blank; parts = [] }) c.in_ok-step.ensures.says
    ∙ ap (λ (a : Assignment). conclusion_in (spelled (rule_of row.0).text a).statements) same in
    ap (map (statement_at (statements_in new))) c.in_ok-push.ensures.items ∙ map-append (statement_at (statements_in new)) self.steps.items (c.in_ok-step.step ∷ [])
    ∙ (λ i. before i ++ here i ∷ [])
