use Rattle.std.proofs.Common.{◌≡◌, ℕ, ◌++◌, List, Option, Some, None, All, IsTrue, drop, length, map, replicate, refl, sym, ap, subst, ◌∙◌, arith}
use Rattle.std.specs.Prelude.{is_some}
use Rattle.std.proofs.lemmas.List.Elements.{All-drop}
use Rattle.rz_rules.specs.declared.kinds.Kind.{Kind}
use Rattle.rz_rules.specs.Form.{form}
use Rattle.rz_rules.specs.Tree.{tree_of}
use Rattle.rz_rules.specs.Text.{label_fits}
use Rattle.rz_rule_text.specs.declared.letters.Walk.{Walk}
use Rattle.rz_rule_text.specs.Finding.{IsLive, kind_in, known}
use Rattle.rz_rule_text.proofs.Walks.{is_known-next, live-known, live-next}
use Rattle.rz_rule_text.proofs.Steps.{unknown_step, node_is_unknown}
use Rattle.rz_rule_text.proofs.KnownSteps.{kid_count, label_passed, label_refused, node_step, noted_when, refuses_label, refuses_node}
use Rattle.rz_rule_text.proofs.Tests.{kinds_agree, kinds_differ}
use Rattle.rz_rule_text.proofs.letters.pass_node.Goals as goal

pub returns-in_default-clause-step : goal.returns-in_default-clause-step
returns-in_default-clause-step c =
    let old = c.args.walk.now in
    let expected : c.expect_unknown.new.expected.items ≡ replicate (length (form c.args.kind).kids) None ++ drop 1 old.expected.items =
    c.in_ok-expect_unknown.ensures ∙ ap (λ (n : ℕ). replicate n None ++ c.next.new.expected.items) (ap length c.form.ensures.kids)
    ∙ ap (λ (es : List (Option ℕ)). replicate (length (form c.args.kind).kids) None ++ es) c.next.ensures.rest in
    unknown_step c.args.pool.now.nodes _ (length (form c.args.kind).kids) old (record { expected = c.expect_unknown.new.expected; rest = old.rest; finding = old.finding }) expected refl refl
    (node_is_unknown c.args.kind c.args.label (known old) (is_known-next old.expected.items ∙ ap is_some (sym c.next.ensures.first ∙ c.in_default.is)))

pub returns-then-ne-clause-walk : goal.returns-then-ne-clause-walk
returns-then-ne-clause-walk c = record {
  expected = subst (All (IsLive c.args.pool.now.nodes)) (sym c.next.ensures.rest) (All-drop (IsLive c.args.pool.now.nodes) 1 c.args.walk.now.expected.items c.requires.walk.expected);
  rest = c.requires.walk.rest;
  finding = c.requires.walk.finding;
}

pub returns-then-ne-clause-step : goal.returns-then-ne-clause-step
returns-then-ne-clause-step c =
    refuses_node c.args.pool.now.nodes c.args.walk.now c.in-Some.id (sym c.next.ensures.first ∙ c.in-Some.is) c.args.kind c.args.label c.node-node.result.now c.node-node.ensures.tree
    (kinds_differ c.node-node.result.now.kind c.args.kind c.ne.result c.ne.ensures c.if-ne.true)

pub note_label-requires-clause-there : goal.note_label-requires-clause-there
note_label-requires-clause-there c =
    live-next c.args.pool.now.nodes c.args.walk.now.expected.items c.in-Some.id (sym c.next.ensures.first ∙ c.in-Some.is) c.requires.walk.expected

pub note_label-requires-clause-fits : goal.note_label-requires-clause-fits
note_label-requires-clause-fits c =
    let kind : kind_in (tree_of c.args.pool.now.nodes c.in-Some.id) ≡ c.args.kind =
    ap kind_in c.node-node.ensures.tree ∙ kinds_agree c.node-node.result.now.kind c.args.kind c.ne.result c.ne.ensures c.if-ne.false in
    subst (λ (k : Kind). IsTrue (label_fits (form k).role c.args.label)) (sym kind) c.requires.fits

pub returns-then-not-note_label-clause-walk : goal.returns-then-not-note_label-clause-walk
returns-then-not-note_label-clause-walk c = record {
  expected = subst (All (IsLive c.args.pool.now.nodes)) (sym c.next.ensures.rest) (All-drop (IsLive c.args.pool.now.nodes) 1 c.args.walk.now.expected.items c.requires.walk.expected);
  rest = c.requires.walk.rest;
  finding = c.note_label.ensures.finding;
}

pub returns-then-not-note_label-clause-step : goal.returns-then-not-note_label-clause-step
returns-then-not-note_label-clause-step c =
    let ns = c.args.pool.now.nodes in
    let old = c.args.walk.now in
    refuses_label ns old c.in-Some.id (sym c.next.ensures.first ∙ c.in-Some.is) c.args.kind c.args.label c.node-node.result.now c.node-node.ensures.tree
    (label_refused ns (tree_of ns c.in-Some.id) c.args.label old.finding.letters.items old.finding.name c.note_label.new.finding.name c.note_label.result c.if-not-note_label.true c.note_label.ensures.answer)

pub returns-clause-walk : goal.returns-clause-walk
returns-clause-walk c =
    let ns = c.args.pool.now.nodes in
    let old = c.args.walk.now in
    let live = live-next ns old.expected.items c.in-Some.id (sym c.next.ensures.first ∙ c.in-Some.is) c.requires.walk.expected in
    let kids = c.node-node.result.now.kids in
    let expected : c.expect.new.expected.items ≡ map (λ (kid : ℕ). Some kid) kids ++ drop 1 old.expected.items =
    c.in_ok-expect.ensures ∙ ap (λ (ids : List ℕ). map (λ (kid : ℕ). Some kid) ids ++ c.next.new.expected.items) c.as_slice.ensures.value
    ∙ ap (λ (es : List (Option ℕ)). map (λ (kid : ℕ). Some kid) kids ++ es) c.next.ensures.rest in
    record {
      expected = subst (All (IsLive ns)) (sym expected)
          (live-known ns kids (drop 1 old.expected.items) (λ k d l. omega (arith, live, c.node-node.ensures.form.kids k d l)) (All-drop (IsLive ns) 1 old.expected.items c.requires.walk.expected));
      rest = c.requires.walk.rest;
      finding = c.note_label.ensures.finding;
    }

pub returns-clause-step : goal.returns-clause-step
returns-clause-step c =
    let ns = c.args.pool.now.nodes in
    let old = c.args.walk.now in
    let kids = c.node-node.result.now.kids in
    let expected : c.expect.new.expected.items ≡ map (λ (kid : ℕ). Some kid) kids ++ drop 1 old.expected.items =
    c.in_ok-expect.ensures ∙ ap (λ (ids : List ℕ). map (λ (kid : ℕ). Some kid) ids ++ c.next.new.expected.items) c.as_slice.ensures.value
    ∙ ap (λ (es : List (Option ℕ)). map (λ (kid : ℕ). Some kid) kids ++ es) c.next.ensures.rest in
    let kind = kinds_agree c.node-node.result.now.kind c.args.kind c.ne.result c.ne.ensures c.if-ne.false in
    let new : Walk = record { expected = c.expect.new.expected; rest = old.rest; finding = c.note_label.new.finding } in
    node_step ns old c.in-Some.id (sym c.next.ensures.first ∙ c.in-Some.is) c.args.kind c.args.label c.node-node.result.now c.node-node.ensures.tree new expected refl
    c.note_label.ensures.letters (kid_count ns c.in-Some.id c.node-node.result.now c.args.kind c.node-node.ensures.form kind)
    (label_passed ns (tree_of ns c.in-Some.id) c.args.label old.finding.letters.items old.finding.name c.note_label.new.finding.name c.note_label.result c.if-not-note_label.false c.note_label.ensures.answer)
    c.note_label.ensures.kept (noted_when c.note_label.result _ c.if-not-note_label.false c.note_label.ensures.noted)
