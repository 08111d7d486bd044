use Rattle.std.proofs.Common.{◌≡◌, ◌<◌, Some, None, true, All, length, refl, sym, ap, subst, ◌∙◌, arith}
use Rattle.std.specs.Prelude.{is_some}
use Rattle.std.specs.Vec.{with_item}
use Rattle.std.proofs.lemmas.List.{length-set, get_or-set_same}
use Rattle.std.proofs.lemmas.List.Elements.{All-set, All-drop}
use Rattle.rz_rules.specs.Tree.{sort_of, tree_of}
use Rattle.rz_rule_text.specs.declared.letters.Walk.{Walk}
use Rattle.rz_rule_text.specs.Finding.{IsLive, first_expected, known}
use Rattle.rz_rule_text.specs.Letters.{letter_at}
use Rattle.rz_rule_text.proofs.Walks.{is_known-next, live-next}
use Rattle.rz_rule_text.proofs.Steps.{unknown_step, letter_is_unknown}
use Rattle.rz_rule_text.proofs.KnownSteps.{StandsFor-set, IsFound-set, letter_step, by_cases, letter_live, letter_read, refuses_other}
use Rattle.rz_rule_text.proofs.Tests.{sorts_agree}
use Rattle.rz_rule_text.proofs.letters.pass_letter.Goals as goal

pub returns-in_default-clause-step : goal.returns-in_default-clause-step
returns-in_default-clause-step c =
    let old = c.args.walk.now in
    unknown_step c.args.pool.now.nodes _ 0 old (record { expected = c.next.new.expected; rest = old.rest; finding = old.finding }) c.next.ensures.rest refl refl
    (letter_is_unknown c.args.letter (known old) (is_known-next old.expected.items ∙ ap is_some (sym c.next.ensures.first ∙ c.in_default.is)))

pub returns-in-Some-index-clause-step : goal.returns-in-Some-index-clause-step
returns-in-Some-index-clause-step c =
    let ns = c.args.pool.now.nodes in
    let old = c.args.walk.now in
    let letters = old.finding.letters.items in
    let first : first_expected old.expected.items ≡ Some c.in-Some.id = sym c.next.ensures.first ∙ c.in-Some.is in
    let low : c.args.letter.number < length letters = omega (arith, c.requires.low, c.requires.walk.finding.count) in
    let there : letter_at letters c.args.letter.number ≡ Some c.in-Some-index.other = letter_read letters c.args.letter.number c.index.result.now low c.index.ensures ∙ c.in-Some-index.is in
    let live : c.in-Some.id < length ns = live-next ns old.expected.items c.in-Some.id first c.requires.walk.expected in
    let sort : sort_of (tree_of ns c.in-Some.id) ≡ c.args.letter.sort =
    ap sort_of c.node.ensures.tree ∙ sym c.form.ensures.sort ∙ sorts_agree c.form.result.sort c.args.letter.sort c.ne.result c.ne.ensures c.if-ne.false in
    let new : Walk = record { expected = c.next.new.expected; rest = old.rest; finding = old.finding } in
    by_cases ns _ old new c.are_same.result
    (λ passed. letter_step ns old c.in-Some.id first c.args.letter new c.next.ensures.rest refl refl (λ a is h. h) (λ other found. found)
    (record { id = c.in-Some.id; there = there ∙ ap Some (c.are_same.ensures.same.0 passed); live = live; sort = sort }))
    (λ refused. refuses_other ns old c.in-Some.id first c.args.letter c.in-Some-index.other there
    (λ trees. let ids : c.in-Some-index.other ≡ c.in-Some.id = c.are_same.ensures.pool.shared c.in-Some-index.other c.in-Some.id (letter_live ns letters c.args.letter.number c.in-Some-index.other low there c.requires.walk.finding.live) live trees in
    let wrong : c.are_same.result ≡ true = c.are_same.ensures.same.1 ids in cc))

pub returns-in-None-clause-walk : goal.returns-in-None-clause-walk
returns-in-None-clause-walk c =
    let ns = c.args.pool.now.nodes in
    let old = c.args.walk.now in
    let letters = old.finding.letters.items in
    let first : first_expected old.expected.items ≡ Some c.in-Some.id = sym c.next.ensures.first ∙ c.in-Some.is in
    let live : c.in-Some.id < length ns = live-next ns old.expected.items c.in-Some.id first c.requires.walk.expected in
    record {
      expected = subst (All (IsLive ns)) (sym c.next.ensures.rest) (All-drop (IsLive ns) 1 old.expected.items c.requires.walk.expected);
      rest = c.requires.walk.rest;
      finding = record {
        count = length-set letters c.args.letter.number (Some c.in-Some.id) ∙ c.requires.walk.finding.count;
        live = All-set (IsLive ns) letters c.args.letter.number (Some c.in-Some.id) live c.requires.walk.finding.live;
        named = c.requires.walk.finding.named;
      };
    }

pub returns-in-None-clause-step : goal.returns-in-None-clause-step
returns-in-None-clause-step c =
    let ns = c.args.pool.now.nodes in
    let old = c.args.walk.now in
    let letters = old.finding.letters.items in
    let k = c.args.letter.number in
    let first : first_expected old.expected.items ≡ Some c.in-Some.id = sym c.next.ensures.first ∙ c.in-Some.is in
    let low : k < length letters = omega (arith, c.requires.low, c.requires.walk.finding.count) in
    let none : letter_at letters k ≡ None = letter_read letters k c.index.result.now low c.index.ensures ∙ c.in-None.is in
    let live : c.in-Some.id < length ns = live-next ns old.expected.items c.in-Some.id first c.requires.walk.expected in
    let sort : sort_of (tree_of ns c.in-Some.id) ≡ c.args.letter.sort =
    ap sort_of c.node.ensures.tree ∙ sym c.form.ensures.sort ∙ sorts_agree c.form.result.sort c.args.letter.sort c.ne.result c.ne.ensures c.if-ne.false in
    let new : Walk = record { expected = c.next.new.expected; rest = old.rest; finding = record { letters = with_item old.finding.letters k (Some c.in-Some.id); name = old.finding.name } } in
    letter_step ns old c.in-Some.id first c.args.letter new c.next.ensures.rest refl refl
    (λ a is h. StandsFor-set ns letters old.finding.name k c.in-Some.id a low is h)
    (λ other found. IsFound-set ns letters old.finding.name k c.in-Some.id other none found)
    (record { id = c.in-Some.id; there = get_or-set_same letters k (Some c.in-Some.id) None low; live = live; sort = sort })
