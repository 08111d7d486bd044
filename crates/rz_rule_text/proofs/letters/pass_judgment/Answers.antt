use Rattle.std.proofs.Common.{◌≡◌, ◌<◌, ◌∷◌, Some, All, length, refl, sym, subst, ◌∙◌}
use Rattle.std.proofs.lemmas.List.Elements.{All-cons, All-head, All-tail}
use Rattle.rz_rules.specs.declared.judgments.Judgment.{Judgment}
use Rattle.rz_rules.specs.Judgment.{context_of, ids_of, parts_of}
use Rattle.rz_rule_text.specs.declared.letters.Walk.{Walk}
use Rattle.rz_rule_text.specs.Finding.{IsLive}
use Rattle.rz_rule_text.proofs.Walks.{live-known}
use Rattle.rz_rule_text.proofs.KnownSteps.{expected_parts, judgment_step}
use Rattle.rz_rule_text.proofs.Tests.{judgments_agree}
use Rattle.rz_rule_text.proofs.letters.pass_judgment.Goals as goal

pub returns-clause-walk : goal.returns-clause-walk
returns-clause-walk c =
    let ns = c.args.pool.now.nodes in
    let says = c.in-Some.says.now in
    let others = c.in-Some.rest.now in
    let old = c.args.walk.now in
    let Low : Judgment → Type 0 = λ says. All (λ id. id < length ns) (ids_of says) in
    let split : old.rest.now ≡ says ∷ others = c.in-Some.ensures.cases.0 in
    let all : All Low (says ∷ others) = subst (All Low) split c.requires.walk.rest in
    let low = All-head Low says others all in
    let expected = expected_parts c.push_front.new.self.items c.expect.new.expected.items old.expected.items says c.context.result c.parts.result c.as_slice.result.now
    c.in_ok-push_front.ensures.items c.in_ok-expect.ensures c.context.ensures c.parts.ensures c.as_slice.ensures.value in
    record {
      expected = subst (All (IsLive ns)) (sym expected)
          (All-cons (IsLive ns) (Some (context_of says)) _ (All-head (λ id. id < length ns) (context_of says) (parts_of says) low)
          (live-known ns (parts_of says) old.expected.items (All-tail (λ id. id < length ns) (context_of says) (parts_of says) low) c.requires.walk.expected));
      rest = All-tail Low says others all;
      finding = c.requires.walk.finding;
    }

pub returns-clause-step : goal.returns-clause-step
returns-clause-step c =
    let says = c.in-Some.says.now in
    let others = c.in-Some.rest.now in
    let old = c.args.walk.now in
    let split : old.rest.now ≡ says ∷ others = c.in-Some.ensures.cases.0 in
    let expected = expected_parts c.push_front.new.self.items c.expect.new.expected.items old.expected.items says c.context.result c.parts.result c.as_slice.result.now
    c.in_ok-push_front.ensures.items c.in_ok-expect.ensures c.context.ensures c.parts.ensures c.as_slice.ensures.value in
    let kind = sym c.kind.ensures ∙ judgments_agree c.kind.result c.args.kind c.ne.result c.ne.ensures c.if-ne.false in
    let new : Walk = record { expected = c.push_front.new.self; rest = c.in-Some.rest; finding = old.finding } in
    judgment_step c.args.pool.now.nodes old c.args.kind says others split new kind expected refl refl
