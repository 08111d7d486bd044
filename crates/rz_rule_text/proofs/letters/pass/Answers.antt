use Rattle.std.proofs.Common.{◌≡◌, ℕ, ◌++◌, ◌∷◌, List, Option, None, All, drop, replicate, refl, sym, ap, subst, ◌∙◌}
use Rattle.std.proofs.lemmas.List.Elements.{All-drop}
use Rattle.rz_rules.specs.declared.symbols.Symbol.{Symbol}
use Rattle.rz_rule_text.specs.declared.letters.Walk.{Walk}
use Rattle.rz_rule_text.specs.Finding.{IsLive, Meets, Passes, known}
use Rattle.rz_rule_text.proofs.Walks.{live-unknown}
use Rattle.rz_rule_text.proofs.Steps.{unknown_step, put_is_unknown, shift_is_unknown}
use Rattle.rz_rule_text.proofs.letters.pass.Goals as goal

pub returns-in_ok-expect_unknown-in-Put-clause-step : goal.returns-in_ok-expect_unknown-in-Put-clause-step
returns-in_ok-expect_unknown-in-Put-clause-step c =
    let ns = c.args.pool.now.nodes in
    let old = c.args.walk.now in
    let new : Walk = record { expected = c.expect_unknown.new.expected; rest = old.rest; finding = old.finding } in
    let expected : new.expected.items ≡ replicate 2 None ++ drop 1 old.expected.items =
    c.in_ok-expect_unknown-in-Put.ensures ∙ ap (λ (es : List (Option ℕ)). None ∷ None ∷ es) c.next.ensures.rest in
    subst (λ (s : Symbol). Passes ns s old new × Meets ns s old new) (sym c.in-Put.is)
    (unknown_step ns _ 2 old new expected refl refl (put_is_unknown c.in-Put.field-0 (known old)))

pub returns-in_ok-expect_unknown-in-Shift-clause-walk : goal.returns-in_ok-expect_unknown-in-Shift-clause-walk
returns-in_ok-expect_unknown-in-Shift-clause-walk c =
    let ns = c.args.pool.now.nodes in
    let old = c.args.walk.now in
    let expected : c.expect_unknown-in-Shift.new.expected.items ≡ replicate 1 None ++ drop 1 old.expected.items =
    c.in_ok-expect_unknown-in-Shift.ensures ∙ ap (λ (es : List (Option ℕ)). None ∷ es) c.next-in-Shift.ensures.rest in
    record {
      expected = subst (All (IsLive ns)) (sym expected) (live-unknown ns 1 (drop 1 old.expected.items) (All-drop (IsLive ns) 1 old.expected.items c.requires.walk.expected));
      rest = c.requires.walk.rest;
      finding = c.requires.walk.finding;
    }

pub returns-in_ok-expect_unknown-in-Shift-clause-step : goal.returns-in_ok-expect_unknown-in-Shift-clause-step
returns-in_ok-expect_unknown-in-Shift-clause-step c =
    let ns = c.args.pool.now.nodes in
    let old = c.args.walk.now in
    let new : Walk = record { expected = c.expect_unknown-in-Shift.new.expected; rest = old.rest; finding = old.finding } in
    let expected : new.expected.items ≡ replicate 1 None ++ drop 1 old.expected.items =
    c.in_ok-expect_unknown-in-Shift.ensures ∙ ap (λ (es : List (Option ℕ)). None ∷ es) c.next-in-Shift.ensures.rest in
    subst (λ (s : Symbol). Passes ns s old new × Meets ns s old new) (sym c.in-Shift.is)
    (unknown_step ns _ 1 old new expected refl refl (shift_is_unknown c.in-Shift.field-0 c.in-Shift.field-1 (known old)))
