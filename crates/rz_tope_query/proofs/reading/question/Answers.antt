use Rattle.std.proofs.Common.{◌≡◌, true, ap, ◌∙◌, subst}
use Rattle.std.specs.Prelude.{IfNone, IfSome}
use Rattle.rz_syntax.specs.declared.forms.RawSequent.{RawSequent}
use Rattle.rz_tope_query.specs.Sequent.{are_distinct, names_of, question_of}
use Rattle.rz_tope_query.specs.Parts.{HasAsked, IsNoReading, IsRawOf}
use Rattle.rz_tope_query.proofs.Once.{asked_of, none_without_question, none_without_raw}
use Rattle.rz_tope_query.proofs.reading.question.Goals as goal

pub returns-in_default-clause-none : goal.returns-in_default-clause-none
returns-in_default-clause-none c =
    none_without_raw c.args.text.now
    (subst (λ o. IfNone o ((raw : RawSequent) → IsRawOf c.args.text.now raw → ⊥)) c.in_default.is c.in_ok-raw.ensures.none)

pub returns-in_default-2-clause-none : goal.returns-in_default-2-clause-none
returns-in_default-2-clause-none c =
    let text = c.args.text.now in
    let raw = c.in-Some.raw in
    none_without_question c.one_sequent.ensures.sequents text raw (subst (λ o. IfSome o (IsRawOf text)) c.in-Some.is c.in_ok-raw.ensures.raw)
    (subst (λ o. IfNone o (are_distinct (names_of raw.names) ≡ true → IsNoReading (question_of raw))) c.in_default-2.is c.in_ok-asked.ensures.none)

pub returns-clause-asked : goal.returns-clause-asked
returns-clause-asked c =
    let text = c.args.text.now in
    let raw = c.in-Some.raw in
    let new = c.ask.new.w in
    asked_of text raw new c.in_ok-names.names c.in-Some-2.asked (subst (λ o. IfSome o (IsRawOf text)) c.in-Some.is c.in_ok-raw.ensures.raw)
    (subst (λ o. IfSome o (λ _. are_distinct (names_of raw.names) ≡ true)) c.in-Some-2.is c.in_ok-asked.ensures.distinct)
    (c.in_ok-names.ensures ∙ ap names_of c.as_slice.ensures)
    (subst (λ o. IfSome o (HasAsked new (question_of raw))) c.in-Some-2.is c.in_ok-asked.ensures.asked)
