use Rattle.std.proofs.Common.{subst}
use Rattle.std.specs.Prelude.{IfSome}
use Rattle.rz_tope_query.specs.Decision.{IsAsked, sequent_at}
use Rattle.rz_tope_query.proofs.decision.decide.Goals as goal

pub decision_of-requires-clause-asked : goal.decision_of-requires-clause-asked
decision_of-requires-clause-asked c =
    (c.args.text.now, subst (λ o. IfSome o (IsAsked c.args.text.now c.question.new.w)) c.in-Some.is c.in_ok-question.ensures.asked)

pub returns-clause-decided : goal.returns-clause-decided
returns-clause-decided c =
    let asked = subst (λ o. IfSome o (IsAsked c.args.text.now c.question.new.w)) c.in-Some.is c.in_ok-question.ensures.asked in
    (sequent_at c.question.new.w c.in-Some.question, asked.says, c.in_ok-decision.ensures.decided)
