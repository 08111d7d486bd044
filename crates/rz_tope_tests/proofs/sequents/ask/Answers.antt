use Rattle.std.proofs.Common.{subst, arith}
use Rattle.rz_rules.specs.Tree.{tree_of}
use Rattle.rz_pool.proofs.Nodes.{length-Grows}
use Rattle.rz_log.specs.World.{context_at}
use Rattle.std.specs.Prelude.{IfSome}
use Rattle.rz_tope_tests.specs.Sequent.{IsAsked}
use Rattle.rz_tope_tests.proofs.Asking.{answered, step_there}
use Rattle.rz_tope_tests.proofs.sequents.ask.Goals as goal

pub returns-clause-answer : goal.returns-clause-answer
returns-clause-answer c =
    let w = c.question_of.new.w in
    let asked = subst (λ o. IfSome o (IsAsked w)) c.in-Some.is c.in_ok-question.ensures.question in
    answered w c.entail.new.w c.in-Some.question c.in_ok-entailed.entailed c.question_of.ensures.grows.sound c.entail.ensures.grows asked c.in_ok-entailed.ensures.entailed

pub returns-clause-step : goal.returns-clause-step
returns-clause-step c =
    step_there c.entail.new.w (context_at c.question_of.new.w c.in-Some.question.at) (tree_of c.question_of.new.w.pool.nodes c.in-Some.question.tope)
    c.in_ok-entailed.entailed c.in_ok-entailed.ensures.entailed

pub returns-clause-context : goal.returns-clause-context
returns-clause-context c =
    let w = c.question_of.new.w in
    let asked = subst (λ o. IfSome o (IsAsked w)) c.in-Some.is c.in_ok-question.ensures.question in
    let more = length-Grows w.pool.nodes c.entail.new.w.pool.nodes c.entail.ensures.grows.nodes in
    let live = asked.question.live in
    omega (live, more, arith)
