use Rattle.std.proofs.Common.{◌<◌, length, subst, arith}
use Rattle.std.specs.Prelude.{IfSome}
use Rattle.rz_pool.proofs.Nodes.{Grows-trans, length-Grows}
use Rattle.rz_log.proofs.Worlds.{grows_pool}
use Rattle.rz_tope_tests.proofs.Asking.{question_pool}
use Rattle.rz_tope_tests.proofs.sequents.tope_of.Goals as goal

pub returns-in_err-tope-clause-grows : goal.returns-in_err-tope-clause-grows
returns-in_err-tope-clause-grows c = grows_pool c.args.w.now c.read.new.pool c.read.ensures.grows c.read.ensures.pool c.requires.sound

pub returns-in_default-clause-grows : goal.returns-in_default-clause-grows
returns-in_default-clause-grows c = grows_pool c.args.w.now c.read.new.pool c.read.ensures.grows c.read.ensures.pool c.requires.sound

pub returns-in_err-over-clause-grows : goal.returns-in_err-over-clause-grows
returns-in_err-over-clause-grows c =
    let grows = Grows-trans c.args.w.now.pool.nodes c.read.new.pool.nodes c.is_over.new.pool.nodes c.read.ensures.grows c.is_over.ensures.grows in
    grows_pool c.args.w.now c.is_over.new.pool grows c.is_over.ensures.pool c.requires.sound

pub returns-then-not-over-clause-grows : goal.returns-then-not-over-clause-grows
returns-then-not-over-clause-grows c =
    let grows = Grows-trans c.args.w.now.pool.nodes c.read.new.pool.nodes c.is_over.new.pool.nodes c.read.ensures.grows c.is_over.ensures.grows in
    grows_pool c.args.w.now c.is_over.new.pool grows c.is_over.ensures.pool c.requires.sound

pub returns-clause-grows : goal.returns-clause-grows
returns-clause-grows c =
    let grows = Grows-trans c.args.w.now.pool.nodes c.read.new.pool.nodes c.is_over.new.pool.nodes c.read.ensures.grows c.is_over.ensures.grows in
    grows_pool c.args.w.now c.is_over.new.pool grows c.is_over.ensures.pool c.requires.sound

pub returns-clause-question : goal.returns-clause-question
returns-clause-question c =
    let w = c.args.w.now in
    let grows = Grows-trans w.pool.nodes c.read.new.pool.nodes c.is_over.new.pool.nodes c.read.ensures.grows c.is_over.ensures.grows in
    let more = length-Grows c.read.new.pool.nodes c.is_over.new.pool.nodes c.is_over.ensures.grows in
    let live = subst (λ o. IfSome o (λ id. id < length c.read.new.pool.nodes)) c.in-Some.is c.in_ok-tope.ensures.live in record {
      question = question_pool w c.is_over.new.pool c.args.question grows c.is_over.ensures.pool c.requires.sound c.requires.question;
      live = omega (live, more, arith);
      over = c.in_ok-over.ensures.over c.if-not-over.false;
    }
