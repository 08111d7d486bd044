use Rattle.rz_log.proofs.Worlds.{grows_pool, sound_pool}
use Rattle.rz_tope_tests.proofs.Asking.{question_pool}
use Rattle.rz_tope_tests.proofs.sequents.with_tope_over.Goals as goal

pub returns-in_err-over-clause-grows : goal.returns-in_err-over-clause-grows
returns-in_err-over-clause-grows c = grows_pool c.args.w.now c.is_over.new.pool c.is_over.ensures.grows c.is_over.ensures.pool c.requires.sound

pub returns-then-not-over-clause-grows : goal.returns-then-not-over-clause-grows
returns-then-not-over-clause-grows c = grows_pool c.args.w.now c.is_over.new.pool c.is_over.ensures.grows c.is_over.ensures.pool c.requires.sound

pub with_tope-requires-clause-sound : goal.with_tope-requires-clause-sound
with_tope-requires-clause-sound c = sound_pool c.args.w.now c.is_over.new.pool c.is_over.ensures.grows c.is_over.ensures.pool c.requires.sound

pub with_tope-requires-clause-formed : goal.with_tope-requires-clause-formed
with_tope-requires-clause-formed c =
    (question_pool c.args.w.now c.is_over.new.pool c.args.question c.is_over.ensures.grows c.is_over.ensures.pool c.requires.sound c.requires.question).formed_is
