use Rattle.rz_log.proofs.Worlds.{grows_pool, sound_pool}
use Rattle.rz_tope_tests.proofs.Asking.{question_pool}
use Rattle.rz_tope_tests.proofs.sequents.with_entry_of.Goals as goal

pub returns-in_err-id-clause-grows : goal.returns-in_err-id-clause-grows
returns-in_err-id-clause-grows c = grows_pool c.args.w.now c.read.new.pool c.read.ensures.grows c.read.ensures.pool c.requires.sound

pub returns-in_default-clause-grows : goal.returns-in_default-clause-grows
returns-in_default-clause-grows c = grows_pool c.args.w.now c.read.new.pool c.read.ensures.grows c.read.ensures.pool c.requires.sound

pub with_cube-requires-clause-sound : goal.with_cube-requires-clause-sound
with_cube-requires-clause-sound c = sound_pool c.args.w.now c.read.new.pool c.read.ensures.grows c.read.ensures.pool c.requires.sound

pub with_cube-requires-clause-formed : goal.with_cube-requires-clause-formed
with_cube-requires-clause-formed c =
    (question_pool c.args.w.now c.read.new.pool c.args.question c.read.ensures.grows c.read.ensures.pool c.requires.sound c.requires.question).formed_is

pub with_tope_over-requires-clause-sound : goal.with_tope_over-requires-clause-sound
with_tope_over-requires-clause-sound c = sound_pool c.args.w.now c.read.new.pool c.read.ensures.grows c.read.ensures.pool c.requires.sound

pub with_tope_over-requires-clause-question : goal.with_tope_over-requires-clause-question
with_tope_over-requires-clause-question c =
    question_pool c.args.w.now c.read.new.pool c.args.question c.read.ensures.grows c.read.ensures.pool c.requires.sound c.requires.question

pub returns-in-Err-OutOfMemory-clause-grows : goal.returns-in-Err-OutOfMemory-clause-grows
returns-in-Err-OutOfMemory-clause-grows c = grows_pool c.args.w.now c.read.new.pool c.read.ensures.grows c.read.ensures.pool c.requires.sound

pub returns-in-Err : goal.returns-in-Err
returns-in-Err c = record {
  question = tt;
  grows = grows_pool c.args.w.now c.read.new.pool c.read.ensures.grows c.read.ensures.pool c.requires.sound;
}
