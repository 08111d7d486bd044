use Rattle.std.proofs.Common.{◌≡◌, ℕ, List, Some, map, slice_get, sym, subst}
use Rattle.rz_log.specs.World.{Says, statements_in}
use Rattle.rz_log.proofs.Worlds.{grows_pool, sound_pool}
use Rattle.rz_lemmas.specs.Conclude.{premises_of}
use Rattle.rz_lemmas.proofs.Instances.{conclusion_said, line_follows}
use Rattle.rz_lemmas.proofs.texts.conclude.Goals as goal

pub returns-in_err-says-clause-grows : goal.returns-in_err-says-clause-grows
returns-in_err-says-clause-grows c = grows_pool c.args.w.now c.conclusion.new.pool c.conclusion.ensures.grows c.conclusion.ensures.pool c.requires.sound

pub returns-in_err-from-clause-grows : goal.returns-in_err-from-clause-grows
returns-in_err-from-clause-grows c = grows_pool c.args.w.now c.conclusion.new.pool c.conclusion.ensures.grows c.conclusion.ensures.pool c.requires.sound

pub add-requires-clause-sound : goal.add-requires-clause-sound
add-requires-clause-sound c = sound_pool c.args.w.now c.conclusion.new.pool c.conclusion.ensures.grows c.conclusion.ensures.pool c.requires.sound

pub add-requires-clause-follows : goal.add-requires-clause-follows
add-requires-clause-follows c =
    let w = c.args.w.now in
    let premises = subst (λ (from : List ℕ). map (slice_get (statements_in w)) from ≡ map (λ s. Some s) (premises_of w.pool.nodes c.args.row c.args.letters.now c.args.name))
    (sym c.in_ok-from.ensures) c.requires.premises in
    line_follows w.pool.nodes c.conclusion.new.pool.nodes c.args.row c.args.letters.now c.args.name c.in_ok-says.says c.in_ok-says.ensures.says
    w.log c.in_ok-from.from c.requires.sound.pool.forms c.conclusion.ensures.grows c.conclusion.ensures.pool c.requires.sound.log
    c.requires.text c.requires.letters premises c.requires.conditions c.requires.scoped c.in_ok-says.ensures.over

pub returns-clause-says : goal.returns-clause-says
returns-clause-says c =
    let w = c.args.w.now in
    subst (Says c.add.new.self c.in_ok-step.step)
    (sym (conclusion_said w.pool.nodes c.conclusion.new.pool.nodes c.args.row c.args.letters.now c.args.name c.in_ok-says.says c.in_ok-says.ensures.says))
    c.in_ok-step.ensures.says
