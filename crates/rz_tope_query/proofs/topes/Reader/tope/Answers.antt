use Rattle.rz_log.proofs.Worlds.{grows_pool}
use Rattle.rz_tope_query.proofs.topes.Reader.tope.Goals as goal

pub returns-clause-grows : goal.returns-clause-grows
returns-clause-grows c = grows_pool c.args.w.now c.tope-answer.new.pool c.tope-answer.ensures.grows c.tope-answer.ensures.pool c.requires.sound
