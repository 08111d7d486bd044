use Rattle.rz_log.proofs.Worlds.{grows_pool}
use Rattle.rz_tope_query.proofs.contexts.read_cube.Goals as goal

pub returns-clause-grows : goal.returns-clause-grows
returns-clause-grows c = grows_pool c.args.w.now c.cube-answer.new.pool c.cube-answer.ensures.grows c.cube-answer.ensures.pool c.requires
