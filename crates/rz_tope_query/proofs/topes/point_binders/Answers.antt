use Rattle.std.proofs.Common.{◌∙◌, arith}
use Rattle.rz_tope_query.proofs.Naming.{binders_more}
use Rattle.rz_tope_query.proofs.topes.point_binders.Goals as goal

pub loop-preserved : goal.loop-preserved
loop-preserved c = c.in_ok-push.ensures.ok ∙ binders_more c.args.names.now c.loop.counter c.loop.binders (omega arith) c.loop.invariant
