use Rattle.std.proofs.Common.{sym, arith}
use Rattle.rz_rules.specs.File.{StepItem}
use Rattle.rz_drv.specs.Lines.{item_line}
use Rattle.rz_drv.proofs.Writings.{written_more}
use Rattle.rz_drv.proofs.encoding.add_steps.Goals as goal

pub loop-step-preserved : goal.loop-step-preserved
loop-step-preserved c =
    written_more (λ line. StepItem line) item_line c.args.steps.now c.loop-step.step-index c.step-item.result c.step-item.result c.args.bytes.now c.loop-step.bytes _ (omega arith) (sym c.step-item.is) c.loop-step.invariant c.in_ok-add_step.ensures
