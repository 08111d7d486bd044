use Rattle.std.proofs.Common.{◌∙◌, arith}
use Rattle.rz_export.proofs.Pushes.{names_pushed}
use Rattle.rz_export.proofs.needs.named_ids.Goals as goal

pub loop-step-preserved : goal.loop-step-preserved
loop-step-preserved c =
    names_pushed c.args.log.now c.args.steps.now c.loop-step.step-index c.line.result.now c.loop-step.ids c.push.new.self c.extend_from_slice.new.self
    c.as_slice.result.now c.context.result (omega arith) c.line.ensures.line c.loop-step.invariant c.context.ensures (c.as_slice.ensures.value ∙ c.parts.ensures)
    c.in_ok-push.ensures.ok c.in_ok-extend_from_slice.ensures.ok
