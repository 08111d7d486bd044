use Rattle.rz_kernel_rows.proofs.Following.{premise_more, premise_none}
use Rattle.rz_kernel_rows.proofs.lines.premises_of.Goals as goal

pub returns-in_default-clause-none : goal.returns-in_default-clause-none
returns-in_default-clause-none c = premise_none c.args.said.now c.args.from.now c.loop-step.step-index c.loop-step-test.true c.in_default.ensures

pub loop-step-preserved : goal.loop-step-preserved
loop-step-preserved c =
    rw c.in_ok-push.ensures.items
    (premise_more c.args.said.now c.args.from.now c.loop-step.premises.items c.loop-step.step-index c.in-Some.premise c.loop-step-test.true c.in-Some.ensures c.loop-step.invariant)
