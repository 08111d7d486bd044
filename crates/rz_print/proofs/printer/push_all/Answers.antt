use Rattle.rz_print.proofs.Stacks.{put}
use Rattle.rz_print.proofs.printer.push_all.Goals as goal

pub loop-count-preserved : goal.loop-count-preserved
loop-count-preserved c =
    put c.loop-count.stack.items c.args.stack.now.items c.args.pieces.now _ c.loop-count.count _
    c.loop-count-test.true c.loop-count.invariant c.in_ok-push.ensures.items
