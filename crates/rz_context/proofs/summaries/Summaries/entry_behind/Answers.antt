use Rattle.std.proofs.Common.{arith}
use Rattle.rz_rules.specs.Tree.{tree_of}
use Rattle.rz_context.proofs.Measures.{start-start}
use Rattle.rz_context.proofs.summaries.Summaries.entry_behind.Goals as goal

pub loop-last-preserved : goal.loop-last-preserved
loop-last-preserved c =
    let ns = c.args.pool.now.nodes in
    let next = c.in-Some-next.ensures.next ns c.requires.summaries c.in-Some.ensures.last in
    record {
      low = omega (arith, c.in-Some-next.ensures.lower, c.loop-last.invariant.low);
      start = start-start (tree_of ns c.in-Some-next.next) (tree_of ns c.loop-last.at) (tree_of ns c.args.context) next.start c.loop-last.invariant.start;
      more = next.more;
    }
