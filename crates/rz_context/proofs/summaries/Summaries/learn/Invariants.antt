use Rattle.std.proofs.Common.{◌-◌, length}
use Rattle.rz_context.specs.Summary.{AreSummaries}
use Rattle.rz_context.proofs.summaries.Summaries.learn.Given as goal

-- summaries are kept of the nodes so far
abbrev pub invariant-loop-self : goal.invariant-loop-self
invariant-loop-self l = AreSummaries l.pool.nodes l.self.summaries.items

abbrev pub decreases-loop-self : goal.decreases-loop-self
decreases-loop-self l = length l.pool.nodes - length l.self.summaries.items
