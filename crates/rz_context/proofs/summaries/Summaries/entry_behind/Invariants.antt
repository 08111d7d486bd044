use Rattle.std.proofs.Common.{◌<◌, ◌≤◌}
use Rattle.rz_rules.specs.Tree.{tree_of}
use Rattle.rz_context.specs.Summary.{IsStart, measured}
use Rattle.rz_context.proofs.summaries.Summaries.entry_behind.Given as goal

-- more entries than are sought stand in what is left
abbrev pub invariant-loop-last : goal.invariant-loop-last
invariant-loop-last l = record {
  low : l.at ≤ l.context;
  start : IsStart (tree_of l.pool.nodes l.at) (tree_of l.pool.nodes l.context);
  more : l.before < measured l.by (tree_of l.pool.nodes l.at);
}

abbrev pub decreases-loop-last : goal.decreases-loop-last
decreases-loop-last l = l.at
