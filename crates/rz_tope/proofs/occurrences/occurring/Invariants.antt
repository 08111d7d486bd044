use Rattle.std.proofs.Common.{◌≡◌}
use Rattle.rz_rules.specs.Tree.{tree_of}
use Rattle.rz_rules.specs.Validity.{occurring}
use Rattle.rz_tope.specs.Walk.{IsWalk}
use Rattle.rz_tope.proofs.occurrences.occurring.Given as goal

-- the pool is as it was, and what is left and what was passed are the whole
abbrev pub invariant-loop-last : goal.invariant-loop-last
invariant-loop-last l = record {
  nodes : l.pool.nodes ≡ l.fn.pool.nodes;
  walk : IsWalk l.fn.pool.nodes l.entries.items (occurring (tree_of l.fn.pool.nodes l.context) (tree_of l.fn.pool.nodes l.tope)) l.walk;
}

abbrev pub decreases-loop-last : goal.decreases-loop-last
decreases-loop-last l = l.walk.at
