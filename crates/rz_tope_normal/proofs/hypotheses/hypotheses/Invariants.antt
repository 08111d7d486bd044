use Rattle.rz_rules.specs.Tree.{tree_of}
use Rattle.rz_pool.specs.Pool.{Grows}
use Rattle.rz_tope_normal.specs.Hypothesis.{IsWalk}
use Rattle.rz_tope_normal.proofs.hypotheses.hypotheses.Given as goal

-- the entries that were passed are walked, and the pool grew
abbrev pub invariant-loop-last : goal.invariant-loop-last
invariant-loop-last l = record {
  walk : IsWalk l.pool.nodes (tree_of l.fn.pool.nodes l.context) l.walk;
  grows : Grows l.fn.pool.nodes l.pool.nodes;
}

abbrev pub decreases-loop-last : goal.decreases-loop-last
decreases-loop-last l = l.walk.at
