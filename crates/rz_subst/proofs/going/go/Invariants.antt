use Rattle.rz_pool.specs.Pool.{Grows, IsPool}
use Rattle.rz_subst.specs.Tasks.{IsWalking, jobs_of, total_weight}
use Rattle.rz_subst.proofs.going.go.Given as goal

abbrev pub invariant-loop-task : goal.invariant-loop-task
invariant-loop-task g l = record {
  there : g.C.Changing.is_there l.changing l.pool.nodes;
  walking : IsWalking (g.C.Changing.changes l.changing l.pool.nodes) l.pool.nodes l.id l.walk.tasks.items l.walk;
  grows : Grows l.initial.pool.nodes l.pool.nodes;
  pool : IsPool l.pool.nodes;
}

abbrev pub decreases-loop-task : goal.decreases-loop-task
decreases-loop-task g l = total_weight (jobs_of l.pool.nodes l.walk.tasks.items)
