use Rattle.rz_log.specs.World.{Grows, context_at}
use Rattle.rz_solver.specs.Writing.{IsWriting}
use Rattle.rz_solver.proofs.writing.write.Given as goal

abbrev pub invariant-loop : goal.invariant-loop
invariant-loop l =
    Grows l.fn.w l.w
    × IsWriting (record { nodes = l.fn.w.pool.nodes; context = context_at l.fn.w l.fn.at; all = l.all }) l.w l.places.items l.tasks.items
