use Rattle.rz_log.specs.World.{Grows}
use Rattle.rz_tope_tests.specs.Sequent.{IsQuestion}
use Rattle.rz_tope_tests.proofs.sequents.context_of.Given as goal

abbrev pub invariant-loop-text : goal.invariant-loop-text
invariant-loop-text l = Grows l.fn.w l.w × IsQuestion l.w l.question
