use Rattle.std.proofs.Common.{◌<◌, length}
use Rattle.rz_tope_tests.proofs.decided.check.Given as goal

-- the context is there
abbrev pub invariant-loop-text : goal.invariant-loop-text
invariant-loop-text g l = l.question.context < length l.w.pool.nodes
