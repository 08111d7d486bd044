use Rattle.std.proofs.Common.{◌≡◌, drop}
use Rattle.rz_syntax.specs.Threads.{begins}
use Rattle.rz_syntax.proofs.engine.may_begin.Given as goal

abbrev pub invariant-loop-symbol : goal.invariant-loop-symbol
invariant-loop-symbol l = begins l.symbols l.ahead ≡ begins (drop l.symbol-index l.symbols) l.ahead
