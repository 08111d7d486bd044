use Rattle.std.specs.Io.KnownBytes.{Keeps}
use Rattle.rz_io.proofs.writer.write_some.Given as goal

-- no write took anything so far
abbrev pub invariant-loop : goal.invariant-loop
invariant-loop g l = Keeps (g.W.Write.contents l.fn.writer) (g.W.Write.contents l.writer)
