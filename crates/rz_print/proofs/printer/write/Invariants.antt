use Rattle.std.proofs.Common.{[], ◌∷◌}
use Rattle.rz_print.specs.Layout.{term}
use Rattle.rz_print.proofs.Written.{Written}
use Rattle.rz_print.proofs.printer.write.Given as goal

abbrev pub invariant-loop : goal.invariant-loop
invariant-loop l = Written l.shapes l.forms (term l.fn.raw ∷ []) l.stack.items l.writer
