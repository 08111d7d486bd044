use Rattle.std.proofs.Common.{◌≡◌, drop}
use Rattle.rz_lex.specs.Spelling.{entries}
use Rattle.rz_print.specs.Text.{first_spelling}
use Rattle.rz_print.proofs.writer.first_spelling.Given as goal

abbrev pub invariant-loop-spelling : goal.invariant-loop-spelling
invariant-loop-spelling l =
    first_spelling (entries l.fixed) l.kind
    ≡ first_spelling (entries (drop l.spelling-index l.fixed)) l.kind
