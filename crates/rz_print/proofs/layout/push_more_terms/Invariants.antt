use Rattle.std.proofs.Common.{◌≡◌, ◌++◌, drop}
use Rattle.rz_print.specs.Layout.{more_terms}
use Rattle.rz_print.proofs.layout.push_more_terms.Given as goal

abbrev pub invariant-loop-raw : goal.invariant-loop-raw
invariant-loop-raw l =
    l.pieces ++ more_terms (drop l.raw-index l.terms) ≡ l.initial.pieces ++ more_terms l.terms
