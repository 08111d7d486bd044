use Rattle.std.proofs.Common.{◌≡◌, ◌++◌, drop}
use Rattle.rz_print.specs.Layout.{argument_pieces}
use Rattle.rz_print.proofs.layout.push_arguments.Given as goal

abbrev pub invariant-loop-arg : goal.invariant-loop-arg
invariant-loop-arg l =
    l.pieces ++ argument_pieces (drop l.arg-index l.args) ≡ l.initial.pieces ++ argument_pieces l.args
