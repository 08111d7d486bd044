use Rattle.std.proofs.Common.{◌≡◌, ◌++◌, drop}
use Rattle.rz_print.specs.Layout.{parameter_pieces}
use Rattle.rz_print.proofs.layout.push_parameters.Given as goal

abbrev pub invariant-loop-bind : goal.invariant-loop-bind
invariant-loop-bind l =
    l.pieces ++ parameter_pieces (drop l.bind-index l.binds) ≡ l.initial.pieces ++ parameter_pieces l.binds
