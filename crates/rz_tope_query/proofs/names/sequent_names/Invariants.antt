use Rattle.std.proofs.Common.{◌≡◌, take}
use Rattle.rz_tope_query.specs.Sequent.{names_of}
use Rattle.rz_tope_query.proofs.names.sequent_names.Given as goal

abbrev pub invariant-loop-group : goal.invariant-loop-group
invariant-loop-group l = l.names ≡ names_of (take l.group-index l.groups)
