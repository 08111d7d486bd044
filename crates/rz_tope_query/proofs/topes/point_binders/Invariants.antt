use Rattle.std.proofs.Common.{◌≡◌, take}
use Rattle.rz_tope_query.specs.Sequent.{point_binders}
use Rattle.rz_tope_query.proofs.topes.point_binders.Given as goal

abbrev pub invariant-loop : goal.invariant-loop
invariant-loop l = l.binders ≡ point_binders (take l.counter l.names)
