use Rattle.std.proofs.Common.{arith, ◌<◌, length}
use Rattle.std.proofs.lemmas.Result.{err_from_is_err_and}
use Rattle.std.proofs.lemmas.Grind.{common_steps}
use Rattle.rz_io.proofs.Sinks.{Split-next, Split-refused, Split-some, Offered-next, Offered-refused, Offered-end}
use Rattle.rz_io.proofs.sink.write_all.Goals as goal

pub returns-in_err-taken-clause-part : goal.returns-in_err-taken-clause-part
returns-in_err-taken-clause-part g c =
    let some : 0 < length c.loop-left.left.now = grind (arith, common_steps) in
    let p = err_from_is_err_and c.from_residual.result c.from_residual.ensures.1 in
    rw p.1 (Split-refused _ _ _ _ _ some c.loop-left.invariant.split c.in_err-taken.ensures.err)

pub returns-in_err-taken-clause-offered : goal.returns-in_err-taken-clause-offered
returns-in_err-taken-clause-offered g c =
    Offered-refused _ _ _ _ _ _ c.loop-left.invariant.offered c.in_err-taken.ensures.offered

pub returns-clause-offered : goal.returns-clause-offered
returns-clause-offered g c = Offered-end _ _ _ _ c.loop-left.invariant.offered

pub loop-left-preserved : goal.loop-left-preserved
loop-left-preserved g c =
    let some : 0 < length c.loop-left.left.now = grind (arith, common_steps) in
    record {
      split = Split-next _ _ _ _ _ _ c.loop-left.invariant.split c.in_ok-taken.ensures.ok;
      offered = Offered-next _ _ _ _ _ _ c.loop-left.invariant.offered c.in_ok-taken.ensures.some c.in_ok-taken.ensures.offered;
      count = omega (arith, c.loop-left.invariant.count, c.in_ok-taken.ensures.never_falls);
      empty = λ none. absurd (Split-some _ _ _ _ some c.loop-left.invariant.split none);
    }
