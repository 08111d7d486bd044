use Rattle.std.proofs.Common.{arith, rules}
use Rattle.rz_tope_normal.proofs.Membership.{position_here, position_past}
use Rattle.rz_tope_normal.proofs.places.position.Goals as goal

pub loop-position-preserved : goal.loop-position-preserved
loop-position-preserved c =
    omega (
      arith,
      c.loop-position.invariant,
      position_past c.args.list.now c.loop-position.position c.index-list-position.result c.args.coordinate.now c.loop-position-test.true
          c.index-list-position.is (search rules),
    )

pub returns-then-eq-clause-place : goal.returns-then-eq-clause-place
returns-then-eq-clause-place c =
    omega (
      arith,
      c.loop-position.invariant,
      position_here c.args.list.now c.loop-position.position c.index-list-position.result c.args.coordinate.now c.loop-position-test.true
          c.index-list-position.is (search rules),
    )
