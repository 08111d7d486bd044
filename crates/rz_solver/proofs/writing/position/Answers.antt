use Rattle.std.proofs.Common.{arith}
use Rattle.rz_solver.proofs.writing.position.Goals as goal

pub unreachable-requires : goal.unreachable-requires
unreachable-requires c =
    let bound = c.loop-position-test.false in
    let less = c.requires.1 in
    c.loop-position.invariant c.requires.0 c.args.number (omega (less, bound, arith)) c.requires.2
