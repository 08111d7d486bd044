use Rattle.std.proofs.Common.{sym, arith}
use Rattle.std.specs.Prelude.{Ok}
use Rattle.rz_pool.proofs.Nodes.{KeepsTrees-Grows, length-Grows}
use Rattle.rz_shape.proofs.points.make_point.Goals as goal

pub returns-clause-point : goal.returns-clause-point
returns-clause-point c =
    let ns = c.args.pool.now.nodes in
    let ms = c.make_unnamed.new.self.nodes in
    let made = c.in_ok-node.ensures in
    let point = sym made.tree in
    let cube = sym (KeepsTrees-Grows ns ms made.grows c.args.cube c.requires) in
    record {
      there = record { node = made.within; cube = omega (arith, c.requires, length-Grows ns ms made.grows) };
      is = λ i. Ok (record { point = point i; cube = cube i });
    }
