use Rattle.std.proofs.Common.{◌∙◌}
use Rattle.rz_shape.proofs.Outcomes.{pair_is}
use Rattle.rz_shape.proofs.joins.pair.Goals as goal

pub returns-clause-read : goal.returns-clause-read
returns-clause-read c place =
    let cube = c.in_ok-cube.ensures in
    let made = c.in_ok-make_point.ensures.point in
    record {
      there = made.there;
      is = pair_is c.args.pool.now.nodes c.make_unnamed.new.self.nodes cube.grows c.args.left c.args.right c.requires.left c.requires.right
          c.args.whole c.from_slice-kids.result c.from_slice-cubes.result c.in_ok-cube.cube c.from_slice-kids.ensures c.from_slice-cubes.ensures
          (c.in_ok-wide.ensures ∙ c.if-wide.false) cube.tree
          ∙ made.is;
    }
