use Rattle.std.proofs.Common.{◌∙◌}
use Rattle.rz_shape.proofs.Outcomes.{order_is}
use Rattle.rz_shape.proofs.joins.order.Goals as goal

pub returns-clause-read : goal.returns-clause-read
returns-clause-read c whole =
    let made = c.in_ok-make_alone.ensures.tree in
    record {
      there = made.there;
      is = order_is c.args.pool.now.nodes c.is_interval.new.pool.nodes c.in_ok-within.ensures.grows c.args.left c.args.right c.requires.left c.requires.right
          c.args.place c.from_slice-kids.result c.from_slice-kids.ensures (c.in_ok-within.ensures.test ∙ c.if-not-within.false)
          ∙ made.is;
    }
