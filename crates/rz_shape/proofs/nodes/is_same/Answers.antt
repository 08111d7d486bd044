use Rattle.rz_shape.proofs.Outcomes.{same_ids}
use Rattle.rz_shape.proofs.nodes.is_same.Goals as goal

pub returns : goal.returns
returns c = same_ids c.args.pool.now.nodes c.args.i c.args.j c.are_same.result c.are_same.ensures.pool c.requires.left c.requires.right c.are_same.ensures.same
