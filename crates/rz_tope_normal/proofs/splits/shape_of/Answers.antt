use Rattle.std.proofs.Common.{refl}
use Rattle.rz_rules.specs.declared.kinds.Kind.TheVariants as kind
use Rattle.rz_tope_normal.proofs.Entering.{bare_tree}
use Rattle.rz_tope_normal.proofs.splits.shape_of.Goals as goal

pub returns-in-CubeOne : goal.returns-in-CubeOne
returns-in-CubeOne c =
    bare_tree c.args.pool.now.nodes c.args.of.0 c.node-node.result.now c.node-node.ensures.tree c.node-node.ensures.form kind.CubeOne c.in-CubeOne.is
    refl refl

pub returns-in-CubeTwo : goal.returns-in-CubeTwo
returns-in-CubeTwo c =
    bare_tree c.args.pool.now.nodes c.args.of.0 c.node-node.result.now c.node-node.ensures.tree c.node-node.ensures.form kind.CubeTwo c.in-CubeTwo.is
    refl refl
