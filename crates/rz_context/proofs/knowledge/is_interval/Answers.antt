use Rattle.std.proofs.Common.{Some, refl, ap, ◌∙◌}
use Rattle.std.specs.Prelude.{option_map}
use Rattle.rz_rules.specs.Tree.{Tree, tree_of}
use Rattle.rz_context.proofs.Judging.{interval}
use Rattle.rz_context.proofs.knowledge.is_interval.Goals as goal

pub returns-in-CubeTwo : goal.returns-in-CubeTwo
returns-in-CubeTwo c =
    let ns = c.args.pool.now.nodes in
    (λ yes. ap (option_map (tree_of ns)) c.in-Some.is ∙ ap (λ (t : Tree). Some t) (interval ns c.in-Some.id c.node.result.now c.node.ensures.tree c.node.ensures.form c.in-CubeTwo.is), λ has. refl)
