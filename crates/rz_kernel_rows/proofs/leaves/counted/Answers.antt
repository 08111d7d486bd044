use Rattle.std.proofs.Common.{ℕ, List, ◌++◌, ◌∷◌, [], sym, ap, subst, ◌∙◌}
use Rattle.rz_kernel_rows.specs.Leaves.{IsStep}
use Rattle.rz_kernel_rows.proofs.Cubes.{product_step, leaf_step}
use Rattle.rz_kernel_rows.proofs.leaves.counted.Goals as goal

pub returns-in_default-clause-step : goal.returns-in_default-clause-step
returns-in_default-clause-step c = leaf_step c.args.pool.now.nodes c.args.waiting.now.items c.args.cube c.args.count c.requires.low c.in_default.ensures.none

pub returns-clause-step : goal.returns-clause-step
returns-clause-step c =
    subst (λ (after : List ℕ). IsStep c.args.pool.now.nodes (c.args.waiting.now.items ++ c.args.cube ∷ []) c.args.count after c.args.count)
    (sym (c.in_ok-push-2.ensures.items ∙ ap (λ (xs : List ℕ). xs ++ c.in-Some.left ∷ []) c.in_ok-push.ensures.items))
    (product_step c.args.pool.now.nodes c.args.waiting.now.items c.args.cube c.in-Some.left c.in-Some.right c.args.count c.requires.low c.in-Some.ensures.parts)
