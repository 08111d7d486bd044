use Rattle.std.proofs.Common.{◌≡◌, ◌^◌, refl, subst}
use Rattle.std.specs.Prelude.{IfOk, IfSome, IsSome, ◌↔◌}
use Rattle.rz_rules.specs.declared.kinds.Space.{Space}
use Rattle.rz_rules.specs.declared.kinds.Space.TheVariants.{Points, Terms}
use Rattle.rz_rules.specs.Tree.{tree_of}
use Rattle.rz_rules.specs.Substitution.{Depth, IndicesBelow, none, put}
use Rattle.rz_pool.specs.Counts.{depth_of}
use Rattle.rz_rule_text.proofs.substitution.put.Goals as goal

at_none : (space : Space) → depth_of (record { points = 0; terms = 0 }) space ≡ none space
at_none Points = refl
at_none Terms = refl

same : depth_of (record { points = 0; terms = 0 }) ≡ none
same = λ i space. at_none space i

pub returns-clause-fits : goal.returns-clause-fits
returns-clause-fits c =
    let ns = c.args.pool.now.nodes in
    subst (λ (d : Depth). IfOk c.put.result (λ new. IsSome new ↔ IndicesBelow (2 ^ 32) (put c.args.space d (tree_of ns c.args.value) (tree_of ns c.args.body)))) same c.put.ensures.fits

pub returns-clause-tree : goal.returns-clause-tree
returns-clause-tree c =
    let ns = c.args.pool.now.nodes in
    subst (λ (d : Depth). IfOk c.put.result (λ new. IfSome new (λ id. tree_of c.put.new.pool.nodes id ≡ put c.args.space d (tree_of ns c.args.value) (tree_of ns c.args.body)))) same c.put.ensures.tree
