use Rattle.std.proofs.Common.{◌≡◌, ◌<◌, ◌^◌, IsSome, length, sym, ap, subst, ◌∙◌, rules}
use Rattle.rz_rules.specs.declared.kinds.Sort.TheVariants.{Point, Term}
use Rattle.rz_rules.specs.Tree.{sort_of, tree_of}
use Rattle.rz_rules.specs.Substitution.{IndicesBelow, put}
use Rattle.rz_pool.proofs.Nodes.{KeepsTrees-Grows}
use Rattle.rz_subst.proofs.Places.{depth_top}
use Rattle.rz_tree_tests.proofs.substitutions.put.Goals as goal

pub put_point-requires-clause-sort : goal.put_point-requires-clause-sort
put_point-requires-clause-sort g c =
    let nodes = c.args.pool.now.nodes in
    let value : c.args.value < length nodes = search rules in
    let sort : sort_of (tree_of nodes c.args.value) ≡ Point = search rules in
    ap sort_of (KeepsTrees-Grows nodes c.put.new.pool.nodes c.put.ensures.grows c.args.value value) ∙ sort

pub put_point-requires-clause-indices : goal.put_point-requires-clause-indices
put_point-requires-clause-indices g c =
    let nodes = c.args.pool.now.nodes in
    let kept = KeepsTrees-Grows nodes c.put.new.pool.nodes c.put.ensures.grows in
    let value : c.args.value < length nodes = search rules in
    let body : c.args.body < length nodes = search rules in
    let some : IsSome c.in_ok-new-in-Points.new = search rules in
    subst (IndicesBelow (2 ^ 32)) (λ i. put (c.in-Points.is i) (depth_top 0 i) (sym (kept c.args.value value) i) (sym (kept c.args.body body) i))
    (c.in_ok-new-in-Points.ensures.fits.0 some)

pub put_term-requires-clause-sort : goal.put_term-requires-clause-sort
put_term-requires-clause-sort g c =
    let nodes = c.args.pool.now.nodes in
    let value : c.args.value < length nodes = search rules in
    let sort : sort_of (tree_of nodes c.args.value) ≡ Term = search rules in
    ap sort_of (KeepsTrees-Grows nodes c.put-in-Terms.new.pool.nodes c.put-in-Terms.ensures.grows c.args.value value) ∙ sort

pub put_term-requires-clause-indices : goal.put_term-requires-clause-indices
put_term-requires-clause-indices g c =
    let nodes = c.args.pool.now.nodes in
    let kept = KeepsTrees-Grows nodes c.put-in-Terms.new.pool.nodes c.put-in-Terms.ensures.grows in
    let value : c.args.value < length nodes = search rules in
    let body : c.args.body < length nodes = search rules in
    let some : IsSome c.in_ok-new-in-Terms.new = search rules in
    subst (IndicesBelow (2 ^ 32)) (λ i. put (c.in-Terms.is i) (depth_top 0 i) (sym (kept c.args.value value) i) (sym (kept c.args.body body) i))
    (c.in_ok-new-in-Terms.ensures.fits.0 some)
