use Rattle.std.proofs.Common.{◌<◌, ◌^◌, IsSome, length, sym, subst, rules}
use Rattle.rz_rules.specs.Substitution.{IndicesBelow, shift}
use Rattle.rz_pool.proofs.Nodes.{KeepsTrees-Grows}
use Rattle.rz_tree_tests.proofs.substitutions.shift.Goals as goal

pub shift_points-requires-clause-indices : goal.shift_points-requires-clause-indices
shift_points-requires-clause-indices g c =
    let nodes = c.args.pool.now.nodes in
    let live : c.args.id < length nodes = search rules in
    let some : IsSome c.in_ok-new.new = search rules in
    let kept = KeepsTrees-Grows nodes c.shift.new.pool.nodes c.shift.ensures.grows c.args.id live in
    subst (IndicesBelow (2 ^ 32)) (λ i. shift (c.in-Points.is i) c.args.from c.args.by (sym kept i)) (c.in_ok-new.ensures.fits.0 some)

pub shift_terms-requires-clause-indices : goal.shift_terms-requires-clause-indices
shift_terms-requires-clause-indices g c =
    let nodes = c.args.pool.now.nodes in
    let live : c.args.id < length nodes = search rules in
    let some : IsSome c.in_ok-new.new = search rules in
    let kept = KeepsTrees-Grows nodes c.shift.new.pool.nodes c.shift.ensures.grows c.args.id live in
    subst (IndicesBelow (2 ^ 32)) (λ i. shift (c.in-Terms.is i) c.args.from c.args.by (sym kept i)) (c.in_ok-new.ensures.fits.0 some)
