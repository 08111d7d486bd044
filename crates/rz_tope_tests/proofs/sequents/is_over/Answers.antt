use Rattle.std.proofs.Common.{sym, subst}
use Rattle.rz_rules.specs.Cube.{binders_of}
use Rattle.rz_rules.specs.Tope.{IsTopeOver}
use Rattle.rz_rules.specs.Tree.{Tree, tree_of}
use Rattle.rz_pool.proofs.Nodes.{KeepsTrees-Grows}
use Rattle.rz_tope_tests.proofs.sequents.is_over.Goals as goal

pub returns-clause-over : goal.returns-clause-over
returns-clause-over c so =
    let old = c.args.pool.now.nodes in
    let new = c.is_over-answer.new.pool.nodes in
    let grows = c.is_over-answer.ensures.grows in
    let context = KeepsTrees-Grows old new grows c.args.context c.requires.context in
    let tope = KeepsTrees-Grows old new grows c.args.tope c.requires.tope in
    subst (λ (t : Tree). IsTopeOver (binders_of t) (tree_of new c.args.tope)) (sym context)
    (subst (IsTopeOver (binders_of (tree_of old c.args.context))) (sym tope) (c.in_ok-yes.ensures.over.0 so))
