use Rattle.rz_rules.specs.Tree.{tree_of}
use Rattle.rz_rules.specs.Substitution.{none, putting}
use Rattle.rz_pool.specs.Counts.{depth_of}
use Rattle.rz_subst.specs.Sorts.{KeepsSorts-putting, sort_changed}
use Rattle.rz_subst.proofs.Answering.{fits, has_sort}
use Rattle.rz_subst.proofs.changes.put.Goals as goal

pub returns-clause-fits : goal.returns-clause-fits
returns-clause-fits c = fits c.rebuild.new.pool.nodes c.rebuild.ensures.pool c.rebuild.result _ c.rebuild.ensures.answer

pub returns-clause-sort : goal.returns-clause-sort
returns-clause-sort c =
    let nodes = c.args.pool.now.nodes in
    let value = tree_of nodes c.args.value in
    let body = tree_of nodes c.args.body in
    let at = depth_of c.args.at in
    has_sort c.rebuild.new.pool.nodes c.rebuild.ensures.pool c.rebuild.result _ c.rebuild.ensures.answer body
    (sort_changed (putting c.args.space at value) (KeepsSorts-putting c.args.space at value c.requires.sort) none body)
