use Rattle.std.proofs.Common.{IfOk, ap, subst}
use Rattle.rz_rules.specs.Tree.{Tree, tree_of}
use Rattle.rz_rules.specs.Substitution.{Changes, changed, none, only}
use Rattle.rz_pool.specs.Counts.{depth_of}
use Rattle.rz_subst.specs.Walk.{IsAnswerOf}
use Rattle.rz_subst.proofs.Answering.{raising_along, fits, is_tree}
use Rattle.rz_subst.proofs.changes.shift.Goals as goal

pub returns-clause-fits : goal.returns-clause-fits
returns-clause-fits c =
    let tree = tree_of c.args.pool.now.nodes c.args.id in
    let new = c.rebuild.new.pool.nodes in
    let same = raising_along (depth_of c.only.result) (depth_of c.only-2.result) (only c.args.space c.args.from) (only c.args.space c.args.by) c.only.ensures c.only-2.ensures in
    fits new c.rebuild.ensures.pool c.rebuild.result _
    (subst (λ (t : Tree). IfOk c.rebuild.result (IsAnswerOf new t)) (ap (λ (changes : Changes). changed changes none tree) same) c.rebuild.ensures.answer)

pub returns-clause-tree : goal.returns-clause-tree
returns-clause-tree c =
    let tree = tree_of c.args.pool.now.nodes c.args.id in
    let new = c.rebuild.new.pool.nodes in
    let same = raising_along (depth_of c.only.result) (depth_of c.only-2.result) (only c.args.space c.args.from) (only c.args.space c.args.by) c.only.ensures c.only-2.ensures in
    is_tree new c.rebuild.ensures.pool c.rebuild.result _
    (subst (λ (t : Tree). IfOk c.rebuild.result (IsAnswerOf new t)) (ap (λ (changes : Changes). changed changes none tree) same) c.rebuild.ensures.answer)
