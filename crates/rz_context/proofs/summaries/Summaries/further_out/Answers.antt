use Rattle.rz_rules.specs.Tree.{tree_of}
use Rattle.rz_context.proofs.Measures.{start-start}
use Rattle.rz_context.proofs.summaries.Summaries.further_out.Goals as goal

pub returns-then-eq-clause-start : goal.returns-then-eq-clause-start
returns-then-eq-clause-start c nodes summaries =
    let near = c.at-near.result in
    let far = c.at-far.result in
    start-start (tree_of nodes far.further_out) (tree_of nodes near.further_out) (tree_of nodes c.args.id)
    (summaries.each near.further_out far c.at-far.ensures).start (summaries.each c.args.id near c.at-near.ensures).start
