use Rattle.std.proofs.Common.{◌∙◌, arith}
use Rattle.rz_rules.specs.Tree.{tree_of}
use Rattle.rz_context.specs.declared.summaries.Measure.TheVariants as measure
use Rattle.rz_context.proofs.Measures.{found_at, measured-start}
use Rattle.rz_context.proofs.summaries.Summaries.find.Goals as goal

pub overflow_sub-result : goal.overflow_sub-result
overflow_sub-result c =
    let ns = c.args.pool.now.nodes in
    let whole = (c.requires.summaries.each c.args.context c.at-whole.result c.at-whole.ensures).measures measure.Cubes in
    let outer = (c.requires.summaries.each c.in_ok-at.at c.at-outer.result c.at-outer.ensures).measures measure.Cubes in
    let more = measured-start measure.Cubes (tree_of ns c.in_ok-at.at) (tree_of ns c.args.context) c.in_ok-at.ensures.behind.start in
    omega (arith, whole, outer, more)

pub overflow_sub-result-2 : goal.overflow_sub-result-2
overflow_sub-result-2 c =
    let ns = c.args.pool.now.nodes in
    let whole = (c.requires.summaries.each c.args.context c.at-whole.result c.at-whole.ensures).measures measure.Terms in
    let outer = (c.requires.summaries.each c.in_ok-at.at c.at-outer.result c.at-outer.ensures).measures measure.Terms in
    let more = measured-start measure.Terms (tree_of ns c.in_ok-at.at) (tree_of ns c.args.context) c.in_ok-at.ensures.behind.start in
    omega (arith, whole, outer, more)

pub returns-clause-found : goal.returns-clause-found
returns-clause-found c =
    let whole = c.requires.summaries.each c.args.context c.at-whole.result c.at-whole.ensures in
    let outer = c.requires.summaries.each c.in_ok-at.at c.at-outer.result c.at-outer.ensures in
    let count = c.measure-count.ensures ∙ whole.measures c.args.by in
    found_at c.args.pool.now.nodes c.args.context c.args.by c.args.number c.in_ok-at.at c.in_ok-at.last c.at-whole.result c.at-outer.result whole.measures outer.measures c.measure-count.result count (omega (arith, c.if-count-number.false)) c.in_ok-at.ensures.behind

pub returns-then-count-number-clause-none : goal.returns-then-count-number-clause-none
returns-then-count-number-clause-none c =
    let whole = c.requires.summaries.each c.args.context c.at-whole.result c.at-whole.ensures in
    omega (arith, c.if-count-number.true, c.measure-count.ensures, whole.measures c.args.by)

pub entry_behind-requires-clause-there : goal.entry_behind-requires-clause-there
entry_behind-requires-clause-there c =
    let whole = c.requires.summaries.each c.args.context c.at-whole.result c.at-whole.ensures in
    omega (arith, c.if-count-number.false, c.measure-count.ensures, whole.measures c.args.by)
