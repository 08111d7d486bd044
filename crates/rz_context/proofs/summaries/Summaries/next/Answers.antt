use Rattle.std.proofs.Common.{ℕ, ◌<◌, ◌≤◌, sym, subst, ◌∙◌}
use Rattle.rz_rules.specs.Tree.{Tree, tree_of}
use Rattle.rz_pool.specs.Entry.{entry_over}
use Rattle.rz_context.specs.Summary.{IsStart}
use Rattle.rz_context.proofs.Measures.{start-entry}
use Rattle.rz_context.proofs.summaries.Summaries.next.Goals as goal

pub returns-then-before-measure-2-clause-next : goal.returns-then-before-measure-2-clause-next
returns-then-before-measure-2-clause-next c nodes summaries last =
    let before = tree_of nodes c.args.last.before in
    let summary = summaries.each c.args.last.before c.at-else-far-at.result c.at-else-far-at.ensures in
    record {
      start = subst (λ (t : Tree). IsStart before t) (sym last.tree) (start-entry before (entry_over nodes c.args.last.entry));
      more = subst (λ (n : ℕ). c.args.before < n) (c.measure-else-far-at.ensures ∙ summary.measures c.args.by) c.if-before-measure-2.true;
    }

pub returns-then-before-measure-clause-next : goal.returns-then-before-measure-clause-next
returns-then-before-measure-clause-next c nodes summaries last =
    let far = summaries.each c.at-far.result.further_out c.at.result c.at.ensures in
    record {
      start = (summaries.each c.args.at c.at-far.result c.at-far.ensures).start;
      more = subst (λ (n : ℕ). c.args.before < n) (c.measure.ensures ∙ far.measures c.args.by) c.if-before-measure.true;
    }

pub returns-else-before-measure-2-clause-none : goal.returns-else-before-measure-2-clause-none
returns-else-before-measure-2-clause-none c nodes summaries =
    let summary = summaries.each c.args.last.before c.at-else-far-at.result c.at-else-far-at.ensures in
    subst (λ (n : ℕ). n ≤ c.args.before) (c.measure-else-far-at.ensures ∙ summary.measures c.args.by) c.if-before-measure-2.false
