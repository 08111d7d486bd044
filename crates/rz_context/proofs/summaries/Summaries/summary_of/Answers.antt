use Rattle.std.proofs.Common.{sym, subst}
use Rattle.rz_rules.specs.Tree.{Tree, tree_of}
use Rattle.rz_pool.specs.Entry.{entry_over}
use Rattle.rz_context.specs.Summary.{IsStart}
use Rattle.rz_context.proofs.Measures.{cubes_with, measures-more, start-entry, start-start}
use Rattle.rz_context.proofs.summaries.Summaries.summary_of.Goals as goal

pub returns-clause-summary : goal.returns-clause-summary
returns-clause-summary c =
    let ns = c.args.pool.now.nodes in
    let last = c.in-Some.last in
    let is = c.in-Some.ensures.last in
    let before = c.requires.summaries.each last.before c.at-before.result c.at-before.ensures in
    record {
      measures = measures-more ns c.args.id last c.at-before.result (record { entries = c.in_ok-one_more.field-0; binds = c.in_ok-deeper.field-0; further_out = c.further_out.result; scope = c.scope_with.result }) is before.measures c.in_ok-one_more.ensures c.in_ok-deeper.ensures;
      cubes = cubes_with ns c.args.id last c.at-before.result.scope c.scope_with.result is before.cubes c.scope_with.ensures;
      start = start-start (tree_of ns c.further_out.result) (tree_of ns last.before) (tree_of ns c.args.id) (c.further_out.ensures.start ns c.requires.summaries)
          (subst (λ (t : Tree). IsStart (tree_of ns last.before) t) (sym is.tree) (start-entry (tree_of ns last.before) (entry_over ns last.entry)));
    }
