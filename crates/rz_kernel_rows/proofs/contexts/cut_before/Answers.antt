use Rattle.std.proofs.Common.{◌<◌, List, All, length, ap, subst, sym, ◌∙◌, arith}
use Rattle.std.proofs.lemmas.List.{length_push}
use Rattle.std.proofs.lemmas.List.Elements.{All-push}
use Rattle.rz_rules.specs.Tree.{tree_of}
use Rattle.rz_rules.specs.Context.{with_entries}
use Rattle.rz_pool.specs.declared.entries.Entry.{Entry}
use Rattle.rz_kernel_rows.specs.Context.{IsEntryAt, entries_over}
use Rattle.rz_kernel_rows.proofs.Entries.{cut_more, no_cut}
use Rattle.rz_kernel_rows.proofs.contexts.cut_before.Goals as goal

pub returns-in_default-clause-none : goal.returns-in_default-clause-none
returns-in_default-clause-none c =
    no_cut c.args.pool.now.nodes c.args.context c.loop-taken.outer c.loop-taken.inner.items c.loop-taken.invariant.tree c.args.count c.in_default.ensures.none
    (omega (arith, c.loop-taken.invariant.counted, c.loop-taken-test.true))

pub loop-taken-preserved : goal.loop-taken-preserved
loop-taken-preserved c =
    let ns = c.args.pool.now.nodes in
    let inner = c.loop-taken.inner.items in
    let last = c.in-Some.last in
    let items = c.in_ok-push.ensures.items in
    record {
      there = last_low;
      tree = cut_more ns c.args.context c.loop-taken.outer inner c.loop-taken.invariant.tree last c.in-Some.ensures.last ∙ sym (ap (λ (es : List Entry). with_entries (tree_of ns last.before) (entries_over ns es)) items);
      counted = omega (arith, ap length items, length_push inner last.entry, c.loop-taken.invariant.counted);
      live = subst (All (IsEntryAt ns)) (sym items) (All-push (IsEntryAt ns) inner last.entry c.loop-taken.invariant.live c.in-Some.ensures.last.entry);
    } where
      last_low : c.in-Some.last.before < length c.args.pool.now.nodes
      last_low = c.in-Some.ensures.last.before.0
