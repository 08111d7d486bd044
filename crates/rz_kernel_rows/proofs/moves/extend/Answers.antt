use Rattle.std.proofs.Common.{ℕ, ◌∷◌, ◌++◌, ◌<◌, [], List, length, sym, subst}
use Rattle.rz_rules.specs.declared.kinds.Sort.TheVariants.{Context}
use Rattle.rz_pool.specs.declared.entries.Entry.{Entry}
use Rattle.rz_kernel_rows.specs.Context.{IsAt, IsEntryAt}
use Rattle.rz_kernel_rows.proofs.Extending.{IsAt-Grows, IsEntryAt-Grows, IsExtending, IsThere-Grows, entry_live, extended_more, no_context, with_id-at}
use Rattle.rz_kernel_rows.proofs.moves.extend.Goals as goal
use Rattle.rz_kernel_rows.proofs.moves.extend.Goals.{In-Some}

-- what was made so far, with the next entry apart
extending : (c : In-Some) → IsExtending c.args.pool.now.nodes c.loop-entry.pool.nodes c.args.change c.args.outer c.args.inner.now (c.in-Some.others.now ++ c.in-Some.entry.now ∷ []) c.loop-entry.context c.loop-entry.depth
extending c = subst (λ (left : List Entry). IsExtending c.args.pool.now.nodes c.loop-entry.pool.nodes c.args.change c.args.outer c.args.inner.now left c.loop-entry.context c.loop-entry.depth)
    c.in-Some.ensures.cases.0 c.loop-entry.invariant

live : (c : In-Some) → IsEntryAt c.loop-entry.pool.nodes c.in-Some.entry.now
live c =
    let old = c.args.pool.now.nodes in
    IsEntryAt-Grows old c.loop-entry.pool.nodes c.loop-entry.invariant.grows c.in-Some.entry.now
    (entry_live old c.loop-entry.pool.nodes c.args.change c.args.outer c.args.inner.now c.in-Some.others.now c.in-Some.entry.now c.loop-entry.context c.loop-entry.depth c.requires.inner (extending c))

pub change_tree-requires-clause-change : goal.change_tree-requires-clause-change
change_tree-requires-clause-change c = IsThere-Grows c.args.pool.now.nodes c.loop-entry.pool.nodes c.loop-entry.invariant.grows c.args.change c.requires.change

pub change_tree-requires-clause-live : goal.change_tree-requires-clause-live
change_tree-requires-clause-live c =
    subst (λ (id : ℕ). id < length c.loop-entry.pool.nodes) (sym c.tree.ensures) (live (goal.at.change_tree-requires-clause-live c).In-Some).0

pub returns-in_default-2-clause-none : goal.returns-in_default-2-clause-none
returns-in_default-2-clause-none c =
    let at = (goal.at.returns-in_default-2-clause-none c).In-Some in
    let now = c.loop-entry.pool.nodes in
    let high = rw (c.in_default-2.is, c.tree.ensures) at c.in_ok-tree.ensures.answer in
    no_context c.args.pool.now.nodes now c.args.change c.args.outer c.args.inner.now c.in-Some.others.now c.in-Some.entry.now c.loop-entry.context c.loop-entry.depth c.requires.inner (extending at)
    c.requires.change high

pub add_entry-requires-clause-context : goal.add_entry-requires-clause-context
add_entry-requires-clause-context c = IsAt-Grows c.loop-entry.pool.nodes c.change_tree.new.pool.nodes c.in_ok-tree.ensures.grows Context c.loop-entry.context c.loop-entry.invariant.there

pub add_entry-requires-clause-entry : goal.add_entry-requires-clause-entry
add_entry-requires-clause-entry c =
    let at = live (goal.at.add_entry-requires-clause-entry c).In-Some in
    let made = rw (c.in-Some-2.is, c.tree.ensures) at c.in_ok-tree.ensures.sort in
    let mid = c.change_tree.new.pool.nodes in
    subst (IsEntryAt mid) (sym c.with_tree.ensures)
    (with_id-at mid c.in-Some.entry.now c.in-Some-2.tree (subst (λ (s : _). IsAt mid s c.in-Some-2.tree) at.1 made))

pub loop-entry-preserved : goal.loop-entry-preserved
loop-entry-preserved c =
    let at = (goal.at.loop-entry-preserved c).In-Some in
    let now = c.loop-entry.pool.nodes in
    let mid = c.change_tree.new.pool.nodes in
    let answer = rw (c.in-Some-2.is, c.tree.ensures) at c.in_ok-tree.ensures.answer in
    let made = c.in_ok-context.ensures in
    extended_more c.args.pool.now.nodes now c.args.change c.args.outer c.args.inner.now c.in-Some.others.now c.in-Some.entry.now c.loop-entry.context c.loop-entry.depth c.requires.inner (extending at)
    c.requires.change mid c.add_entry.new.pool.nodes c.in-Some-2.tree answer.1 c.in_ok-tree.ensures.grows made.grows made.pool c.in_ok-context.context
    (rw c.with_tree.ensures at made.tree) made.there c.in_ok-depth.depth c.in_ok-depth.ensures
