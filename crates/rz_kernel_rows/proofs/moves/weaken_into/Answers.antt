use Rattle.std.proofs.Common.{◌≡◌, ◌∷◌, [], sym, ap, subst, ◌∙◌, arith}
use Rattle.std.specs.Prelude.{◌↔◌}
use Rattle.rz_rules.specs.Tree.{tree_of, trees_in}
use Rattle.rz_rules.specs.Judgment.{IsStatement, Statement, context_of, statement}
use Rattle.rz_rules.specs.Structural.{IsWeakening, changed_statement, formed}
use Rattle.rz_rules.specs.Substitution.{Changes}
use Rattle.rz_pool.proofs.Nodes.{KeepsTrees-Grows, length-Grows}
use Rattle.rz_kernel_rows.specs.Context.{entries_over, entry_over}
use Rattle.rz_kernel_rows.specs.Move.{changes_of}
use Rattle.rz_kernel_rows.proofs.Entries.{counted}
use Rattle.rz_kernel_rows.proofs.Moving.{no_entry_after, not_cut_after, other_outer, weakened_iff}
use Rattle.rz_kernel_rows.proofs.moves.weaken_into.Goals as goal
use Rattle.rz_kernel_rows.proofs.moves.weaken_into.Goals.{In-Some-2, In_ok-says}

pub returns-in_default-clause-concludes : goal.returns-in_default-clause-concludes
returns-in_default-clause-concludes c says is h =
    let ns = c.args.pool.now.nodes in
    let none_there = rw c.in_default.is at c.in_ok-after.ensures.none in
    not_cut_after c.args.number (statement (trees_in ns) c.args.premise) (tree_of ns c.args.context) none_there says h

pub returns-in_default-last_entry-clause-concludes : goal.returns-in_default-last_entry-clause-concludes
returns-in_default-last_entry-clause-concludes c says is h =
    let ns = c.args.pool.now.nodes in
    let cut = rw c.in-Some.is at c.in_ok-after.ensures.cut in
    no_entry_after c.args.number (statement (trees_in ns) c.args.premise) (tree_of ns c.args.context) (tree_of ns c.in-Some.after.outer) (entries_over ns c.in-Some.after.inner.items) cut.tree
    (counted ns c.in-Some.after.inner.items c.args.number cut.counted) c.in_default-last_entry.ensures.none says h

pub returns-then-before-last-clause-concludes : goal.returns-then-before-last-clause-concludes
returns-then-before-last-clause-concludes c says is h =
    let ns = c.args.pool.now.nodes in
    let after = rw c.in-Some.is at c.in_ok-after.ensures.cut in
    let before = rw (c.in-Some-2.is, c.context.ensures) at c.in_ok-before.ensures.cut in
    let last = c.in-Some-last_entry.last in
    let at = c.in-Some-last_entry.ensures.last in
    other_outer c.args.number (statement (trees_in ns) c.args.premise) (tree_of ns c.args.context)
    (tree_of ns c.in-Some.after.outer) (entries_over ns c.in-Some.after.inner.items) after.tree (counted ns c.in-Some.after.inner.items c.args.number after.counted)
    (tree_of ns last.before) (entry_over ns last.entry) at.tree (tree_of ns c.in-Some-2.before.outer) (entries_over ns c.in-Some-2.before.inner.items) before.tree
    (counted ns c.in-Some-2.before.inner.items c.args.number before.counted)
    (λ same. c.if-before-last.true (c.requires.pool.shared c.in-Some-2.before.outer last.before before.outer at.before.0 same)) says h

pub change_judgment-requires-clause-change : goal.change_judgment-requires-clause-change
change_judgment-requires-clause-change c = c.opening-change.ensures.there c.args.pool.now.nodes

-- the conclusion is what becomes of the judgment, in the context that is formed
iff : (c : In_ok-says) (says : Statement) → IsWeakening c.args.number (statement (trees_in c.args.pool.now.nodes) c.args.premise ∷ formed (tree_of c.args.pool.now.nodes c.args.context) ∷ []) says
    ↔ ((says ≡ changed_statement (changes_of c.args.pool.now.nodes c.opening-change.result) (tree_of c.args.pool.now.nodes c.in-Some.after.outer) (entries_over c.args.pool.now.nodes c.in-Some-2.before.inner.items)
    (statement (trees_in c.args.pool.now.nodes) c.args.premise)) × (says.context ≡ tree_of c.args.pool.now.nodes c.args.context))
iff c says =
    let ns = c.args.pool.now.nodes in
    let after = rw c.in-Some.is at c.in_ok-after.ensures.cut in
    let before = rw (c.in-Some-2.is, c.context.ensures) at c.in_ok-before.ensures.cut in
    let last = c.in-Some-last_entry.last in
    let at = c.in-Some-last_entry.ensures.last in
    let both = weakened_iff c.args.number (statement (trees_in ns) c.args.premise) (tree_of ns c.args.context)
    (tree_of ns c.in-Some.after.outer) (entries_over ns c.in-Some.after.inner.items) after.tree (counted ns c.in-Some.after.inner.items c.args.number after.counted)
    (tree_of ns last.before) (entry_over ns last.entry) at.tree (tree_of ns c.in-Some-2.before.outer) (entries_over ns c.in-Some-2.before.inner.items) before.tree
    (counted ns c.in-Some-2.before.inner.items c.args.number before.counted) (ap (tree_of ns) c.if-before-last.false) says in
    subst (λ (changes : Changes). IsWeakening c.args.number (statement (trees_in ns) c.args.premise ∷ formed (tree_of ns c.args.context) ∷ []) says
    ↔ ((says ≡ changed_statement changes (tree_of ns c.in-Some.after.outer) (entries_over ns c.in-Some-2.before.inner.items) (statement (trees_in ns) c.args.premise)) × (says.context ≡ tree_of ns c.args.context)))
    (sym (c.opening-change.ensures.changes ns)) both

pub returns-in_default-says-clause-concludes : goal.returns-in_default-says-clause-concludes
returns-in_default-says-clause-concludes c says is h =
    let at = (goal.at.returns-in_default-says-clause-concludes c).In_ok-says in
    let none_there = rw (c.in_default-says.is, c.deref.ensures.value) at c.in_ok-says.ensures.answer in
    none_there (subst IsStatement ((iff at says).0 h).0 is)

pub returns-then-are_same-clause-concludes : goal.returns-then-are_same-clause-concludes
returns-then-are_same-clause-concludes c =
    let ns = c.args.pool.now.nodes in
    let new = c.change_judgment.new.pool.nodes in
    let at = (goal.at.returns-then-are_same-clause-concludes c).In_ok-says in
    let made = rw (c.in-Some-says.is, c.deref.ensures.value) at c.in_ok-says.ensures.answer in
    let ids = sym c.context-2.ensures ∙ c.are_same.ensures.same.0 c.if-are_same.true in
    let context = ap (tree_of new) ids ∙ KeepsTrees-Grows ns new c.in_ok-says.ensures.grows c.args.context c.requires.context.0 in
    (made.0, λ says. (λ h. ((iff at says).0 h).0 ∙ sym made.1, λ e. (iff at says).1 (e ∙ made.1, ap (λ (s : Statement). s.context) e ∙ context)))

pub returns-clause-concludes : goal.returns-clause-concludes
returns-clause-concludes c says is h =
    let ns = c.args.pool.now.nodes in
    let new = c.change_judgment.new.pool.nodes in
    let at = (goal.at.returns-clause-concludes c).In_ok-says in
    let made = rw (c.in-Some-says.is, c.deref.ensures.value) at c.in_ok-says.ensures.answer in
    let both = (iff at says).0 h in
    let grows = c.in_ok-says.ensures.grows in
    let trees : tree_of new (context_of c.in-Some-says.says) ≡ tree_of new c.args.context =
    ap (λ (s : Statement). s.context) (made.1 ∙ sym both.0) ∙ both.1 ∙ sym (KeepsTrees-Grows ns new grows c.args.context c.requires.context.0) in
    let ids = c.in_ok-says.ensures.pool.shared (context_of c.in-Some-says.says) c.args.context (made.0.live 0 0 (omega arith)) (omega (arith, c.requires.context.0, length-Grows ns new grows)) trees in
    let yes = c.are_same.ensures.same.1 (c.context-2.ensures ∙ ids) in
    let no = c.if-are_same.false in
    absurd cc
