use Rattle.rz_rules.specs.Tree.{tree_of, trees_in}
use Rattle.rz_rules.specs.Judgment.{statement}
use Rattle.rz_kernel_rows.specs.Context.{entries_over, entry_over}
use Rattle.rz_kernel_rows.specs.Move.{changes_of}
use Rattle.rz_kernel_rows.proofs.Entries.{counted}
use Rattle.rz_kernel_rows.proofs.Judged.{concluded}
use Rattle.rz_kernel_rows.proofs.Moving.{not_removed, nothing_there, removed_iff}
use Rattle.rz_kernel_rows.proofs.moves.remove_from.Goals as goal

pub returns-in_default-clause-concludes : goal.returns-in_default-clause-concludes
returns-in_default-clause-concludes c says is h =
    let ns = c.args.pool.now.nodes in
    let none_there = rw (c.in_default.is, c.context.ensures) at c.in_ok-split.ensures.none in
    nothing_there c.args.scheme c.requires.scheme c.args.number (statement (trees_in ns) c.args.premise) (statement (trees_in ns) c.args.allowed) none_there says h

pub returns-in_default-removal-clause-concludes : goal.returns-in_default-removal-clause-concludes
returns-in_default-removal-clause-concludes c says is h =
    let ns = c.args.pool.now.nodes in
    let split = rw (c.in-Some.is, c.context.ensures) at c.in_ok-split.ensures.split in
    let at = c.in-Some.split.at in
    not_removed c.args.scheme c.requires.scheme c.args.number (statement (trees_in ns) c.args.premise) (statement (trees_in ns) c.args.allowed)
    (tree_of ns at.before) (entry_over ns at.entry) (entries_over ns c.in-Some.split.inner.items) split.cut.tree (counted ns c.in-Some.split.inner.items c.args.number split.counted) c.in_default-removal.ensures.none says h

pub returns-clause-concludes : goal.returns-clause-concludes
returns-clause-concludes c =
    let ns = c.args.pool.now.nodes in
    let split = rw (c.in-Some.is, c.context.ensures) at c.in_ok-split.ensures.split in
    let at = c.in-Some.split.at in
    concluded c.change_judgment.result c.change_judgment.new.pool.nodes _ _
    (removed_iff c.args.scheme c.requires.scheme c.args.number (statement (trees_in ns) c.args.premise) (statement (trees_in ns) c.args.allowed)
    (tree_of ns at.before) (entry_over ns at.entry) (entries_over ns c.in-Some.split.inner.items) split.cut.tree (counted ns c.in-Some.split.inner.items c.args.number split.counted) (changes_of ns c.in-Some-removal.change) c.in-Some-removal.ensures.removes.removes)
    (rw c.deref.ensures.value at c.change_judgment.ensures.answer)
