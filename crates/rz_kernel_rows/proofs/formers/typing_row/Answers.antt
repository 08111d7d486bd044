use Rattle.rz_rules.specs.Tree.{kind_at, tree_of}
use Rattle.rz_rules.specs.Table.{rule_of}
use Rattle.rz_kernel_rows.proofs.Typed.{are_letters, are_typing, no_subject, said_none, said_typed, too_high}
use Rattle.rz_rule_text.specs.Spelling.{AreLetters}
use Rattle.rz_kernel_rows.proofs.formers.typing_row.Goals as goal
use Rattle.rz_kernel_rows.proofs.formers.typing_row.Goals.{In-Some}

pub returns-in_default-clause-none : goal.returns-in_default-clause-none
returns-in_default-clause-none c =
    no_subject c.args.pool.now.nodes c.args.context c.args.term c.args.row c.requires.row (rw (c.in_default.is, c.text.ensures) at c.in_ok-finding.ensures.none)

are : (c : In-Some) → AreLetters c.args.pool.now.nodes (rule_of c.args.row).text c.in-Some.finding.letters.items c.in-Some.finding.name
are c =
    let facts = rw (c.in-Some.is, c.text.ensures) at c.in_ok-finding.ensures in
    are_letters c.args.pool.now.nodes (kind_at (tree_of c.args.pool.now.nodes c.args.term)) c.args.row c.requires.row c.in-Some.finding.letters.items c.in-Some.finding.name facts.there facts.letters facts.name

pub spell-requires-clause-letters : goal.spell-requires-clause-letters
spell-requires-clause-letters c =
    rw (c.text-2.ensures, c.deref.ensures.value) (are (goal.at.spell-requires-clause-letters c).In-Some)

pub returns-clause-typed : goal.returns-clause-typed
returns-clause-typed c =
    let ns = c.args.pool.now.nodes in
    let at = (goal.at.returns-clause-typed c).In-Some in
    let facts = rw (c.in-Some.is, c.text.ensures) at c.in_ok-finding.ensures in
    let made = rw (c.text-2.ensures, c.deref.ensures.value) at c.spell.ensures in
    said_typed c.spell.result _ _ _
    (λ said spells over. are_typing ns c.args.context c.args.term c.args.row c.requires.row c.in-Some.finding.letters.items c.in-Some.finding.name facts.finds (are at) c.requires.pool
    c.spell.new.pool.nodes made.pool said.items spells over)
    made.spells made.over

pub returns-clause-none : goal.returns-clause-none
returns-clause-none c =
    let ns = c.args.pool.now.nodes in
    let at = (goal.at.returns-clause-none c).In-Some in
    let facts = rw (c.in-Some.is, c.text.ensures) at c.in_ok-finding.ensures in
    let made = rw (c.text-2.ensures, c.deref.ensures.value) at c.spell.ensures in
    said_none c.spell.result _ _
    (too_high ns c.args.context c.args.term c.args.row c.requires.row c.in-Some.finding.letters.items c.in-Some.finding.name facts.finds (are at))
    made.none
