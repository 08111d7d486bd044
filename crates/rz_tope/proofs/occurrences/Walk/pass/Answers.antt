use Rattle.std.proofs.Common.{◌≡◌, sym, subst}
use Rattle.rz_rules.specs.Context.{with_entry}
use Rattle.rz_rules.specs.Tree.{tree_of}
use Rattle.rz_pool.specs.declared.entries.Entry.{Entry}
use Rattle.rz_pool.specs.Entry.{entry_over}
use Rattle.rz_tope.specs.declared.occurrences.Walk.{Walk}
use Rattle.rz_tope.specs.Walk.{IsWalk}
use Rattle.rz_tope.proofs.Walking.{IsWalk-point, IsWalk-tope, IsWalk-term}
use Rattle.rz_tope.proofs.occurrences.Walk.pass.Goals as goal
use Rattle.rz_tope.proofs.occurrences.Walk.pass.Goals.{in-Cube, in-Tope+in_ok-self-in-Tope, in-Term}

pub returns-clause-walk : goal.returns-clause-walk
returns-clause-walk c whole is =
    let ns = c.args.pool.now.nodes in
    let entries = c.args.entries.now in
    let before = c.args.last.before in
    let old = c.args.self.now in
    let lower = c.requires.lower in
    let Passed : Walk → Type 0 = λ (walk : Walk). IsWalk ns entries whole (record { at = before; behind = walk.behind; list = walk.list }) in
    let Last : Entry → Type 0 = λ (entry : Entry). tree_of ns old.at ≡ with_entry (tree_of ns before) (entry_over ns entry) in
    let last = c.requires.last.tree in
    elim c.match-last.branch [
      | in-Cube w ↦ subst Passed (sym w.self-is) (IsWalk-point ns entries whole old is before lower (tree_of ns w.in-Cube.field-0) (subst Last w.in-Cube.is last))
      | in-Tope+in_ok-self-in-Tope w ↦ subst Passed (sym w.self-is) (IsWalk-tope ns entries whole old is before lower w.in-Tope.tope (subst Last w.in-Tope.is last) w.in_ok-self-in-Tope.field-0 w.in_ok-self-in-Tope.ensures.list)
      | in-Term w ↦ subst Passed (sym w.self-is) (IsWalk-term ns entries whole old is before lower (tree_of ns w.in-Term.field-0) (subst Last w.in-Term.is last))
    ]
