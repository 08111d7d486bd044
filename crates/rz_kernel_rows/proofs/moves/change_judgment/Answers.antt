use Rattle.std.proofs.Common.{ℕ, ◌<◌, ◌^◌, List, All, length, map, ap, sym, subst, ◌∙◌}
use Rattle.rz_rules.specs.declared.kinds.Sort.TheVariants.{Context}
use Rattle.rz_rules.specs.Tree.{Tree, tree_of, trees_in}
use Rattle.rz_rules.specs.Judgment.{parts_of, statement}
use Rattle.rz_rules.specs.Structural.{changed_statement}
use Rattle.rz_rules.specs.Substitution.{Depth, IndicesBelow, changed}
use Rattle.rz_pool.specs.Counts.{depth_of as depth_of_counts}
use Rattle.rz_pool.proofs.Nodes.{KeepsTrees-Grows}
use Rattle.rz_kernel_rows.specs.Context.{entries_over}
use Rattle.rz_kernel_rows.specs.Move.{changes_of}
use Rattle.rz_kernel_rows.proofs.Extending.{IsAt-Grows, IsThere-Grows, same_changes}
use Rattle.rz_kernel_rows.proofs.Judged.{IsJudgmentOver-parts, moved_answer, no_parts, parts_live}
use Rattle.rz_kernel_rows.proofs.moves.change_judgment.Goals as goal

pub change_parts-requires-clause-change : goal.change_parts-requires-clause-change
change_parts-requires-clause-change c = IsThere-Grows c.args.pool.now.nodes c.extend.new.pool.nodes c.in_ok-extended.ensures.grows c.args.change c.requires.change

pub change_parts-requires-clause-live : goal.change_parts-requires-clause-live
change_parts-requires-clause-live c =
    let old = c.args.pool.now.nodes in
    let mid = c.extend.new.pool.nodes in
    subst (λ (ids : List ℕ). All (λ id. id < length mid) ids) (sym (c.as_slice.ensures.value ∙ c.parts-parts.ensures))
    (parts_live old mid c.in_ok-extended.ensures.grows c.args.says c.requires.says)

pub returns-in-Some-parts-clause-answer : goal.returns-in-Some-parts-clause-answer
returns-in-Some-parts-clause-answer c =
    let old = c.args.pool.now.nodes in
    let mid = c.extend.new.pool.nodes in
    let new = c.change_parts.new.pool.nodes in
    let extended = rw c.in-Some.is at c.in_ok-extended.ensures.extended in
    let made = rw (c.in-Some-parts.is, c.as_slice.ensures.value, c.parts-parts.ensures) at c.in_ok-parts.ensures.parts in
    let grows = c.in_ok-extended.ensures.grows in
    let inner = entries_over old c.args.inner.now in
    let low = IsJudgmentOver-parts old c.args.says c.requires.says in
    moved_answer old new c.args.change c.requires.change (tree_of old c.args.outer) inner c.args.says c.requires.says c.in-Some.extended.context
    (IsAt-Grows mid new c.in_ok-parts.ensures.grows Context c.in-Some.extended.context extended.there)
    (KeepsTrees-Grows mid new c.in_ok-parts.ensures.grows c.in-Some.extended.context extended.there.0 ∙ extended.tree)
    c.in-Some-parts.parts made.0
    (made.1 ∙ same_changes old mid grows c.args.change c.requires.change (depth_of_counts c.in-Some.extended.depth) (parts_of c.args.says) low
    ∙ ap (λ (d : Depth). map (changed (changes_of old c.args.change) d) (map (tree_of old) (parts_of c.args.says))) extended.depth)
    c.of.result (rw (c.kind.ensures, c.as_slice-in-Some-parts.ensures.value) at c.of.ensures.only)

pub returns-in-None-clause-answer : goal.returns-in-None-clause-answer
returns-in-None-clause-answer c =
    let old = c.args.pool.now.nodes in
    let mid = c.extend.new.pool.nodes in
    let extended = rw c.in-Some.is at c.in_ok-extended.ensures.extended in
    let high = rw (c.in-None.is, c.as_slice.ensures.value, c.parts-parts.ensures) at c.in_ok-parts.ensures.parts in
    let low = IsJudgmentOver-parts old c.args.says c.requires.says in
    no_parts (changed_statement (changes_of old c.args.change) (tree_of old c.args.outer) (entries_over old c.args.inner.now) (statement (trees_in old) c.args.says))
    (subst (λ (ts : List Tree). All (IndicesBelow (2 ^ 32)) ts → ⊥)
    (same_changes old mid c.in_ok-extended.ensures.grows c.args.change c.requires.change (depth_of_counts c.in-Some.extended.depth) (parts_of c.args.says) low
    ∙ ap (λ (d : Depth). map (changed (changes_of old c.args.change) d) (map (tree_of old) (parts_of c.args.says))) extended.depth)
    high)
