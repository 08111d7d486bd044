use Rattle.std.proofs.Common.{◌≡◌, ◌<◌, length, true, subst}
use Rattle.std.specs.Prelude.{◌↔◌, IfOk}
use Rattle.std.proofs.lemmas.List.Elements.{All-head, All-tail}
use Rattle.rz_rules.specs.declared.judgments.Judgment.{Judgment}
use Rattle.rz_rules.specs.Derivation.{IsScoped}
use Rattle.rz_rules.specs.Judgment.{context_of, kind_of, parts_of, statement}
use Rattle.rz_rules.specs.Tree.{trees_in}
use Rattle.rz_context.proofs.Growing.{same_tree, same_trees}
use Rattle.rz_kernel_rows.specs.Line.{IsJudgmentOver}
use Rattle.rz_kernel_rows.proofs.Following.{no_premises, premises_low, step_iff}
use Rattle.rz_rule_text.proofs.Over.{IsStatement-over}
use Rattle.rz_kernel_rows.proofs.Spelled.{by_iff}
use Rattle.rz_kernel_rows.proofs.lines.follows_with.Goals as goal

pub returns-in_default-clause-follows : goal.returns-in_default-clause-follows
returns-in_default-clause-follows c =
    let ns = c.args.pool.now.nodes in
    let line = c.args.line.now in (
      λ wrong. absurd cc,
      λ follows. absurd (no_premises (trees_in ns) line.row line.number c.args.said.now line.from (statement (trees_in ns) line.says)
          (rw (c.in_default.is, c.as_slice.ensures) at c.in_ok-premises.ensures.none) follows),
    )

pub applies-requires-clause-premises : goal.applies-requires-clause-premises
applies-requires-clause-premises c =
    let ns = c.args.pool.now.nodes in
    let line = c.args.line.now in
    let P : Judgment → Type 0 = IsJudgmentOver ns in
    let named = rw (c.in-Some.is, c.as_slice.ensures) at c.in_ok-premises.ensures.found in
    premises_low P c.args.said.now c.in-Some.premises.items line.from c.requires.said named

pub returns-then-not-branch-clause-follows : goal.returns-then-not-branch-clause-follows
returns-then-not-branch-clause-follows c =
    let ns = c.args.pool.now.nodes in
    let line = c.args.line.now in
    let named = rw (c.in-Some.is, c.as_slice.ensures) at c.in_ok-premises.ensures.found in
    let trees = IsStatement-over ns c.in_ok-applies.ensures.pool.forms line.says c.requires.line in
    let step = step_iff (trees_in ns) line.row line.number line.says c.args.said.now c.in-Some.premises.items line.from trees named in (
      λ wrong. absurd cc,
      λ follows.
          let yes = c.in_ok-applies.ensures.applies.1 (step.1 follows).0 in
          let no = c.if-not-branch.true in
          absurd cc,
    )

pub returns-clause-follows : goal.returns-clause-follows
returns-clause-follows c =
    let ns = c.args.pool.now.nodes in
    let line = c.args.line.now in
    let r = c.is_scoped.result in
    let named = rw (c.in-Some.is, c.as_slice.ensures) at c.in_ok-premises.ensures.found in
    let trees = IsStatement-over ns c.in_ok-applies.ensures.pool.forms line.says c.requires.line in
    let step = step_iff (trees_in ns) line.row line.number line.says c.args.said.now c.in-Some.premises.items line.from trees named in
    let applies = c.in_ok-applies.ensures.applies.0 c.if-not-branch.false in
    let new = c.applies.new.pool.nodes in
    let grows = c.in_ok-applies.ensures.grows in
    let context = same_tree ns new grows (context_of line.says) (All-head (λ id. id < length ns) (context_of line.says) (parts_of line.says) c.requires.line.live) in
    let parts = same_trees ns new grows (parts_of line.says) (All-tail (λ id. id < length ns) (context_of line.says) (parts_of line.says) c.requires.line.live) in
    let scoped = subst (λ (A : Type 0). IfOk r (λ answer. (answer ≡ true) ↔ A)) (λ i. IsScoped (kind_of line.says) (context i) (parts i)) c.is_scoped.ensures.scoped in
    by_iff r (λ scoped. step.0 (applies, scoped), λ follows. (step.1 follows).1) scoped
