use Rattle.std.proofs.Common.{◌≡◌, ℕ, List, Option, true, All, sym, subst}
use Rattle.std.specs.Prelude.{◌↔◌, IfOk}
use Rattle.rz_rules.specs.declared.nodes.Node.{Node}
use Rattle.rz_rules.specs.declared.symbols.Condition.{Condition}
use Rattle.rz_rules.specs.Derivation.{IsMet}
use Rattle.rz_rules.specs.Table.{rule_of}
use Rattle.rz_context.specs.Knowledge.{IsKnown}
use Rattle.rz_rule_text.specs.Letters.{IsFound, assignment_of}
use Rattle.rz_kernel_rows.specs.Line.{letters_of}
use Rattle.rz_kernel_rows.proofs.Spelled.{by_iff, conditions_found, letters_are, met_iff, not_spelled, restored}
use Rattle.rz_kernel_rows.proofs.lines.is_instance.Goals as goal

pub is_spelled-spelled-requires-clause-letters : goal.is_spelled-spelled-requires-clause-letters
is_spelled-spelled-requires-clause-letters c =
    let facts = rw (c.in-Some.is, c.text.ensures) at c.in_ok-finding.ensures in
    letters_are c.args.pool.now.nodes c.args.row c.in-Some.finding.letters.items c.in-Some.finding.name facts.there facts.letters facts.name

pub returns-then-not-branch-clause-instance : goal.returns-then-not-branch-clause-instance
returns-then-not-branch-clause-instance c =
    let ns = c.args.pool.now.nodes in
    let facts = rw (c.in-Some.is, c.text.ensures) at c.in_ok-finding.ensures in
    let are = letters_are ns c.args.row c.in-Some.finding.letters.items c.in-Some.finding.name facts.there facts.letters facts.name in (
      λ wrong. absurd cc,
      λ h. absurd (not_spelled ns c.args.row c.in-Some.finding.letters.items c.in-Some.finding.name c.args.judgments.now c.mark-mark.ensures.pool are facts.finds
          (λ instance. let wrong = c.in_ok-spelled.ensures.spelled.1 instance in let no_such = c.if-not-branch.true in cc) h),
    )

pub are_met-requires : goal.are_met-requires
are_met-requires c =
    let ns = c.args.pool.now.nodes in
    let facts = rw (c.in-Some.is, c.text.ensures) at c.in_ok-finding.ensures in
    let are = letters_are ns c.args.row c.in-Some.finding.letters.items c.in-Some.finding.name facts.there facts.letters facts.name in
    let same = restored ns c.is_spelled-spelled.new.pool.nodes c.release.new.self.nodes c.mark-mark.result c.mark-mark.ensures.mark c.is_spelled-spelled.ensures.grows c.release.ensures.nodes in
    record {
      found = subst (λ (conditions : List Condition). All (λ condition. All (IsFound c.release.new.self.nodes c.deref.result.now) (letters_of condition)) conditions) (sym c.conditions.ensures)
          (subst (λ (letters : List (Option ℕ)). All (λ condition. All (IsFound c.release.new.self.nodes letters) (letters_of condition)) (rule_of c.args.row).conditions) (sym c.deref.ensures.value)
          (subst (λ (nodes : List Node). All (λ condition. All (IsFound nodes c.in-Some.finding.letters.items) (letters_of condition)) (rule_of c.args.row).conditions) (sym same)
          (conditions_found ns c.args.row c.in-Some.finding.letters.items c.in-Some.finding.name are)));
      known = subst (λ (nodes : List Node). IsKnown nodes c.args.known.now) (sym same) c.requires.known;
    }

pub returns-clause-instance : goal.returns-clause-instance
returns-clause-instance c =
    let ns = c.args.pool.now.nodes in
    let r = c.are_met.result in
    let facts = rw (c.in-Some.is, c.text.ensures) at c.in_ok-finding.ensures in
    let are = letters_are ns c.args.row c.in-Some.finding.letters.items c.in-Some.finding.name facts.there facts.letters facts.name in
    let same = restored ns c.is_spelled-spelled.new.pool.nodes c.release.new.self.nodes c.mark-mark.result c.mark-mark.ensures.mark c.is_spelled-spelled.ensures.grows c.release.ensures.nodes in
    let instance = c.in_ok-spelled.ensures.spelled.0 c.if-not-branch.false in
    by_iff r (met_iff ns c.args.row c.in-Some.finding.letters.items c.in-Some.finding.name c.args.judgments.now c.mark-mark.ensures.pool are facts.finds instance)
    (subst (λ (conditions : List Condition). IfOk r (λ answer. (answer ≡ true) ↔ All (IsMet (assignment_of ns c.in-Some.finding.letters.items c.in-Some.finding.name)) conditions)) c.conditions.ensures
    (subst (λ (letters : List (Option ℕ)). IfOk r (λ answer. (answer ≡ true) ↔ All (IsMet (assignment_of ns letters c.in-Some.finding.name)) c.conditions.result.now)) c.deref.ensures.value
    (subst (λ (nodes : List Node). IfOk r (λ answer. (answer ≡ true) ↔ All (IsMet (assignment_of nodes c.deref.result.now c.in-Some.finding.name)) c.conditions.result.now)) same c.are_met.ensures.met)))
