use Rattle.std.proofs.Common.{List, All, take, get_or, refl, sym, subst}
use Rattle.std.proofs.lemmas.List.{take_all, take_more}
use Rattle.std.proofs.lemmas.List.Elements.{All-push, All-weaker}
use Rattle.rz_rules.specs.declared.symbols.Condition.{Condition}
use Rattle.rz_rules.specs.declared.symbols.Condition.TheVariants.{FewLeaves}
use Rattle.rz_rules.specs.declared.kinds.Sort.TheVariants.{Cube}
use Rattle.rz_rules.specs.Derivation.{IsMet}
use Rattle.rz_rule_text.specs.Letters.{IsFound, assignment_of}
use Rattle.rz_pool.proofs.Nodes.{Grows-trans}
use Rattle.rz_kernel_rows.specs.Line.{letters_of}
use Rattle.rz_kernel_rows.proofs.MetConditions.{found_grown, met_grown}
use Rattle.rz_kernel_rows.proofs.conditions.are_met.Goals as goal

abbrev first : Condition
first = FewLeaves (record { number = 0; sort = Cube })

pub is_met-requires-clause-found : goal.is_met-requires-clause-found
is_met-requires-clause-found c =
    let old = c.args.pool.now.nodes in
    let now = c.loop-condition.pool.nodes in
    let letters = c.args.letters.now in
    let condition = get_or c.args.conditions.now c.loop-condition.condition-index first in
    All-weaker (IsFound old letters) (IsFound now letters) (found_grown old now c.loop-condition.invariant.grows letters c.args.name) (letters_of condition)
    (c.requires.found c.loop-condition.condition-index first c.loop-condition-test.true)

pub loop-condition-preserved : goal.loop-condition-preserved
loop-condition-preserved c =
    let old = c.args.pool.now.nodes in
    let now = c.loop-condition.pool.nodes in
    let i = c.loop-condition.condition-index in
    let condition = get_or c.args.conditions.now i first in
    let a = assignment_of old c.args.letters.now c.args.name in
    let found = c.requires.found i first c.loop-condition-test.true in
    let here = (met_grown old now c.loop-condition.invariant.grows c.args.letters.now c.args.name condition found).0 ((rw c.if-not-branch.false at c.in_ok-is_met.ensures.met).0 refl) in
    record {
      met = subst (All (IsMet a)) (sym (take_more c.args.conditions.now i first c.loop-condition-test.true)) (All-push (IsMet a) (take i c.args.conditions.now) condition c.loop-condition.invariant.met here);
      known = c.in_ok-is_met.ensures.known;
      grows = Grows-trans old now c.is_met.new.pool.nodes c.loop-condition.invariant.grows c.in_ok-is_met.ensures.grows;
    }

pub returns-then-not-branch-clause-met : goal.returns-then-not-branch-clause-met
returns-then-not-branch-clause-met c =
    let old = c.args.pool.now.nodes in
    let now = c.loop-condition.pool.nodes in
    let i = c.loop-condition.condition-index in
    let condition = get_or c.args.conditions.now i first in
    let found = c.requires.found i first c.loop-condition-test.true in (
      λ wrong. absurd cc,
      λ met.
          let here = (met_grown old now c.loop-condition.invariant.grows c.args.letters.now c.args.name condition found).1 (met i first c.loop-condition-test.true) in
          let yes = c.in_ok-is_met.ensures.met.1 here in
          let no = c.if-not-branch.true in
          absurd cc,
    )

pub returns-clause-met : goal.returns-clause-met
returns-clause-met c = (
  λ _. subst (λ (conditions : List Condition). All (IsMet (assignment_of c.args.pool.now.nodes c.args.letters.now c.args.name)) conditions)
      (take_all c.loop-condition.condition-index c.args.conditions.now c.loop-condition-test.false) c.loop-condition.invariant.met,
  λ _. refl,
)
