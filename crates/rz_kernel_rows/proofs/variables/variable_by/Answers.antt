use Rattle.std.proofs.Common.{◌≡◌, ◌∷◌, [], sym, subst}
use Rattle.std.specs.Prelude.{◌↔◌}
use Rattle.rz_rules.specs.declared.kinds.Sort.TheVariants as sort
use Rattle.rz_rules.specs.declared.judgments.Judgment.{Judgment}
use Rattle.rz_rules.specs.declared.judgments.Judgment.TheVariants.{Has}
use Rattle.rz_rules.specs.Tree.{tree_of, trees_in}
use Rattle.rz_rules.specs.Judgment.{statement}
use Rattle.rz_rules.specs.Structural.{TypesVariable}
use Rattle.rz_kernel_rows.specs.Line.{IsJudgmentOver}
use Rattle.rz_kernel_rows.proofs.Extending.{IsAt-Grows}
use Rattle.rz_kernel_rows.proofs.Giving.{IsTree-at, no_variable_for, variable_for}
use Rattle.rz_kernel_rows.proofs.Judged.{context_at, has_at, has_over}
use Rattle.rz_kernel_rows.proofs.variables.variable_by.Goals as goal

pub returns-in-Some-clause-concludes : goal.returns-in-Some-clause-concludes
returns-in-Some-clause-concludes c =
    let ns = c.args.pool.now.nodes in
    let new = c.variable_type.new.pool.nodes in
    let grows = c.in_ok-of.ensures.grows in
    let typed = rw c.in-Some.is at c.in_ok-of.ensures.typed in
    let says = subst (IsJudgmentOver ns) c.in-Has.is c.requires.says in
    let parts = has_at ns c.in-Has.c c.in-Has.a c.in-Has.of says in
    let context = context_at ns c.in-Formed.c (subst (IsJudgmentOver ns) c.in-Formed.is c.requires.premise) in
    let iff = variable_for ns new grows c.in-Formed.c c.in-Has.c c.in-Has.a c.in-Has.of c.in-Some.of context.0 parts.1.0 typed.1 in (
      has_over new c.in-Formed.c c.in-Has.a c.in-Some.of (IsAt-Grows ns new grows sort.Context c.in-Formed.c context) (IsAt-Grows ns new grows sort.Term c.in-Has.a parts.1) typed.0,
      subst (λ (s : Judgment). TypesVariable (statement (trees_in ns) c.args.premise ∷ []) (statement (trees_in ns) s) ↔ (statement (trees_in ns) s ≡ statement (trees_in new) (Has c.in-Formed.c c.in-Has.a c.in-Some.of))) (sym c.in-Has.is)
          (subst (λ (p : Judgment). TypesVariable (statement (trees_in ns) p ∷ []) (statement (trees_in ns) (Has c.in-Has.c c.in-Has.a c.in-Has.of)) ↔ (statement (trees_in ns) (Has c.in-Has.c c.in-Has.a c.in-Has.of) ≡ statement (trees_in new) (Has c.in-Formed.c c.in-Has.a c.in-Some.of)))
          (sym c.in-Formed.is) iff),
    )

pub returns-in-None-clause-concludes : goal.returns-in-None-clause-concludes
returns-in-None-clause-concludes c h =
    let ns = c.args.pool.now.nodes in
    let never = rw c.in-None.is at c.in_ok-of.ensures.typed in
    let says = subst (IsJudgmentOver ns) c.in-Has.is c.requires.says in
    let type = IsTree-at ns c.requires.pool.forms c.in-Has.of (has_at ns c.in-Has.c c.in-Has.a c.in-Has.of says).2 in
    no_variable_for ns c.in-Formed.c c.in-Has.c c.in-Has.a c.in-Has.of (never (tree_of ns c.in-Has.of) type)
    (subst (λ (p : Judgment). TypesVariable (statement (trees_in ns) p ∷ []) (statement (trees_in ns) (Has c.in-Has.c c.in-Has.a c.in-Has.of))) c.in-Formed.is
    (subst (λ (s : Judgment). TypesVariable (statement (trees_in ns) c.args.premise ∷ []) (statement (trees_in ns) s)) c.in-Has.is h))
