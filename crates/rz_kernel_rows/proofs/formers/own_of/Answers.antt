use Rattle.std.proofs.Common.{◌≡◌, ◌∷◌, [], sym, subst}
use Rattle.std.specs.Prelude.{◌↔◌}
use Rattle.rz_rules.specs.declared.kinds.Sort.TheVariants as sort
use Rattle.rz_rules.specs.declared.judgments.Judgment.{Judgment}
use Rattle.rz_rules.specs.declared.judgments.Judgment.TheVariants.{Same}
use Rattle.rz_rules.specs.Tree.{trees_in}
use Rattle.rz_rules.specs.Judgment.{statement}
use Rattle.rz_rules.specs.Structural.{SameAsOwn}
use Rattle.rz_pool.proofs.Nodes.{Grows-trans}
use Rattle.rz_kernel_rows.specs.Line.{IsJudgmentOver}
use Rattle.rz_kernel_rows.proofs.Extending.{IsAt-Grows}
use Rattle.rz_kernel_rows.proofs.Judged.{has_at, same_over}
use Rattle.rz_kernel_rows.proofs.Owning.{no_own, own_iff}
use Rattle.rz_kernel_rows.proofs.formers.own_of.Goals as goal

pub returns-in_default-2-clause-concludes : goal.returns-in_default-2-clause-concludes
returns-in_default-2-clause-concludes c says is h =
    let ns = c.args.pool.now.nodes in
    no_own ns c.in-Has.c c.in-Has.a c.in-Has.of (rw c.in_default-2.is at c.in_ok-own.ensures.typed) says is
    (subst (λ (j : Judgment). SameAsOwn (statement (trees_in ns) j ∷ []) says) c.in-Has.is h)

pub returns-clause-concludes : goal.returns-clause-concludes
returns-clause-concludes c =
    let ns = c.args.pool.now.nodes in
    let mid = c.own_type.new.pool.nodes in
    let new = c.make_universe.new.pool.nodes in
    let grows = c.in_ok-own.ensures.grows in
    let more = c.in_ok-universe.ensures.grows in
    let all = Grows-trans ns mid new grows more in
    let parts = has_at ns c.in-Has.c c.in-Has.a c.in-Has.of (subst (IsJudgmentOver ns) c.in-Has.is c.requires.premise) in
    let typed = rw c.in-Some.is at c.in_ok-own.ensures.typed in (
      same_over new c.in-Has.c c.in-Has.of c.in-Some.own c.in_ok-universe.universe (IsAt-Grows ns new all sort.Context c.in-Has.c parts.0) (IsAt-Grows ns new all sort.Term c.in-Has.of parts.2)
          (IsAt-Grows mid new more sort.Term c.in-Some.own typed.0) c.in_ok-universe.ensures.there,
      λ says. subst (λ (j : Judgment). SameAsOwn (statement (trees_in ns) j ∷ []) says ↔ (says ≡ statement (trees_in new) (Same c.in-Has.c c.in-Has.of c.in-Some.own c.in_ok-universe.universe))) (sym c.in-Has.is)
          (own_iff ns mid new grows more c.in-Has.c c.in-Has.a c.in-Has.of c.in-Some.own c.in_ok-universe.universe parts.0.0 parts.2.0 typed.0.0 typed.1 c.in_ok-universe.ensures.tree says),
    )
