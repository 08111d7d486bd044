use Rattle.std.proofs.Common.{◌∷◌, [], sym, subst}
use Rattle.rz_rules.specs.declared.judgments.Judgment.{Judgment}
use Rattle.rz_rules.specs.Tree.{trees_in}
use Rattle.rz_rules.specs.Judgment.{statement}
use Rattle.rz_rules.specs.Structural.{IsInversion}
use Rattle.rz_kernel_rows.specs.Move.{IsConclusion}
use Rattle.rz_kernel_rows.proofs.Owning.{inversion_conclusion, no_inversion}
use Rattle.rz_kernel_rows.proofs.formers.inversion_of.Goals as goal

pub returns-in_default-2-clause-concludes : goal.returns-in_default-2-clause-concludes
returns-in_default-2-clause-concludes c says is h =
    let ns = c.args.pool.now.nodes in
    no_inversion ns c.in-Has.c c.in-Has.a c.in-Has.of c.args.number (rw c.in_default-2.is at c.in_ok-typing.ensures.none) says
    (subst (λ (j : Judgment). IsInversion c.args.number (statement (trees_in ns) j ∷ []) says) c.in-Has.is h)

pub returns-clause-concludes : goal.returns-clause-concludes
returns-clause-concludes c =
    let ns = c.args.pool.now.nodes in
    let new = c.read_typing.new.pool.nodes in
    subst (λ (j : Judgment). IsConclusion new (IsInversion c.args.number (statement (trees_in ns) j ∷ [])) c.judgment_at.result) (sym c.in-Has.is)
    (inversion_conclusion ns c.in-Has.c c.in-Has.a c.in-Has.of c.args.number new c.in-Some.typing (rw c.in-Some.is at c.in_ok-typing.ensures.typed) c.judgment_at.result
    (rw c.deref.ensures.value at c.judgment_at.ensures))
