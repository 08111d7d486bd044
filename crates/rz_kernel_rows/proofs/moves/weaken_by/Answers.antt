use Rattle.std.proofs.Common.{◌∷◌, [], sym, subst}
use Rattle.std.specs.Prelude.{IfOk}
use Rattle.rz_rules.specs.declared.judgments.Judgment.{Judgment}
use Rattle.rz_rules.specs.Tree.{trees_in}
use Rattle.rz_rules.specs.Judgment.{statement}
use Rattle.rz_rules.specs.Structural.{IsWeakening}
use Rattle.rz_kernel_rows.specs.Line.{IsJudgmentOver}
use Rattle.rz_kernel_rows.specs.Move.{IsConclusion}
use Rattle.rz_kernel_rows.proofs.Judged.{context_at, not_formed}
use Rattle.rz_kernel_rows.proofs.Moving.{allowed_formed}
use Rattle.rz_kernel_rows.proofs.moves.weaken_by.Goals as goal

pub weaken_into-requires-clause-context : goal.weaken_into-requires-clause-context
weaken_into-requires-clause-context c = context_at c.args.pool.now.nodes c.in-Formed.c (subst (IsJudgmentOver c.args.pool.now.nodes) c.in-Formed.is c.requires.allowed)

pub returns-in-Formed-clause-concludes : goal.returns-in-Formed-clause-concludes
returns-in-Formed-clause-concludes c =
    let ts = trees_in c.args.pool.now.nodes in
    subst (λ (j : Judgment). IfOk c.weaken_into.result (IsConclusion c.weaken_into.new.pool.nodes (IsWeakening c.args.number (statement ts c.args.premise ∷ statement ts j ∷ []))))
    (sym c.in-Formed.is) c.weaken_into.ensures.concludes

pub returns-in_default-clause-concludes : goal.returns-in_default-clause-concludes
returns-in_default-clause-concludes c says is h =
    let ts = trees_in c.args.pool.now.nodes in
    not_formed ts c.args.allowed says.context c.in_default.not-Formed (allowed_formed c.args.number (statement ts c.args.premise) (statement ts c.args.allowed) says h)
