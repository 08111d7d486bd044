use Rattle.std.proofs.Common.{◌∷◌, [], sym, subst}
use Rattle.std.specs.Prelude.{IfOk}
use Rattle.rz_rules.specs.declared.judgments.Judgment.{Judgment}
use Rattle.rz_rules.specs.Tree.{trees_in}
use Rattle.rz_rules.specs.Judgment.{statement}
use Rattle.rz_rules.specs.Structural.{IsHypothesis}
use Rattle.rz_kernel_rows.specs.Move.{IsConclusion}
use Rattle.rz_kernel_rows.proofs.variables.hypothesis_by.Goals as goal

pub returns-in-Formed-clause-concludes : goal.returns-in-Formed-clause-concludes
returns-in-Formed-clause-concludes c =
    let ts = trees_in c.args.pool.now.nodes in
    subst (λ (j : Judgment). IfOk c.hypothesis_in.result (IsConclusion c.hypothesis_in.new.pool.nodes (IsHypothesis c.args.number (statement ts j ∷ []))))
    (sym c.in-Formed.is) c.hypothesis_in.ensures.concludes
