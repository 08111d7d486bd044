use Rattle.std.proofs.Common.{◌≡◌, subst}
use Rattle.std.specs.Prelude.{IfOk}
use Rattle.rz_rules.specs.Tree.{tree_of}
use Rattle.rz_rules.specs.Cube.{binders_of}
use Rattle.rz_rules.specs.Validity.{RankList, rank_in, truth}
use Rattle.rz_tope.proofs.truths.truth.Goals as goal

pub returns-clause-truth : goal.returns-clause-truth
returns-clause-truth c =
    let ns = c.args.pool.now.nodes in
    subst (λ (ranks : RankList). IfOk c.truth_with_cubes-answer.result (λ answer. answer ≡ truth (binders_of (tree_of ns c.args.context)) (rank_in ranks) (tree_of ns c.args.tope)))
    c.as_slice.ensures c.truth_with_cubes-answer.ensures.truth
