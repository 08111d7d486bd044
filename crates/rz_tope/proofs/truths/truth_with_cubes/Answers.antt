use Rattle.std.proofs.Common.{◌≡◌, List, map, subst, ap, ◌∙◌}
use Rattle.std.specs.Prelude.{IfOk}
use Rattle.rz_rules.specs.Tree.{Tree, tree_of}
use Rattle.rz_rules.specs.Cube.{cubes_of}
use Rattle.rz_rules.specs.Validity.{rank_in, truth}
use Rattle.rz_tope.proofs.truths.truth_with_cubes.Goals as goal

pub returns-clause-truth : goal.returns-clause-truth
returns-clause-truth c =
    let ns = c.args.pool.now.nodes in
    let cubes : map (tree_of ns) c.deref.result.now ≡ cubes_of (tree_of ns c.args.context) = ap (map (tree_of ns)) c.deref.ensures.value ∙ c.in_ok-entries.ensures.trees in
    subst (λ (cubes : List Tree). IfOk c.truth_over.result (λ answer. answer ≡ truth (record { cubes = cubes }) (rank_in c.args.ranks.now) (tree_of ns c.args.tope))) cubes
    c.truth_over.ensures.truth
