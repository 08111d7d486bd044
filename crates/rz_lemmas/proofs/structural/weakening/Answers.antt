use Rattle.std.proofs.Common.{◌∙◌}
use Rattle.rz_rules.specs.Judgment.{statement}
use Rattle.rz_rules.specs.Substitution.{none, raising}
use Rattle.rz_rules.specs.Tree.{tree_of, trees_in}
use Rattle.rz_lemmas.specs.Moves.{raised_judgment}
use Rattle.rz_lemmas.proofs.Moving.{found_binds, found_depth}
use Rattle.rz_lemmas.proofs.structural.weakening.Goals as goal

pub returns-clause-says : goal.returns-clause-says
returns-clause-says c outer entry inner behind =
    let old = c.args.pool.now.nodes in
    let found = c.in_ok-behind.behind in
    let is = c.in_ok-behind.ensures.found outer entry inner behind in
    let binds = found_binds old found entry inner is in
    let depth = found_depth old found entry inner is in
    c.in_ok-new.ensures.says ∙ (λ i. raised_judgment (raising none (binds i)) (depth i) (tree_of old c.args.context) (statement (trees_in old) c.args.says))
