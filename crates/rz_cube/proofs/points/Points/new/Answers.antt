use Rattle.std.proofs.Common.{ℕ, List, [], map, ap, ◌∙◌}
use Rattle.rz_rules.specs.declared.kinds.Kind.TheVariants.{CubeTwo}
use Rattle.rz_rules.specs.Tree.{At, trees_of, tree_of}
use Rattle.rz_cube.proofs.points.Points.new.Goals as goal

pub returns-clause-points : goal.returns-clause-points
returns-clause-points c =
    let made = c.in_ok-interval.ensures in
    record {
      there = made.cube.0;
      two = made.tree ∙ ap (λ (kids : List ℕ). At CubeTwo 0 [] (trees_of (map (tree_of c.args.pool.now.nodes) kids))) c.new.ensures;
    }
