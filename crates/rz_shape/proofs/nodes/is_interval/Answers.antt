use Rattle.std.proofs.Common.{◌≡◌, ℕ, List, [], map, sym, ap, ◌∙◌}
use Rattle.rz_rules.specs.declared.kinds.Kind.TheVariants.{CubeTwo}
use Rattle.rz_rules.specs.Tree.{At, tree_of, trees_of}
use Rattle.rz_rules.specs.Cube.{cube_two}
use Rattle.rz_pool.proofs.Nodes.{KeepsTrees-Grows}
use Rattle.rz_rules.specs.Same.{same_tree}
use Rattle.rz_shape.proofs.nodes.is_interval.Goals as goal

pub returns-clause-test : goal.returns-clause-test
returns-clause-test c =
    let ns = c.args.pool.now.nodes in
    let ms = c.make_unnamed.new.self.nodes in
    let made = c.in_ok-interval.ensures in
    let cube : tree_of ms c.args.cube ≡ tree_of ns c.args.cube = KeepsTrees-Grows ns ms made.grows c.args.cube c.requires in
    let two : tree_of ms c.in_ok-interval.interval ≡ cube_two = made.tree ∙ ap (λ (kids : List ℕ). At CubeTwo 0 [] (trees_of (map (tree_of ns) kids))) c.new.ensures in
    sym (λ i. same_tree (cube i) (two i)) ∙ c.is_same.ensures
