use Rattle.std.proofs.Common.{◌≡◌, Some, length, ap, ◌∙◌}
use Rattle.std.specs.Prelude.{option_map, option_and_then}
use Rattle.rz_rules.specs.Tree.{tree_of}
use Rattle.rz_rules.specs.Cube.{left_part}
use Rattle.rz_cube.proofs.PathTables.{width_of_part}
use Rattle.rz_cube.proofs.points.width_of_left.Goals as goal

pub returns-in_ok-paths-in-Some : goal.returns-in_ok-paths-in-Some
returns-in_ok-paths-in-Some c =
    let at = tree_of c.args.pool.now.nodes in
    let part : option_and_then left_part (option_map at c.args.cube) ≡ Some (at c.in-Some.left) = c.left_of.ensures.is ∙ ap (option_map at) c.in-Some.is in
    c.len-in-Some.ensures ∙ ap length c.in_ok-paths-in-Some.ensures ∙ width_of_part (option_map at c.args.cube) (at c.in-Some.left) part
