use Rattle.std.proofs.Common.{◌≡◌, ℕ, List, [], ◌∷◌, ◌++◌, map, nat_eq, sym, ap, subst, ◌∙◌}
use Rattle.std.specs.Prelude.{IfOk}
use Rattle.std.specs.HashMap.{get}
use Rattle.rz_rules.specs.declared.coordinates.TheConstants.{LEFT, RIGHT}
use Rattle.rz_rules.specs.Tree.{tree_of}
use Rattle.rz_rules.specs.Coordinate.{paths}
use Rattle.rz_cube.specs.Point.{HasPaths}
use Rattle.rz_cube.proofs.CachedPoints.{all_two}
use Rattle.rz_cube.proofs.PathTables.{interval_paths, parts_paths}
use Rattle.rz_cube.proofs.paths.paths_by_kids.Goals as goal

pub returns-in-CubeTwo : goal.returns-in-CubeTwo
returns-in-CubeTwo c =
    let n = c.node-node.result.now in
    subst (λ (paths : List (List ℕ)). IfOk c.only.result (λ list. list ≡ paths))
    (ap (λ (path : List ℕ). path ∷ []) c.new.ensures ∙ sym (interval_paths c.args.pool.now.nodes c.args.cube n c.node-node.ensures.tree c.node-node.ensures.form c.in-CubeTwo.is))
    c.only.ensures

pub returns-in-Product : goal.returns-in-Product
returns-in-Product c =
    let ns = c.args.pool.now.nodes in
    let n = c.node-node.result.now in
    let left = c.two_kids-left.result.0 in
    let right = c.two_kids-left.result.1 in
    let both = all_two (HasPaths ns (get nat_eq c.args.table.now)) left right n.kids c.two_kids-left.ensures (c.requires.kids n c.node-node.ensures.node) in
    let first : c.as_slice.result.now ≡ paths (tree_of ns left) = let has = both.0 in cc in
    let second : c.as_slice-in-Product.result.now ≡ paths (tree_of ns right) = let has = both.1 in cc in
    subst (λ (paths : List (List ℕ)). IfOk c.product_paths.result (λ list. list ≡ paths))
    ((λ i. map (λ path. LEFT ∷ path) (first i) ++ map (λ path. RIGHT ∷ path) (second i))
    ∙ sym (parts_paths ns c.args.cube n c.node-node.ensures.tree c.node-node.ensures.form left right c.in-Product.is c.two_kids-left.ensures))
    c.product_paths.ensures
