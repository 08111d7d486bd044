use Rattle.std.proofs.Common.{ℕ, List, [], Option, Some, map, sym, ap, subst, ◌∙◌}
use Rattle.std.specs.Prelude.{IfOk, option_and_then}
use Rattle.rz_rules.specs.declared.kinds.Kind.TheVariants.{CubeOne}
use Rattle.rz_rules.specs.Tree.{Tree, At, sort_of, trees_of, tree_of}
use Rattle.rz_rules.specs.Cube.{product, left_part, right_part}
use Rattle.rz_rules.specs.Tope.{cube_of}
use Rattle.rz_cube.specs.Point.{binders_at}
use Rattle.rz_pool.specs.Cubes.{IsCubeId}
use Rattle.rz_cube.proofs.CachedPoints.{entry_cached, variable_cube, only_cube, end_cube, pair_cube, left_cube, right_cube, kid_cached, kids_cached, kid_is, first_is, second_is, is_cached}
use Rattle.rz_cube.proofs.points.Points.cube_by_kids.Goals as goal

pub point-requires : goal.point-requires
point-requires c =
    is_cached c.args.pool.now.nodes c.args.entries.now c.args.self.now c.two_kids-s.result.0
    (kids_cached c.args.pool.now.nodes c.args.entries.now c.args.self.now c.args.id c.node-node.result.now c.requires.kids c.node-node.ensures.node c.two_kids-s.result.0 c.two_kids-s.result.1 c.two_kids-s.ensures).0

pub point-requires-in-PointPair : goal.point-requires-in-PointPair
point-requires-in-PointPair c =
    is_cached c.args.pool.now.nodes c.args.entries.now c.args.self.now c.two_kids-s.result.1
    (kids_cached c.args.pool.now.nodes c.args.entries.now c.args.self.now c.args.id c.node-node.result.now c.requires.kids c.node-node.ensures.node c.two_kids-s.result.0 c.two_kids-s.result.1 c.two_kids-s.ensures).1

pub point-requires-in-PointLeft : goal.point-requires-in-PointLeft
point-requires-in-PointLeft c =
    is_cached c.args.pool.now.nodes c.args.entries.now c.args.self.now c.one_kid.result
    (kid_cached c.args.pool.now.nodes c.args.entries.now c.args.self.now c.args.id c.node-node.result.now c.requires.kids c.node-node.ensures.node c.one_kid.result c.one_kid.ensures)

pub point-requires-in-PointRight : goal.point-requires-in-PointRight
point-requires-in-PointRight c =
    is_cached c.args.pool.now.nodes c.args.entries.now c.args.self.now c.one_kid-in-PointRight.result
    (kid_cached c.args.pool.now.nodes c.args.entries.now c.args.self.now c.args.id c.node-node.result.now c.requires.kids c.node-node.ensures.node c.one_kid-in-PointRight.result c.one_kid-in-PointRight.ensures)

pub product_of-requires-clause-left : goal.product_of-requires-clause-left
product_of-requires-clause-left c =
    (first_is c.args.pool.now.nodes c.args.entries.now c.args.self.now c.args.id c.node-node.result.now c.requires.kids c.node-node.ensures.node c.two_kids-s.result.0 c.two_kids-s.result.1 c.two_kids-s.ensures c.point.result.now c.point.ensures).cube.there

pub product_of-requires-clause-right : goal.product_of-requires-clause-right
product_of-requires-clause-right c =
    (second_is c.args.pool.now.nodes c.args.entries.now c.args.self.now c.args.id c.node-node.result.now c.requires.kids c.node-node.ensures.node c.two_kids-s.result.0 c.two_kids-s.result.1 c.two_kids-s.ensures c.point-in-PointPair.result.now c.point-in-PointPair.ensures).cube.there

pub left_of-requires : goal.left_of-requires
left_of-requires c =
    (kid_is c.args.pool.now.nodes c.args.entries.now c.args.self.now c.args.id c.node-node.result.now c.requires.kids c.node-node.ensures.node c.one_kid.result c.one_kid.ensures c.point-in-PointLeft.result.now c.point-in-PointLeft.ensures).cube.there

pub right_of-requires : goal.right_of-requires
right_of-requires c =
    (kid_is c.args.pool.now.nodes c.args.entries.now c.args.self.now c.args.id c.node-node.result.now c.requires.kids c.node-node.ensures.node c.one_kid-in-PointRight.result c.one_kid-in-PointRight.ensures c.point-in-PointRight.result.now c.point-in-PointRight.ensures).cube.there

pub returns-in-PointVariable-clause-cached : goal.returns-in-PointVariable-clause-cached
returns-in-PointVariable-clause-cached c =
    let ns = c.args.pool.now.nodes in
    let n = c.node-node.result.now in
    let entries = c.args.entries.now in
    let binders = binders_at ns entries in
    let cached = entry_cached ns entries n.number c.requires.entries in
    subst (λ (o : Option ℕ). IsCubeId ns (cube_of binders (tree_of ns c.args.id)) o) (sym c.entry_cube.ensures)
    (record { there = cached.there; is = variable_cube ns binders c.args.id n c.node-node.ensures.tree c.node-node.ensures.form c.in-PointVariable.is ∙ cached.is })

pub returns-in_ok-make_cube-in-OnlyPoint-clause-cached : goal.returns-in_ok-make_cube-in-OnlyPoint-clause-cached
returns-in_ok-make_cube-in-OnlyPoint-clause-cached c =
    let ns = c.args.pool.now.nodes in
    let made = c.in_ok-make_cube-in-OnlyPoint.ensures in
    record {
      there = made.cube;
      is = only_cube ns (binders_at ns c.args.entries.now) c.args.id c.node-node.result.now c.node-node.ensures.tree c.node-node.ensures.form c.in-OnlyPoint.is
          ∙ ap (λ (t : Tree). Some t) (sym (made.tree ∙ ap (λ (kids : List ℕ). At CubeOne 0 [] (trees_of (map (tree_of ns) kids))) c.new.ensures));
    }

pub returns-in-Zero-clause-cached : goal.returns-in-Zero-clause-cached
returns-in-Zero-clause-cached c =
    let ns = c.args.pool.now.nodes in
    record {
      there = (c.requires.points.there, ap sort_of c.requires.points.two);
      is = end_cube ns (binders_at ns c.args.entries.now) c.args.id c.node-node.result.now c.node-node.ensures.tree c.node-node.ensures.form c.in-Zero.is
          ∙ ap (λ (t : Tree). Some t) (sym c.requires.points.two);
    }

pub returns-in-PointPair-clause-cached : goal.returns-in-PointPair-clause-cached
returns-in-PointPair-clause-cached c =
    let ns = c.args.pool.now.nodes in
    let whole = pair_cube ns (binders_at ns c.args.entries.now) c.args.id c.node-node.result.now c.node-node.ensures.tree c.node-node.ensures.form c.two_kids-s.result.0 c.two_kids-s.result.1 c.in-PointPair.is c.two_kids-s.ensures in
    let left = (first_is c.args.pool.now.nodes c.args.entries.now c.args.self.now c.args.id c.node-node.result.now c.requires.kids c.node-node.ensures.node c.two_kids-s.result.0 c.two_kids-s.result.1 c.two_kids-s.ensures c.point.result.now c.point.ensures).cube.is in
    let right = (second_is c.args.pool.now.nodes c.args.entries.now c.args.self.now c.args.id c.node-node.result.now c.requires.kids c.node-node.ensures.node c.two_kids-s.result.0 c.two_kids-s.result.1 c.two_kids-s.ensures c.point-in-PointPair.result.now c.point-in-PointPair.ensures).cube.is in
    subst (λ (o : Option Tree). IfOk c.product_of.result (IsCubeId c.product_of.new.pool.nodes o))
    (sym (whole ∙ (λ i. option_and_then (λ l. option_and_then (λ r. Some (product l r)) (right i)) (left i)))) c.product_of.ensures.cube

pub returns-in-PointLeft-clause-cached : goal.returns-in-PointLeft-clause-cached
returns-in-PointLeft-clause-cached c =
    let ns = c.args.pool.now.nodes in
    let whole = left_cube ns (binders_at ns c.args.entries.now) c.args.id c.node-node.result.now c.node-node.ensures.tree c.node-node.ensures.form c.one_kid.result c.in-PointLeft.is c.one_kid.ensures in
    let kid = (kid_is c.args.pool.now.nodes c.args.entries.now c.args.self.now c.args.id c.node-node.result.now c.requires.kids c.node-node.ensures.node c.one_kid.result c.one_kid.ensures c.point-in-PointLeft.result.now c.point-in-PointLeft.ensures).cube.is in
    subst (λ (o : Option Tree). IsCubeId ns o c.left_of.result) (sym (whole ∙ ap (option_and_then left_part) kid)) c.left_of.ensures

pub returns-in-PointRight-clause-cached : goal.returns-in-PointRight-clause-cached
returns-in-PointRight-clause-cached c =
    let ns = c.args.pool.now.nodes in
    let whole = right_cube ns (binders_at ns c.args.entries.now) c.args.id c.node-node.result.now c.node-node.ensures.tree c.node-node.ensures.form c.one_kid-in-PointRight.result c.in-PointRight.is c.one_kid-in-PointRight.ensures in
    let kid = (kid_is c.args.pool.now.nodes c.args.entries.now c.args.self.now c.args.id c.node-node.result.now c.requires.kids c.node-node.ensures.node c.one_kid-in-PointRight.result c.one_kid-in-PointRight.ensures c.point-in-PointRight.result.now c.point-in-PointRight.ensures).cube.is in
    subst (λ (o : Option Tree). IsCubeId ns o c.right_of.result) (sym (whole ∙ ap (option_and_then right_part) kid)) c.right_of.ensures
