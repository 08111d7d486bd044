use Rattle.std.proofs.Common.{ℕ, List, [], Option, Some, map, sym, ap, subst, ◌∙◌}
use Rattle.std.specs.Prelude.{IfOk, option_and_then}
use Rattle.rz_rules.specs.declared.kinds.Kind.TheVariants.{CubeOne, CubeTwo}
use Rattle.rz_rules.specs.Tree.{Tree, At, trees_of, tree_of}
use Rattle.rz_rules.specs.Cube.{binders_of, left_part, product, right_part}
use Rattle.rz_pool.specs.Cubes.{IsCubeId}
use Rattle.rz_context.specs.Knowledge.{Caches}
use Rattle.rz_context.proofs.Judging.{all_one, all_two, end_cube, left_cube, only_cube, pair_cube, right_cube, variable_cube}
use Rattle.rz_context.proofs.knowledge.Knowledge.point_cube.Goals as goal

pub product_of-requires-clause-left : goal.product_of-requires-clause-left
product_of-requires-clause-left c =
    let parts = c.two_kids-s.result in
    let cached = all_two (Caches c.args.self.now c.args.context) parts.0 parts.1 c.node-node.result.now.kids c.two_kids-s.ensures (c.requires.kids c.node-node.result.now c.node-node.ensures.node) in
    (c.cube_at.ensures c.args.pool.now.nodes c.requires.known cached.0).there

pub product_of-requires-clause-right : goal.product_of-requires-clause-right
product_of-requires-clause-right c =
    let parts = c.two_kids-s.result in
    let cached = all_two (Caches c.args.self.now c.args.context) parts.0 parts.1 c.node-node.result.now.kids c.two_kids-s.ensures (c.requires.kids c.node-node.result.now c.node-node.ensures.node) in
    (c.cube_at-in-PointPair.ensures c.args.pool.now.nodes c.requires.known cached.1).there

pub left_of-requires : goal.left_of-requires
left_of-requires c =
    let cached = all_one (Caches c.args.self.now c.args.context) c.one_kid.result c.node-node.result.now.kids c.one_kid.ensures (c.requires.kids c.node-node.result.now c.node-node.ensures.node) in
    (c.cube_at-in-PointLeft.ensures c.args.pool.now.nodes c.requires.known cached).there

pub right_of-requires : goal.right_of-requires
right_of-requires c =
    let cached = all_one (Caches c.args.self.now c.args.context) c.one_kid-in-PointRight.result c.node-node.result.now.kids c.one_kid-in-PointRight.ensures (c.requires.kids c.node-node.result.now c.node-node.ensures.node) in
    (c.cube_at-in-PointRight.ensures c.args.pool.now.nodes c.requires.known cached).there

pub returns-in-PointVariable-clause-cached : goal.returns-in-PointVariable-clause-cached
returns-in-PointVariable-clause-cached c =
    let ns = c.args.pool.now.nodes in
    subst (λ (o : Option Tree). IsCubeId ns o c.entry_cube.result)
    (sym (variable_cube ns (binders_of (tree_of ns c.args.context)) c.args.id c.node-node.result.now c.node-node.ensures.tree c.node-node.ensures.form c.in-PointVariable.is)) c.entry_cube.ensures

pub returns-in_ok-make_cube-in-OnlyPoint-clause-cached : goal.returns-in_ok-make_cube-in-OnlyPoint-clause-cached
returns-in_ok-make_cube-in-OnlyPoint-clause-cached c =
    let ns = c.args.pool.now.nodes in
    let made = c.in_ok-make_cube-in-OnlyPoint.ensures in
    record {
      there = made.cube;
      is = only_cube ns (binders_of (tree_of ns c.args.context)) c.args.id c.node-node.result.now c.node-node.ensures.tree c.node-node.ensures.form c.in-OnlyPoint.is
          ∙ ap (λ (t : Tree). Some t) (sym (made.tree ∙ ap (λ (kids : List ℕ). At CubeOne 0 [] (trees_of (map (tree_of ns) kids))) c.new.ensures));
    }

pub returns-in_ok-make_cube-in-Zero-clause-cached : goal.returns-in_ok-make_cube-in-Zero-clause-cached
returns-in_ok-make_cube-in-Zero-clause-cached c =
    let ns = c.args.pool.now.nodes in
    let made = c.in_ok-make_cube-in-Zero.ensures in
    record {
      there = made.cube;
      is = end_cube ns (binders_of (tree_of ns c.args.context)) c.args.id c.node-node.result.now c.node-node.ensures.tree c.node-node.ensures.form c.in-Zero.is
          ∙ ap (λ (t : Tree). Some t) (sym (made.tree ∙ ap (λ (kids : List ℕ). At CubeTwo 0 [] (trees_of (map (tree_of ns) kids))) c.new-in-Zero.ensures));
    }

pub returns-in-PointPair-clause-cached : goal.returns-in-PointPair-clause-cached
returns-in-PointPair-clause-cached c =
    let ns = c.args.pool.now.nodes in
    let n = c.node-node.result.now in
    let parts = c.two_kids-s.result in
    let whole = pair_cube ns (binders_of (tree_of ns c.args.context)) c.args.id n c.node-node.ensures.tree c.node-node.ensures.form parts.0 parts.1 c.in-PointPair.is c.two_kids-s.ensures in
    let cached = all_two (Caches c.args.self.now c.args.context) parts.0 parts.1 n.kids c.two_kids-s.ensures (c.requires.kids n c.node-node.ensures.node) in
    let left = (c.cube_at.ensures ns c.requires.known cached.0).is in
    let right = (c.cube_at-in-PointPair.ensures ns c.requires.known cached.1).is in
    let both = whole ∙ (λ i. option_and_then (λ l. option_and_then (λ r. Some (product l r)) (right i)) (left i)) in
    subst (λ (o : Option Tree). IfOk c.product_of.result (IsCubeId c.product_of.new.pool.nodes o)) (sym both) c.product_of.ensures.cube

pub returns-in-PointLeft-clause-cached : goal.returns-in-PointLeft-clause-cached
returns-in-PointLeft-clause-cached c =
    let ns = c.args.pool.now.nodes in
    let n = c.node-node.result.now in
    let s = c.one_kid.result in
    let cached = all_one (Caches c.args.self.now c.args.context) s n.kids c.one_kid.ensures (c.requires.kids n c.node-node.ensures.node) in
    let whole = left_cube ns (binders_of (tree_of ns c.args.context)) c.args.id n c.node-node.ensures.tree c.node-node.ensures.form s c.in-PointLeft.is c.one_kid.ensures
    ∙ ap (option_and_then left_part) (c.cube_at-in-PointLeft.ensures ns c.requires.known cached).is in
    subst (λ (o : Option Tree). IsCubeId ns o c.left_of.result) (sym whole) c.left_of.ensures

pub returns-in-PointRight-clause-cached : goal.returns-in-PointRight-clause-cached
returns-in-PointRight-clause-cached c =
    let ns = c.args.pool.now.nodes in
    let n = c.node-node.result.now in
    let s = c.one_kid-in-PointRight.result in
    let cached = all_one (Caches c.args.self.now c.args.context) s n.kids c.one_kid-in-PointRight.ensures (c.requires.kids n c.node-node.ensures.node) in
    let whole = right_cube ns (binders_of (tree_of ns c.args.context)) c.args.id n c.node-node.ensures.tree c.node-node.ensures.form s c.in-PointRight.is c.one_kid-in-PointRight.ensures
    ∙ ap (option_and_then right_part) (c.cube_at-in-PointRight.ensures ns c.requires.known cached).is in
    subst (λ (o : Option Tree). IsCubeId ns o c.right_of.result) (sym whole) c.right_of.ensures
