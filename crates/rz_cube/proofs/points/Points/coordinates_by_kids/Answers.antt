use Rattle.std.proofs.Common.{◌≡◌, ℕ, List, ◌++◌, Option, take, drop, sym, ap, subst, ◌∙◌}
use Rattle.std.specs.Prelude.{IfOk, option_map}
use Rattle.rz_rules.specs.declared.coordinates.Coord.{Coord}
use Rattle.rz_rules.specs.Tree.{tree_of}
use Rattle.rz_rules.specs.Coordinate.{coordinates_of_variable, left_width}
use Rattle.rz_cube.specs.Point.{binders_at}
use Rattle.rz_cube.proofs.CachedPoints.{entry_cached, variable_list, zero_list, one_list, pair_list, left_list, right_list, kid_cached, kids_cached, kid_is, first_is, second_is, is_cached}
use Rattle.rz_cube.proofs.points.Points.coordinates_by_kids.Goals as goal

pub point-requires : goal.point-requires
point-requires c = is_cached c.args.pool.now.nodes c.args.entries.now c.args.self.now c.two_kids-s.result.0 (kids_cached c.args.pool.now.nodes c.args.entries.now c.args.self.now c.args.id c.node-node.result.now c.requires.kids c.node-node.ensures.node c.two_kids-s.result.0 c.two_kids-s.result.1 c.two_kids-s.ensures).0

pub point-requires-in-PointPair : goal.point-requires-in-PointPair
point-requires-in-PointPair c = is_cached c.args.pool.now.nodes c.args.entries.now c.args.self.now c.two_kids-s.result.1 (kids_cached c.args.pool.now.nodes c.args.entries.now c.args.self.now c.args.id c.node-node.result.now c.requires.kids c.node-node.ensures.node c.two_kids-s.result.0 c.two_kids-s.result.1 c.two_kids-s.ensures).1

pub point-point-requires : goal.point-point-requires
point-point-requires c = is_cached c.args.pool.now.nodes c.args.entries.now c.args.self.now c.one_kid.result (kid_cached c.args.pool.now.nodes c.args.entries.now c.args.self.now c.args.id c.node-node.result.now c.requires.kids c.node-node.ensures.node c.one_kid.result c.one_kid.ensures)

pub point-point-requires-in-PointRight : goal.point-point-requires-in-PointRight
point-point-requires-in-PointRight c =
    is_cached c.args.pool.now.nodes c.args.entries.now c.args.self.now c.one_kid-in-PointRight.result (kid_cached c.args.pool.now.nodes c.args.entries.now c.args.self.now c.args.id c.node-node.result.now c.requires.kids c.node-node.ensures.node c.one_kid-in-PointRight.result c.one_kid-in-PointRight.ensures)

pub width_of_left-requires : goal.width_of_left-requires
width_of_left-requires c = (kid_is c.args.pool.now.nodes c.args.entries.now c.args.self.now c.args.id c.node-node.result.now c.requires.kids c.node-node.ensures.node c.one_kid.result c.one_kid.ensures c.point-point.result.now c.point-point.ensures).cube.there

pub width_of_left-requires-in-PointRight : goal.width_of_left-requires-in-PointRight
width_of_left-requires-in-PointRight c = (kid_is c.args.pool.now.nodes c.args.entries.now c.args.self.now c.args.id c.node-node.result.now c.requires.kids c.node-node.ensures.node c.one_kid-in-PointRight.result c.one_kid-in-PointRight.ensures c.point-point-in-PointRight.result.now c.point-point-in-PointRight.ensures).cube.there

pub returns-in-Zero : goal.returns-in-Zero
returns-in-Zero c = subst (λ (of : List Coord). IfOk c.only.result (λ list. list ≡ of)) (sym (zero_list c.args.pool.now.nodes (binders_at c.args.pool.now.nodes c.args.entries.now) c.args.id c.node-node.result.now c.node-node.ensures.tree c.node-node.ensures.form c.in-Zero.is)) c.only.ensures

pub returns-in-One : goal.returns-in-One
returns-in-One c = subst (λ (of : List Coord). IfOk c.only-in-One.result (λ list. list ≡ of)) (sym (one_list c.args.pool.now.nodes (binders_at c.args.pool.now.nodes c.args.entries.now) c.args.id c.node-node.result.now c.node-node.ensures.tree c.node-node.ensures.form c.in-One.is)) c.only-in-One.ensures

pub returns-in-PointVariable : goal.returns-in-PointVariable
returns-in-PointVariable c =
    let ns = c.args.pool.now.nodes in
    let variable = c.node-node.result.now.number in
    let cached = entry_cached ns c.args.entries.now variable c.requires.entries in
    subst (λ (of : List Coord). IfOk c.variable_coordinates.result (λ list. list ≡ of))
    (ap (λ (cube : Option ℕ). coordinates_of_variable variable (option_map (tree_of ns) cube)) c.entry_cube-cube.ensures
    ∙ ap (coordinates_of_variable variable) (sym cached.is) ∙ sym (variable_list c.args.pool.now.nodes (binders_at c.args.pool.now.nodes c.args.entries.now) c.args.id c.node-node.result.now c.node-node.ensures.tree c.node-node.ensures.form c.in-PointVariable.is))
    c.variable_coordinates.ensures

pub returns-in-PointPair : goal.returns-in-PointPair
returns-in-PointPair c =
    let left = c.as_slice-first.ensures ∙ (first_is c.args.pool.now.nodes c.args.entries.now c.args.self.now c.args.id c.node-node.result.now c.requires.kids c.node-node.ensures.node c.two_kids-s.result.0 c.two_kids-s.result.1 c.two_kids-s.ensures c.point.result.now c.point.ensures).list in
    let right = c.as_slice.ensures ∙ (second_is c.args.pool.now.nodes c.args.entries.now c.args.self.now c.args.id c.node-node.result.now c.requires.kids c.node-node.ensures.node c.two_kids-s.result.0 c.two_kids-s.result.1 c.two_kids-s.ensures c.point-in-PointPair.result.now c.point-in-PointPair.ensures).list in
    subst (λ (of : List Coord). IfOk c.joined.result (λ list. list ≡ of))
    ((λ i. left i ++ right i) ∙ sym (pair_list c.args.pool.now.nodes (binders_at c.args.pool.now.nodes c.args.entries.now) c.args.id c.node-node.result.now c.node-node.ensures.tree c.node-node.ensures.form c.two_kids-s.result.0 c.two_kids-s.result.1 c.in-PointPair.is c.two_kids-s.ensures))
    c.joined.ensures

pub returns-in_ok-width-in-PointLeft : goal.returns-in_ok-width-in-PointLeft
returns-in_ok-width-in-PointLeft c =
    let kid = kid_is c.args.pool.now.nodes c.args.entries.now c.args.self.now c.args.id c.node-node.result.now c.requires.kids c.node-node.ensures.node c.one_kid.result c.one_kid.ensures c.point-point.result.now c.point-point.ensures in
    let width = c.in_ok-width-in-PointLeft.ensures ∙ ap left_width (sym kid.cube.is) in
    let list = c.as_slice-in-PointLeft.ensures ∙ kid.list in
    subst (λ (of : List Coord). IfOk c.copied.result (λ list. list ≡ of))
    (c.front.ensures ∙ (λ i. take (width i) (list i)) ∙ sym (left_list c.args.pool.now.nodes (binders_at c.args.pool.now.nodes c.args.entries.now) c.args.id c.node-node.result.now c.node-node.ensures.tree c.node-node.ensures.form c.one_kid.result c.in-PointLeft.is c.one_kid.ensures))
    c.copied.ensures

pub returns-in_ok-width-in-PointRight : goal.returns-in_ok-width-in-PointRight
returns-in_ok-width-in-PointRight c =
    let kid = kid_is c.args.pool.now.nodes c.args.entries.now c.args.self.now c.args.id c.node-node.result.now c.requires.kids c.node-node.ensures.node c.one_kid-in-PointRight.result c.one_kid-in-PointRight.ensures c.point-point-in-PointRight.result.now c.point-point-in-PointRight.ensures in
    let width = c.in_ok-width-in-PointRight.ensures ∙ ap left_width (sym kid.cube.is) in
    let list = c.as_slice-in-PointRight.ensures ∙ kid.list in
    subst (λ (of : List Coord). IfOk c.copied-in-PointRight.result (λ list. list ≡ of))
    (c.back.ensures ∙ (λ i. drop (width i) (list i)) ∙ sym (right_list c.args.pool.now.nodes (binders_at c.args.pool.now.nodes c.args.entries.now) c.args.id c.node-node.result.now c.node-node.ensures.tree c.node-node.ensures.form c.one_kid-in-PointRight.result c.in-PointRight.is c.one_kid-in-PointRight.ensures))
    c.copied-in-PointRight.ensures
