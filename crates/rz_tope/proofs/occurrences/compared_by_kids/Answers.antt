use Rattle.std.proofs.Common.{◌≡◌, ℕ, List, ◌++◌, nat_eq, ◌∙◌}
use Rattle.std.specs.HashMap.{get}
use Rattle.rz_rules.specs.Tree.{tree_of}
use Rattle.rz_rules.specs.Validity.{compared}
use Rattle.rz_cube.specs.Point.{binders_at}
use Rattle.rz_tope.specs.Occurrence.{occurrences}
use Rattle.rz_tope.specs.Tope.{KidsHaveLists}
use Rattle.rz_tope.proofs.TopeNodes.{IfOk-map, parts_list, equal_list, at_most_list}
use Rattle.rz_tope.proofs.occurrences.compared_by_kids.Goals as goal

pub returns-in-Conjunction : goal.returns-in-Conjunction
returns-in-Conjunction c =
    IfOk-map (λ list. list ≡ occurrences (c.as_slice.result.now ++ c.as_slice-in-Conjunction.result.now))
    (λ list. (entries : List ℕ) → KidsHaveLists c.args.pool.now.nodes entries c.args.points.now (get nat_eq c.args.table.now) c.args.id → list ≡ occurrences (compared (binders_at c.args.pool.now.nodes entries) (tree_of c.args.pool.now.nodes c.args.id)))
    c.merged.result
    (λ list is entries kids. is ∙ (λ i. occurrences (c.as_slice.ensures i ++ c.as_slice-in-Conjunction.ensures i))
    ∙ parts_list c.args.pool.now.nodes entries c.args.points.now c.args.id c.node-node.result.now c.node-node.ensures.tree c.node-node.ensures.form c.node-node.ensures.node (get nat_eq c.args.table.now) kids c.two_kids-p.result.0 c.two_kids-p.result.1 c.in-Conjunction.is c.two_kids-p.ensures c.index.result.now c.index-in-Conjunction.result.now c.index.ensures c.index-in-Conjunction.ensures)
    c.merged.ensures

pub returns-in-EqualPoints : goal.returns-in-EqualPoints
returns-in-EqualPoints c =
    IfOk-map (λ list. list ≡ occurrences (c.as_slice-first.result.now ++ c.as_slice-in-EqualPoints.result.now))
    (λ list. (entries : List ℕ) → KidsHaveLists c.args.pool.now.nodes entries c.args.points.now (get nat_eq c.args.table.now) c.args.id → list ≡ occurrences (compared (binders_at c.args.pool.now.nodes entries) (tree_of c.args.pool.now.nodes c.args.id)))
    c.merged-in-EqualPoints.result
    (λ list is entries kids. is ∙ (λ i. occurrences (c.as_slice-first.ensures i ++ c.as_slice-in-EqualPoints.ensures i))
    ∙ equal_list c.args.pool.now.nodes entries c.args.points.now c.args.id c.node-node.result.now c.node-node.ensures.tree c.node-node.ensures.form c.node-node.ensures.node (get nat_eq c.args.table.now) kids c.three_kids-s.result.0 c.three_kids-s.result.1 c.three_kids-s.result.2 c.in-EqualPoints.is c.three_kids-s.ensures c.point.result.now c.point-in-EqualPoints.result.now c.point.ensures c.point-in-EqualPoints.ensures)
    c.merged-in-EqualPoints.ensures

pub returns-in-AtMost : goal.returns-in-AtMost
returns-in-AtMost c =
    IfOk-map (λ list. list ≡ occurrences (c.as_slice-first-in-AtMost.result.now ++ c.as_slice-in-AtMost.result.now))
    (λ list. (entries : List ℕ) → KidsHaveLists c.args.pool.now.nodes entries c.args.points.now (get nat_eq c.args.table.now) c.args.id → list ≡ occurrences (compared (binders_at c.args.pool.now.nodes entries) (tree_of c.args.pool.now.nodes c.args.id)))
    c.merged-in-AtMost.result
    (λ list is entries kids. is ∙ (λ i. occurrences (c.as_slice-first-in-AtMost.ensures i ++ c.as_slice-in-AtMost.ensures i))
    ∙ at_most_list c.args.pool.now.nodes entries c.args.points.now c.args.id c.node-node.result.now c.node-node.ensures.tree c.node-node.ensures.form c.node-node.ensures.node (get nat_eq c.args.table.now) kids c.two_kids-s.result.0 c.two_kids-s.result.1 c.in-AtMost.is c.two_kids-s.ensures c.point-in-AtMost.result.now c.point-in-AtMost-2.result.now c.point-in-AtMost.ensures c.point-in-AtMost-2.ensures)
    c.merged-in-AtMost.ensures
