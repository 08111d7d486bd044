use Rattle.std.proofs.Common.{ℕ, List, ◌&&◌, map, nat_eq, sym, ap, ◌∙◌}
use Rattle.std.specs.Prelude.{◌||◌, nat_le, slice_index}
use Rattle.std.specs.HashMap.{get}
use Rattle.std.specs.Cmp.Lexicographic.{pointwise}
use Rattle.rz_rules.specs.Validity.{rank_in}
use Rattle.rz_tope.proofs.TopeNodes.{top_true, and_true, or_true, equal_true, at_most_true}
use Rattle.rz_tope.proofs.truths.truth_by_kids.Goals as goal

pub returns-in-Top : goal.returns-in-Top
returns-in-Top c entries kids = top_true c.args.pool.now.nodes entries c.args.points.now c.args.id c.node-node.result.now c.node-node.ensures.tree c.node-node.ensures.form c.node-node.ensures.node c.args.ranks.now (get nat_eq c.args.table.now) kids c.in-Top.is

pub returns-then-first : goal.returns-then-first
returns-then-first c entries kids = ap (λ first. first && c.index-second.result.now) (sym c.if-first.true) ∙ and_true c.args.pool.now.nodes entries c.args.points.now c.args.id c.node-node.result.now c.node-node.ensures.tree c.node-node.ensures.form c.node-node.ensures.node c.args.ranks.now (get nat_eq c.args.table.now) kids c.two_kids-p.result.0 c.two_kids-p.result.1 c.in-Conjunction.is c.two_kids-p.ensures c.index-first.result.now c.index-second.result.now c.index-first.ensures c.index-second.ensures

pub returns-else-first : goal.returns-else-first
returns-else-first c entries kids = c.if-first.false ∙ ap (λ first. first && c.index-second.result.now) (sym c.if-first.false) ∙ and_true c.args.pool.now.nodes entries c.args.points.now c.args.id c.node-node.result.now c.node-node.ensures.tree c.node-node.ensures.form c.node-node.ensures.node c.args.ranks.now (get nat_eq c.args.table.now) kids c.two_kids-p.result.0 c.two_kids-p.result.1 c.in-Conjunction.is c.two_kids-p.ensures c.index-first.result.now c.index-second.result.now c.index-first.ensures c.index-second.ensures

pub returns-then-first-2 : goal.returns-then-first-2
returns-then-first-2 c entries kids = c.if-first-2.true ∙ ap (λ first. first || c.index-second-in-Disjunction.result.now) (sym c.if-first-2.true) ∙ or_true c.args.pool.now.nodes entries c.args.points.now c.args.id c.node-node.result.now c.node-node.ensures.tree c.node-node.ensures.form c.node-node.ensures.node c.args.ranks.now (get nat_eq c.args.table.now) kids c.two_kids-p-in-Disjunction.result.0 c.two_kids-p-in-Disjunction.result.1 c.in-Disjunction.is c.two_kids-p-in-Disjunction.ensures c.index-first-in-Disjunction.result.now c.index-second-in-Disjunction.result.now c.index-first-in-Disjunction.ensures c.index-second-in-Disjunction.ensures

pub returns-else-first-2 : goal.returns-else-first-2
returns-else-first-2 c entries kids = ap (λ first. first || c.index-second-in-Disjunction.result.now) (sym c.if-first-2.false) ∙ or_true c.args.pool.now.nodes entries c.args.points.now c.args.id c.node-node.result.now c.node-node.ensures.tree c.node-node.ensures.form c.node-node.ensures.node c.args.ranks.now (get nat_eq c.args.table.now) kids c.two_kids-p-in-Disjunction.result.0 c.two_kids-p-in-Disjunction.result.1 c.in-Disjunction.is c.two_kids-p-in-Disjunction.ensures c.index-first-in-Disjunction.result.now c.index-second-in-Disjunction.result.now c.index-first-in-Disjunction.ensures c.index-second-in-Disjunction.ensures

pub returns-in_ok-second-in-EqualPoints : goal.returns-in_ok-second-in-EqualPoints
returns-in_ok-second-in-EqualPoints c entries kids =
    let left = c.as_slice-in-EqualPoints-2.ensures.value ∙ c.in_ok-first-in-EqualPoints.ensures ∙ ap (map (rank_in c.args.ranks.now)) c.as_slice.ensures in
    let right = c.as_slice-in-EqualPoints-3.ensures.value ∙ c.in_ok-second-in-EqualPoints.ensures ∙ ap (map (rank_in c.args.ranks.now)) c.as_slice-in-EqualPoints.ensures in
    c.eq.ensures ∙ (λ i. pointwise nat_eq (left i) (right i))
    ∙ equal_true c.args.pool.now.nodes entries c.args.points.now c.args.id c.node-node.result.now c.node-node.ensures.tree c.node-node.ensures.form c.node-node.ensures.node c.args.ranks.now (get nat_eq c.args.table.now) kids c.three_kids-s.result.0 c.three_kids-s.result.1 c.three_kids-s.result.2 c.in-EqualPoints.is c.three_kids-s.ensures c.point.result.now c.point-in-EqualPoints.result.now c.point.ensures c.point-in-EqualPoints.ensures

pub returns-in_ok-second-in-AtMost : goal.returns-in_ok-second-in-AtMost
returns-in_ok-second-in-AtMost c entries kids =
    let left = c.first_value.ensures ∙ ap (λ (xs : List ℕ). slice_index xs 0) (c.deref.ensures.value ∙ c.in_ok-first-in-AtMost.ensures ∙ ap (map (rank_in c.args.ranks.now)) c.as_slice-in-AtMost.ensures) in
    let right = c.first_value-in-AtMost.ensures ∙ ap (λ (xs : List ℕ). slice_index xs 0) (c.deref-in-AtMost.ensures.value ∙ c.in_ok-second-in-AtMost.ensures ∙ ap (map (rank_in c.args.ranks.now)) c.as_slice-in-AtMost-2.ensures) in
    (λ i. nat_le (left i) (right i))
    ∙ at_most_true c.args.pool.now.nodes entries c.args.points.now c.args.id c.node-node.result.now c.node-node.ensures.tree c.node-node.ensures.form c.node-node.ensures.node c.args.ranks.now (get nat_eq c.args.table.now) kids c.two_kids-s.result.0 c.two_kids-s.result.1 c.in-AtMost.is c.two_kids-s.ensures c.point-in-AtMost.result.now c.point-in-AtMost-2.result.now c.point-in-AtMost.ensures c.point-in-AtMost-2.ensures
