use Rattle.std.proofs.Common.{◌<◌, sym, subst, arith, ap, ◌∙◌}
use Rattle.rz_rules.specs.Tree.{Tree, tree_of}
use Rattle.rz_rules.specs.Cube.{cube_two}
use Rattle.rz_tope_proof.specs.Place.{IsPoint, point_at}
use Rattle.rz_tope_proof.specs.Proving.{Reflexive, OfEqual, Least, Greatest}
use Rattle.rz_rules.specs.Tope.{at_most, equal_points, zero_end, one_end}
use Rattle.rz_tope_proof.proofs.Proving.{Extends-both}
use Rattle.rz_tope_search.specs.Showing.{places_tope, Shows}
use Rattle.rz_tope_search.proofs.Showing.{claim-at_most, claim-same, shows-later}
use Rattle.rz_tope_search.proofs.table.infer_ends.Goals as goal

pub returns-clause-shows : goal.returns-clause-shows
returns-clause-shows c at are =
    let nodes = at.nodes in
    let places = c.args.places.now in
    let place = c.args.place in
    let point = c.point-point.result in
    let e = c.point-point.ensures in
    let first : 0 < places.count = omega (arith, places.bounds.0) in
    let second : 1 < places.count = omega (arith, places.bounds.0) in
    let point_is = subst (IsPoint nodes at.context) (sym e) (are.points place c.requires) in
    let zero_is = subst (IsPoint nodes at.context) (sym c.point.ensures) (are.points 0 first) in
    let one_is = subst (IsPoint nodes at.context) (sym c.point-2.ensures) (are.points 1 second) in
    let p = tree_of nodes (point_at places place) in
    let p2 = c.infer_one.new.proof in
    let p3 = c.infer_axiom-2.new.proof in
    let p4 = c.infer_axiom-3.new.proof in
    let from2 = Extends-both p2 p3 p4 c.in_ok-above.ensures.extends c.in_ok-below.ensures.extends in
    let same = c.in_ok-same.ensures.shows at (equal_points cube_two p p) (claim-same nodes at.context places are point point point_is point_is)
    (λ i. equal_points (are.interval i) (tree_of nodes (e i)) (tree_of nodes (e i))) Reflexive in
    let itself = c.in_ok-itself.ensures.shows at (equal_points cube_two p p) (at_most p p) (claim-at_most nodes at.context point point point_is point_is)
    (λ i. at_most (tree_of nodes (e i)) (tree_of nodes (e i))) OfEqual same in
    let above = c.in_ok-above.ensures.shows at (at_most zero_end p) (claim-at_most nodes at.context c.point.result point zero_is point_is)
    (ap (λ (x : Tree). at_most x (tree_of nodes point)) (ap (tree_of nodes) c.point.ensures ∙ are.zero)
    ∙ ap (λ (x : Tree). at_most zero_end x) (ap (tree_of nodes) e)) Least in
    let below = c.in_ok-below.ensures.shows at (at_most p one_end) (claim-at_most nodes at.context point c.point-2.result point_is one_is)
    (ap (λ (x : Tree). at_most (tree_of nodes point) x) (ap (tree_of nodes) c.point-2.ensures ∙ are.one) ∙ ap (λ (x : Tree). at_most x one_end) (ap (tree_of nodes) e)) Greatest in (
      shows-later at p2 p4 from2 c.in_ok-itself.itself (at_most p p) itself,
      shows-later at p3 p4 c.in_ok-below.ensures.extends c.in_ok-above.above (places_tope nodes places 0 place)
          (subst (λ (x : Tree). Shows at p3 c.in_ok-above.above (at_most x p)) (sym are.zero) above),
      subst (λ (x : Tree). Shows at p4 c.in_ok-below.below (at_most p x)) (sym are.one) below,
    )
