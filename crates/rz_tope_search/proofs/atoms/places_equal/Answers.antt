use Rattle.std.proofs.Common.{sym, subst}
use Rattle.rz_rules.specs.Tree.{tree_of}
use Rattle.rz_rules.specs.Cube.{cube_two}
use Rattle.rz_tope_proof.specs.Place.{IsPoint, point_at}
use Rattle.rz_tope_proof.specs.Proving.{Symmetric, OfEqual}
use Rattle.rz_rules.specs.Tope.{at_most, equal_points}
use Rattle.rz_tope_proof.proofs.Proving.{Extends-both}
use Rattle.rz_tope_search.proofs.Showing.{claim-at_most, claim-same, shows-later}
use Rattle.rz_tope_search.proofs.atoms.places_equal.Goals as goal

pub returns-clause-up : goal.returns-clause-up
returns-clause-up c at are proves =
    let nodes = at.nodes in
    let places = c.args.places.now in
    let first = c.args.first in
    let second = c.args.second in
    let old = c.args.proof.now in
    let low = c.point-low.ensures in
    let high = c.point-high.ensures in
    let s = tree_of nodes first.point in
    let u = tree_of nodes second.point in
    let l = tree_of nodes (point_at places first.place) in
    let h = tree_of nodes (point_at places second.place) in
    let low_is = subst (IsPoint nodes at.context) (sym low) (are.places_are.points first.place c.requires.first) in
    let high_is = subst (IsPoint nodes at.context) (sym high) (are.places_are.points second.place c.requires.second) in
    let p1 = c.equate_places.new.proof in
    let p2 = c.infer_one.new.proof in
    let to4 = Extends-both p2 c.infer_one-2.new.proof c.infer_one-3.new.proof c.in_ok-back.ensures.extends c.in_ok-down.ensures.extends in
    let same = c.in_ok-same.ensures.shows at are proves in
    shows-later at p2 c.infer_one-3.new.proof to4 c.in_ok-up.up (at_most l h)
    (c.in_ok-up.ensures.shows at (equal_points cube_two l h) (at_most l h)
    (claim-at_most nodes at.context c.point-low.result c.point-high.result low_is high_is) (λ i. at_most (tree_of nodes (low i)) (tree_of nodes (high i)))
    OfEqual same)

pub returns-clause-down : goal.returns-clause-down
returns-clause-down c at are proves =
    let nodes = at.nodes in
    let places = c.args.places.now in
    let first = c.args.first in
    let second = c.args.second in
    let old = c.args.proof.now in
    let low = c.point-low.ensures in
    let high = c.point-high.ensures in
    let s = tree_of nodes first.point in
    let u = tree_of nodes second.point in
    let l = tree_of nodes (point_at places first.place) in
    let h = tree_of nodes (point_at places second.place) in
    let low_is = subst (IsPoint nodes at.context) (sym low) (are.places_are.points first.place c.requires.first) in
    let high_is = subst (IsPoint nodes at.context) (sym high) (are.places_are.points second.place c.requires.second) in
    let p1 = c.equate_places.new.proof in
    let p2 = c.infer_one.new.proof in
    let same = c.in_ok-same.ensures.shows at are proves in
    let back = c.in_ok-back.ensures.shows at (equal_points cube_two l h) (equal_points cube_two h l)
    (claim-same nodes at.context places are.places_are c.point-high.result c.point-low.result high_is low_is)
    (λ i. equal_points (are.places_are.interval i) (tree_of nodes (high i)) (tree_of nodes (low i))) Symmetric
    (shows-later at p1 p2 c.in_ok-up.ensures.extends c.in_ok-same.same (equal_points cube_two l h) same) in
    c.in_ok-down.ensures.shows at (equal_points cube_two h l) (at_most h l)
    (claim-at_most nodes at.context c.point-high.result c.point-low.result high_is low_is) (λ i. at_most (tree_of nodes (high i)) (tree_of nodes (low i)))
    OfEqual back
