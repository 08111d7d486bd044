use Rattle.std.proofs.Common.{sym, ap, subst}
use Rattle.rz_rules.specs.Tree.{Tree, tree_of}
use Rattle.rz_rules.specs.Cube.{cube_two}
use Rattle.rz_tope_proof.specs.Place.{IsPoint, point_at}
use Rattle.rz_tope_proof.specs.Proving.{OfEqual, Through}
use Rattle.rz_rules.specs.Tope.{at_most, equal_points}
use Rattle.rz_tope_proof.proofs.Proving.{Extends-both}
use Rattle.rz_tope_search.proofs.Showing.{claim-at_most, side-shows, unless-same, unless-later, shows-later, side-later}
use Rattle.rz_tope_search.proofs.atoms.place_at_most.Goals as goal

pub returns-clause-shows : goal.returns-clause-shows
returns-clause-shows c at are proves =
    let nodes = at.nodes in
    let places = c.args.places.now in
    let first = c.args.first in
    let second = c.args.second in
    let old = c.args.proof.now in
    let low = c.point-low.ensures in
    let high = c.point-high.ensures in
    let s = tree_of nodes first.point in
    let u = tree_of nodes second.point in
    let l = tree_of nodes (point_at places first.place) in
    let h = tree_of nodes (point_at places second.place) in
    let low_is = subst (IsPoint nodes at.context) (sym low) (are.places_are.points first.place c.requires.first) in
    let high_is = subst (IsPoint nodes at.context) (sym high) (are.places_are.points second.place c.requires.second) in
    let p1 = c.equation_of_place.new.proof in
    let p2 = c.infer_if_some.new.proof in
    let p3 = c.infer_if_some-2.new.proof in
    let p4 = c.put_before.new.proof in
    let to2 = Extends-both old p1 p2 c.in_ok-back.ensures.extends c.in_ok-start.ensures.extends in
    let to3 = Extends-both old p2 p3 to2 c.in_ok-end.ensures.extends in
    let back = c.in_ok-back.ensures.shows at (record { places_are = are.places_are; side_is = are.first_is }) in
    let start = c.in_ok-start.ensures.shows at (equal_points cube_two l s) (at_most l s) l s
    (claim-at_most nodes at.context c.point-low.result first.point low_is are.first_is.point) (λ i. at_most (tree_of nodes (low i)) s)
    OfEqual back in
    let end = c.in_ok-end.ensures.shows at (equal_points cube_two u h) (at_most u h) u h
    (claim-at_most nodes at.context second.point c.point-high.result are.second_is.point high_is) (λ i. at_most u (tree_of nodes (high i)))
    OfEqual (side-shows at places p2 second (side-later nodes at.context places old p2 to2 second are.second_is)) in
    let middle = c.in_ok-middle.ensures.shows at (at_most l s) (at_most s u) (at_most l u)
    (claim-at_most nodes at.context c.point-low.result second.point low_is are.second_is.point) (λ i. at_most (tree_of nodes (low i)) u)
    Through
    (unless-same at p3 c.in_ok-start.start (at_most l s) l s (at_most s u) (at_most l u) (λ e. ap (λ (x : Tree). at_most x u) (sym e))
    (unless-later at p2 p3 c.in_ok-end.ensures.extends c.in_ok-start.start (at_most l s) l s start))
    (shows-later at old p3 to3 c.args.step (at_most s u) proves) in
    c.in_ok-last.ensures.shows at (at_most l u) (at_most u h) (at_most l h)
    (claim-at_most nodes at.context c.point-low.result c.point-high.result low_is high_is) (λ i. at_most (tree_of nodes (low i)) (tree_of nodes (high i)))
    Through middle
    (unless-same at p4 c.in_ok-end.end (at_most u h) u h (at_most l u) (at_most l h) (λ e. ap (at_most l) e)
    (unless-later at p3 p4 c.in_ok-middle.ensures.extends c.in_ok-end.end (at_most u h) u h end))
