use Rattle.std.proofs.Common.{refl, sym, ap, subst}
use Rattle.rz_rules.specs.Tree.{Tree, tree_of}
use Rattle.rz_rules.specs.Cube.{cube_two}
use Rattle.rz_tope_proof.specs.Place.{IsPoint, point_at}
use Rattle.rz_tope_proof.specs.Proving.{OfEqual, Through}
use Rattle.rz_rules.specs.Tope.{at_most, equal_points}
use Rattle.rz_tope_proof.proofs.Proving.{Extends-both}
use Rattle.rz_tope_search.proofs.Showing.{claim-at_most, side-shows, unless-same, unless-later, shows-later, place-later}
use Rattle.rz_tope_search.proofs.atoms.derive_at_most.Goals as goal

pub returns-clause-shows : goal.returns-clause-shows
returns-clause-shows c at are proves =
    let nodes = at.nodes in
    let places = c.args.places.now in
    let first = c.args.first in
    let second = c.args.second in
    let old = c.args.proof.now in
    let low = c.point-low.ensures in
    let high = c.point-high.ensures in
    let s = tree_of nodes first.point in
    let u = tree_of nodes second.point in
    let l = tree_of nodes (point_at places first.place) in
    let h = tree_of nodes (point_at places second.place) in
    let low_is = subst (IsPoint nodes at.context) (sym low) (are.places_are.points first.place c.requires.first) in
    let high_is = subst (IsPoint nodes at.context) (sym high) (are.places_are.points second.place c.requires.second) in
    let p1 = c.infer_if_some.new.proof in
    let p3 = c.infer_if_some-2.new.proof in
    let p4 = c.put_before.new.proof in
    let from1 = Extends-both p1 c.equation_of_place.new.proof p3 c.in_ok-back.ensures.extends c.in_ok-end.ensures.extends in
    let from0 = Extends-both old p1 p3 c.in_ok-start.ensures.extends from1 in
    let start = c.in_ok-start.ensures.shows at (equal_points cube_two s l) (at_most s l) s l
    (claim-at_most nodes at.context first.point c.point-low.result are.first_is.point low_is) (λ i. at_most s (tree_of nodes (low i)))
    OfEqual (side-shows at places old first are.first_is) in
    let back = c.in_ok-back.ensures.shows at
    (place-later at places old p1 c.in_ok-start.ensures.extends second (record { places_are = are.places_are; side_is = are.second_is })) in
    let end = c.in_ok-end.ensures.shows at (equal_points cube_two h u) (at_most h u) h u
    (claim-at_most nodes at.context c.point-high.result second.point high_is are.second_is.point) (λ i. at_most (tree_of nodes (high i)) u)
    OfEqual back in
    let middle = c.in_ok-middle.ensures.shows at (at_most s l) (at_most l h) (at_most s h)
    (claim-at_most nodes at.context first.point c.point-high.result are.first_is.point high_is) (λ i. at_most s (tree_of nodes (high i)))
    Through
    (unless-same at p3 c.in_ok-start.start (at_most s l) s l (at_most l h) (at_most s h) (λ e. ap (λ (x : Tree). at_most x h) (sym e))
    (unless-later at p1 p3 from1 c.in_ok-start.start (at_most s l) s l start))
    (shows-later at old p3 from0 c.args.step (at_most l h) proves) in
    c.in_ok-last.ensures.shows at (at_most s h) (at_most h u) (at_most s u)
    (claim-at_most nodes at.context first.point second.point are.first_is.point are.second_is.point) refl
    Through middle
    (unless-same at p4 c.in_ok-end.end (at_most h u) h u (at_most s h) (at_most s u) (λ e. ap (at_most s) e)
    (unless-later at p3 p4 c.in_ok-middle.ensures.extends c.in_ok-end.end (at_most h u) h u end))
