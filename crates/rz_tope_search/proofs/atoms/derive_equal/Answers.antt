use Rattle.std.proofs.Common.{sym, ap, subst}
use Rattle.rz_rules.specs.Tree.{Tree, tree_of}
use Rattle.rz_rules.specs.Cube.{cube_two}
use Rattle.rz_tope_proof.specs.Place.{IsPoint, point_at}
use Rattle.rz_tope_proof.specs.Proving.{Transitive, BothWays}
use Rattle.rz_rules.specs.Tope.{at_most, equal_points}
use Rattle.rz_tope_proof.proofs.Proving.{Extends-both}
use Rattle.rz_tope_search.proofs.Showing.{claim-same, same-says, side-shows, unless-same, unless-later, shows-later, side-later, place-later}
use Rattle.rz_tope_search.proofs.atoms.derive_equal.Goals as goal

pub returns-clause-shows : goal.returns-clause-shows
returns-clause-shows c at are up_proves down_proves =
    let nodes = at.nodes in
    let places = c.args.places.now in
    let first = c.args.first in
    let second = c.args.second in
    let old = c.args.proof.now in
    let low = c.point-low.ensures in
    let high = c.point-high.ensures in
    let s = tree_of nodes first.point in
    let u = tree_of nodes second.point in
    let l = tree_of nodes (point_at places first.place) in
    let h = tree_of nodes (point_at places second.place) in
    let low_is = subst (IsPoint nodes at.context) (sym low) (are.places_are.points first.place c.requires.first) in
    let high_is = subst (IsPoint nodes at.context) (sym high) (are.places_are.points second.place c.requires.second) in
    let p1 = c.infer_two.new.proof in
    let p2 = c.equation_of_place.new.proof in
    let p3 = c.put_before.new.proof in
    let to1 = c.in_ok-both.ensures.extends in
    let to2 = Extends-both old p1 p2 to1 c.in_ok-back.ensures.extends in
    let both = c.in_ok-both.ensures.shows at (at_most l h) (at_most h l) (equal_points cube_two l h)
    (claim-same nodes at.context places are.places_are c.point-low.result c.point-high.result low_is high_is)
    (λ i. equal_points (are.places_are.interval i) (tree_of nodes (low i)) (tree_of nodes (high i))) BothWays up_proves down_proves in
    let back = c.in_ok-back.ensures.shows at
    (place-later at places old p1 to1 second (record { places_are = are.places_are; side_is = are.second_is })) in
    let middle = c.in_ok-middle.ensures.shows at (equal_points cube_two s l) (equal_points cube_two l h) (equal_points cube_two s h)
    (claim-same nodes at.context places are.places_are first.point c.point-high.result are.first_is.point high_is)
    (λ i. equal_points (are.places_are.interval i) s (tree_of nodes (high i))) Transitive
    (unless-same at p2 first.equation (equal_points cube_two s l) s l (equal_points cube_two l h) (equal_points cube_two s h)
    (λ e. ap (λ (x : Tree). equal_points cube_two x h) (sym e))
    (side-shows at places p2 first (side-later nodes at.context places old p2 to2 first are.first_is)))
    (shows-later at p1 p2 c.in_ok-back.ensures.extends c.in_ok-both.both (equal_points cube_two l h) both) in
    c.in_ok-last.ensures.shows at (equal_points cube_two s h) (equal_points cube_two h u) (equal_points cube_two s u)
    (claim-same nodes at.context places are.places_are first.point second.point are.first_is.point are.second_is.point)
    (same-says nodes at.context places are.places_are first.point second.point) Transitive middle
    (unless-same at p3 c.in_ok-back.back (equal_points cube_two h u) h u (equal_points cube_two s h) (equal_points cube_two s u) (λ e. ap (equal_points cube_two s) e)
    (unless-later at p2 p3 c.in_ok-middle.ensures.extends c.in_ok-back.back (equal_points cube_two h u) h u back))
