use Rattle.std.proofs.Common.{sym, ap, subst}
use Rattle.rz_rules.specs.Tree.{Tree, tree_of}
use Rattle.rz_rules.specs.Cube.{cube_two}
use Rattle.rz_tope_proof.specs.Place.{IsPoint, point_at}
use Rattle.rz_tope_proof.specs.Proving.{Transitive}
use Rattle.rz_rules.specs.Tope.{equal_points}
use Rattle.rz_tope_proof.proofs.Proving.{Extends-both}
use Rattle.rz_tope_search.proofs.Showing.{claim-same, side-shows, unless-same, shows-later, side-later}
use Rattle.rz_tope_search.proofs.atoms.equate_places.Goals as goal

pub returns-clause-shows : goal.returns-clause-shows
returns-clause-shows c at are proves =
    let nodes = at.nodes in
    let places = c.args.places.now in
    let first = c.args.first in
    let second = c.args.second in
    let old = c.args.proof.now in
    let low = c.point-low.ensures in
    let high = c.point-high.ensures in
    let s = tree_of nodes first.point in
    let u = tree_of nodes second.point in
    let l = tree_of nodes (point_at places first.place) in
    let h = tree_of nodes (point_at places second.place) in
    let low_is = subst (IsPoint nodes at.context) (sym low) (are.places_are.points first.place c.requires.first) in
    let high_is = subst (IsPoint nodes at.context) (sym high) (are.places_are.points second.place c.requires.second) in
    let p1 = c.equation_of_place.new.proof in
    let p2 = c.put_before.new.proof in
    let to1 = c.in_ok-start.ensures.extends in
    let to2 = Extends-both old p1 p2 to1 c.in_ok-middle.ensures.extends in
    let start = c.in_ok-start.ensures.shows at (record { places_are = are.places_are; side_is = are.first_is }) in
    let middle = c.in_ok-middle.ensures.shows at (equal_points cube_two l s) (equal_points cube_two s u) (equal_points cube_two l u)
    (claim-same nodes at.context places are.places_are c.point-low.result second.point low_is are.second_is.point)
    (λ i. equal_points (are.places_are.interval i) (tree_of nodes (low i)) u) Transitive
    (unless-same at p1 c.in_ok-start.start (equal_points cube_two l s) l s (equal_points cube_two s u) (equal_points cube_two l u)
    (λ e. ap (λ (x : Tree). equal_points cube_two x u) (sym e))
    start)
    (shows-later at old p1 to1 c.args.step (equal_points cube_two s u) proves) in
    c.in_ok-last.ensures.shows at (equal_points cube_two l u) (equal_points cube_two u h) (equal_points cube_two l h)
    (claim-same nodes at.context places are.places_are c.point-low.result c.point-high.result low_is high_is)
    (λ i. equal_points (are.places_are.interval i) (tree_of nodes (low i)) (tree_of nodes (high i))) Transitive middle
    (unless-same at p2 second.equation (equal_points cube_two u h) u h (equal_points cube_two l u) (equal_points cube_two l h) (λ e. ap (equal_points cube_two l) e)
    (side-shows at places p2 second (side-later nodes at.context places old p2 to2 second are.second_is)))
