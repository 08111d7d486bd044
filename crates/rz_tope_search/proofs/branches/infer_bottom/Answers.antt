use Rattle.std.proofs.Common.{◌<◌, refl, sym, subst, arith}
use Rattle.rz_rules.specs.Tree.{tree_of}
use Rattle.rz_rules.specs.Cube.{cube_two}
use Rattle.rz_tope_proof.specs.Place.{IsPoint, point_at}
use Rattle.rz_tope_proof.specs.Proving.{BothWays, Apart}
use Rattle.rz_rules.specs.Tope.{bottom, equal_points, zero_end, one_end}
use Rattle.rz_tope_search.specs.Showing.{Shows, places_tope}
use Rattle.rz_tope_search.proofs.Showing.{claim-same, claim-bottom}
use Rattle.rz_tope_search.proofs.branches.infer_bottom.Goals as goal

pub returns-clause-shows : goal.returns-clause-shows
returns-clause-shows c at are up_shows down_shows =
    let nodes = at.nodes in
    let places = c.args.places.now in
    let first : 0 < places.count = omega (arith, places.bounds.0) in
    let second : 1 < places.count = omega (arith, places.bounds.0) in
    let zero_is = subst (IsPoint nodes at.context) (sym c.point.ensures) (are.points 0 first) in
    let one_is = subst (IsPoint nodes at.context) (sym c.point-2.ensures) (are.points 1 second) in
    let zero = tree_of nodes (point_at places 0) in
    let one = tree_of nodes (point_at places 1) in
    let same = c.in_ok-same.ensures.shows at (places_tope nodes places 0 1) (places_tope nodes places 1 0) (equal_points cube_two zero one)
    (claim-same nodes at.context places are c.point.result c.point-2.result zero_is one_is)
    (λ i. equal_points (are.interval i) (tree_of nodes (c.point.ensures i)) (tree_of nodes (c.point-2.ensures i))) BothWays up_shows down_shows in
    c.in_ok-step.ensures.shows at (equal_points cube_two zero_end one_end) bottom (claim-bottom nodes at.context) refl Apart
    (subst (Shows at c.infer_two.new.proof c.in_ok-same.same) (λ i. equal_points cube_two (are.zero i) (are.one i)) same)
