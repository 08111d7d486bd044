use Rattle.std.proofs.Common.{sym, subst}
use Rattle.rz_rules.specs.Tree.{tree_of}
use Rattle.rz_rules.specs.Cube.{cube_two}
use Rattle.rz_tope_proof.specs.Place.{IsPoint, point_at}
use Rattle.rz_tope_proof.specs.Proving.{Symmetric}
use Rattle.rz_rules.specs.Tope.{equal_points}
use Rattle.rz_tope_search.proofs.Showing.{claim-same, side-shows, unless-same}
use Rattle.rz_tope_search.proofs.atoms.equation_of_place.Goals as goal

pub returns-clause-shows : goal.returns-clause-shows
returns-clause-shows c at has =
    let nodes = at.nodes in
    let places = c.args.places.now in
    let side = c.args.side in
    let same = c.point.ensures in
    let place = tree_of nodes (point_at places side.place) in
    let point = tree_of nodes side.point in
    let place_is = subst (IsPoint nodes at.context) (sym same) (has.places_are.points side.place c.requires) in
    c.in_ok-step.ensures.shows at (equal_points cube_two point place) (equal_points cube_two place point) place point
    (claim-same nodes at.context places has.places_are c.point.result side.point place_is has.side_is.point)
    (λ i. equal_points (has.places_are.interval i) (tree_of nodes (same i)) point)
    Symmetric
    (unless-same at c.args.proof.now side.equation (equal_points cube_two point place) point place place point (λ e. sym e)
    (side-shows at places c.args.proof.now side has.side_is))
