use Rattle.std.proofs.Common.{◌<◌, sym, subst, arith}
use Rattle.rz_rules.specs.Tree.{tree_of}
use Rattle.rz_tope_proof.specs.Place.{IsPoint}
use Rattle.rz_tope_proof.specs.Proving.{FromBottom}
use Rattle.rz_rules.specs.Tope.{at_most, bottom}
use Rattle.rz_tope_search.specs.Showing.{places_tope}
use Rattle.rz_tope_search.proofs.Showing.{claim-at_most}
use Rattle.rz_tope_search.proofs.branches.infer_crossing.Goals as goal

pub returns-clause-shows : goal.returns-clause-shows
returns-clause-shows c at are shows =
    let nodes = at.nodes in
    let places = c.args.places.now in
    let first : 0 < places.count = omega (arith, places.bounds.0) in
    let second : 1 < places.count = omega (arith, places.bounds.0) in
    let one_is = subst (IsPoint nodes at.context) (sym c.point.ensures) (are.points 1 second) in
    let zero_is = subst (IsPoint nodes at.context) (sym c.point-2.ensures) (are.points 0 first) in
    c.in_ok-down.ensures.shows at bottom (places_tope nodes places 1 0)
    (claim-at_most nodes at.context c.point.result c.point-2.result one_is zero_is)
    (λ i. at_most (tree_of nodes (c.point.ensures i)) (tree_of nodes (c.point-2.ensures i))) FromBottom shows
