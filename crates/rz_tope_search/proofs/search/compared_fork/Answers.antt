use Rattle.std.proofs.Common.{sym, subst}
use Rattle.rz_rules.specs.Tree.{tree_of}
use Rattle.rz_tope_proof.specs.Place.{IsPoint}
use Rattle.rz_tope_proof.specs.Proving.{Total}
use Rattle.rz_rules.specs.Tope.{at_most, disjunction}
use Rattle.rz_tope_search.specs.Showing.{places_tope}
use Rattle.rz_tope_search.proofs.Showing.{claim-either}
use Rattle.rz_tope_search.proofs.search.compared_fork.Goals as goal

pub returns-clause-proves : goal.returns-clause-proves
returns-clause-proves c at parts are =
    let nodes = at.nodes in
    let places = c.args.places.now in
    let low_is = subst (IsPoint nodes at.context) (sym c.point.ensures) (are.points c.args.low c.requires.low) in
    let high_is = subst (IsPoint nodes at.context) (sym c.point-2.ensures) (are.points c.args.high c.requires.high) in
    c.in_ok-cover.ensures.shows at (disjunction (places_tope nodes places c.args.low c.args.high) (places_tope nodes places c.args.high c.args.low))
    (claim-either nodes at.context c.point.result c.point-2.result low_is high_is)
    (λ i. disjunction (at_most (tree_of nodes (c.point.ensures i)) (tree_of nodes (c.point-2.ensures i)))
    (at_most (tree_of nodes (c.point-2.ensures i)) (tree_of nodes (c.point.ensures i)))) Total
