use Rattle.std.proofs.Common.{sym, subst}
use Rattle.rz_rules.specs.Tree.{tree_of}
use Rattle.rz_tope_proof.specs.Place.{IsPoint}
use Rattle.rz_tope_proof.specs.Proving.{Through}
use Rattle.rz_rules.specs.Tope.{at_most}
use Rattle.rz_tope_search.specs.Showing.{places_tope}
use Rattle.rz_tope_search.proofs.Showing.{claim-at_most}
use Rattle.rz_tope_search.proofs.table.chain.Goals as goal

pub returns-clause-shows : goal.returns-clause-shows
returns-clause-shows c at middle are one other =
    let nodes = at.nodes in
    let places = c.args.places.now in
    let low_is = subst (IsPoint nodes at.context) (sym c.point.ensures) (are.points c.args.low c.requires.low) in
    let high_is = subst (IsPoint nodes at.context) (sym c.point-2.ensures) (are.points c.args.high c.requires.high) in
    c.in_ok-whole.ensures.shows at (places_tope nodes places c.args.low middle) (places_tope nodes places middle c.args.high)
    (places_tope nodes places c.args.low c.args.high)
    (claim-at_most nodes at.context c.point.result c.point-2.result low_is high_is)
    (λ i. at_most (tree_of nodes (c.point.ensures i)) (tree_of nodes (c.point-2.ensures i)))
    Through one other
