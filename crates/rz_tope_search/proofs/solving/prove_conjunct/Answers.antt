use Rattle.rz_tope_search.proofs.Showing.{read-at-part}
use Rattle.rz_tope_search.proofs.solving.prove_conjunct.Goals as goal

pub returns-in_ok-step-in-And-clause-proves : goal.returns-in_ok-step-in-And-clause-proves
returns-in_ok-step-in-And-clause-proves c at is root steps =
    c.in_ok-step-in-And.ensures.shows at c.args.parts.now is.places_are
    (read-at-part at c.args.proof.now c.args.places.now c.args.parts.now is c.args.part c.requires.part) root.table steps

pub returns-in_ok-step-in-EqualPairs-clause-proves : goal.returns-in_ok-step-in-EqualPairs-clause-proves
returns-in_ok-step-in-EqualPairs-clause-proves c at is root steps =
    c.in_ok-step-in-EqualPairs.ensures.shows at c.args.parts.now is.places_are
    (read-at-part at c.args.proof.now c.args.places.now c.args.parts.now is c.args.part c.requires.part) root.table steps
