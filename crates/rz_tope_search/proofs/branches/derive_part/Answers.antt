use Rattle.std.proofs.Common.{sym, subst}
use Rattle.rz_rules.specs.Cube.{cube_one}
use Rattle.rz_tope_proof.specs.declared.parts.Form.{Form}
use Rattle.rz_tope_proof.specs.Claim.{tope_of}
use Rattle.rz_tope_proof.specs.Proving.{TopHolds, Reflexive, OnlyPoint}
use Rattle.rz_tope_proof.specs.Reading.{HasForm, tope_at}
use Rattle.rz_rules.specs.Tope.{top, equal_points}
use Rattle.rz_tope_search.specs.Showing.{Shows}
use Rattle.rz_tope_search.proofs.Showing.{step-at}
use Rattle.rz_tope_search.proofs.branches.derive_part.Goals as goal

pub returns-in_ok-step-in-Top-clause-shows : goal.returns-in_ok-step-in-Top-clause-shows
returns-in_ok-step-in-Top-clause-shows c at parts are read table steps =
    let tope = tope_of at.nodes c.args.part.claim in
    let is = subst (λ (f : Form). HasForm at.nodes at.context c.args.places.now c.args.proof.now parts f tope) c.in-Top.is read.form in
    subst (Shows at c.infer_axiom.new.proof c.in_ok-step-in-Top.step) (sym is) (c.in_ok-step-in-Top.ensures.shows at top read.claim is TopHolds)

pub returns-in_ok-step-in-Same-clause-shows : goal.returns-in_ok-step-in-Same-clause-shows
returns-in_ok-step-in-Same-clause-shows c at parts are read table steps =
    let tope = tope_of at.nodes c.args.part.claim in
    let is = subst (λ (f : Form). HasForm at.nodes at.context c.args.places.now c.args.proof.now parts f tope) c.in-Same.is read.form in
    subst (Shows at c.infer_axiom-in-Same.new.proof c.in_ok-step-in-Same.step) (sym is.2)
    (c.in_ok-step-in-Same.ensures.shows at (equal_points is.0 is.1 is.1) read.claim is.2 Reflexive)

pub returns-in_ok-step-in-OnePoint-clause-shows : goal.returns-in_ok-step-in-OnePoint-clause-shows
returns-in_ok-step-in-OnePoint-clause-shows c at parts are read table steps =
    let tope = tope_of at.nodes c.args.part.claim in
    let is = subst (λ (f : Form). HasForm at.nodes at.context c.args.places.now c.args.proof.now parts f tope) c.in-OnePoint.is read.form in
    subst (Shows at c.infer_axiom-in-OnePoint.new.proof c.in_ok-step-in-OnePoint.step) (sym is.2)
    (c.in_ok-step-in-OnePoint.ensures.shows at (equal_points cube_one is.0 is.1) read.claim is.2 OnlyPoint)

pub returns-in_ok-step-in-And-clause-shows : goal.returns-in_ok-step-in-And-clause-shows
returns-in_ok-step-in-And-clause-shows c at parts are read table steps =
    let tope = tope_of at.nodes c.args.part.claim in
    let is = subst (λ (f : Form). HasForm at.nodes at.context c.args.places.now c.args.proof.now parts f tope) c.in-And.is read.form in
    c.in_ok-step-in-And.ensures.shows at (tope_at at.nodes parts c.in-And.first) (tope_at at.nodes parts c.in-And.second) read.claim is
    (step-at at c.args.proof.now parts c.args.steps.now steps c.in-And.first)
    (step-at at c.args.proof.now parts c.args.steps.now steps c.in-And.second)

pub returns-in_ok-step-in-Or-clause-shows : goal.returns-in_ok-step-in-Or-clause-shows
returns-in_ok-step-in-Or-clause-shows c at parts are read table steps =
    let tope = tope_of at.nodes c.args.part.claim in
    let is = subst (λ (f : Form). HasForm at.nodes at.context c.args.places.now c.args.proof.now parts f tope) c.in-Or.is read.form in
    c.in_ok-step-in-Or.ensures.shows at (tope_at at.nodes parts c.in-Or.first) (tope_at at.nodes parts c.in-Or.second) read.claim is
    (step-at at c.args.proof.now parts c.args.steps.now steps c.in-Or.first)
    (step-at at c.args.proof.now parts c.args.steps.now steps c.in-Or.second)

pub returns-in_ok-step-in-AtMost-clause-shows : goal.returns-in_ok-step-in-AtMost-clause-shows
returns-in_ok-step-in-AtMost-clause-shows c at parts are read table steps =
    let tope = tope_of at.nodes c.args.part.claim in
    let is = subst (λ (f : Form). HasForm at.nodes at.context c.args.places.now c.args.proof.now parts f tope) c.in-AtMost.is read.form in
    subst (Shows at c.derive_at_most.new.proof c.in_ok-step-in-AtMost.step) (sym is.2)
    (c.in_ok-step-in-AtMost.ensures.shows at (record { places_are = are; first_is = is.0; second_is = is.1 })
    (table c.in-AtMost.first.place c.in-AtMost.second.place c.in-Some.up is.0.place is.1.place (sym c.in-Some.ensures)))

pub returns-in_ok-step-in-Equal-clause-shows : goal.returns-in_ok-step-in-Equal-clause-shows
returns-in_ok-step-in-Equal-clause-shows c at parts are read table steps =
    let tope = tope_of at.nodes c.args.part.claim in
    let is = subst (λ (f : Form). HasForm at.nodes at.context c.args.places.now c.args.proof.now parts f tope) c.in-Equal.is read.form in
    subst (Shows at c.derive_equal.new.proof c.in_ok-step-in-Equal.step) (sym is.2)
    (c.in_ok-step-in-Equal.ensures.shows at (record { places_are = are; first_is = is.0; second_is = is.1 })
    (table c.in-Equal.first.place c.in-Equal.second.place c.in-Some-at.up is.0.place is.1.place (sym c.in-Some-at.ensures))
    (table c.in-Equal.second.place c.in-Equal.first.place c.in-Some-at-2.down is.1.place is.0.place (sym c.in-Some-at-2.ensures)))

pub returns-in_ok-step-in-EqualPairs-clause-shows : goal.returns-in_ok-step-in-EqualPairs-clause-shows
returns-in_ok-step-in-EqualPairs-clause-shows c at parts are read table steps =
    let tope = tope_of at.nodes c.args.part.claim in
    let is = subst (λ (f : Form). HasForm at.nodes at.context c.args.places.now c.args.proof.now parts f tope) c.in-EqualPairs.is read.form in
    c.in_ok-step-in-EqualPairs.ensures.shows at parts c.in-EqualPairs.left c.in-EqualPairs.right tope is read.claim.over
    (step-at at c.args.proof.now parts c.args.steps.now steps c.in-EqualPairs.left)
    (step-at at c.args.proof.now parts c.args.steps.now steps c.in-EqualPairs.right)
