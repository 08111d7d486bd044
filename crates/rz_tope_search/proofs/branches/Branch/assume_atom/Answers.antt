use Rattle.std.proofs.Common.{sym, ap, subst, ◌∙◌}
use Rattle.std.proofs.lemmas.Bool.{true≢false}
use Rattle.rz_tope_proof.specs.declared.parts.Form.{Form}
use Rattle.rz_tope_proof.specs.Part.{value_over}
use Rattle.rz_tope_proof.specs.Reading.{HasForm}
use Rattle.rz_tope_search.specs.Showing.{Shows, AreSides, places_tope}
use Rattle.rz_tope_search.proofs.Showing.{branch-later, shows-later}
use Rattle.rz_tope_search.proofs.RankOrders.{and_true}
use Rattle.rz_tope_search.proofs.branches.Branch.assume_atom.Goals as goal

pub returns-in_ok-compare-in-Bottom-clause-holds : goal.returns-in_ok-compare-in-Bottom-clause-holds
returns-in_ok-compare-in-Bottom-clause-holds c le value model =
    absurd (true≢false (sym (c.in_ok-compare-in-Bottom.ensures.holds le value model) ∙ model.apart))

pub returns-in_ok-compare-in-AtMost-clause-holds : goal.returns-in_ok-compare-in-AtMost-clause-holds
returns-in_ok-compare-in-AtMost-clause-holds c le value model =
    ap (value_over le value) c.in-AtMost.is ∙ c.in_ok-compare-in-AtMost.ensures.holds le value model

pub returns-in_ok-compare-in-Equal-2-clause-refines : goal.returns-in_ok-compare-in-Equal-2-clause-refines
returns-in_ok-compare-in-Equal-2-clause-refines c le value model =
    c.in_ok-compare-in-Equal.ensures.refines le value (c.in_ok-compare-in-Equal-2.ensures.refines le value model)

pub returns-in_ok-compare-in-Equal-2-clause-holds : goal.returns-in_ok-compare-in-Equal-2-clause-holds
returns-in_ok-compare-in-Equal-2-clause-holds c le value model =
    ap (value_over le value) c.in-Equal.is
    ∙ and_true (le c.in-Equal.first.place c.in-Equal.second.place) (le c.in-Equal.second.place c.in-Equal.first.place)
    (c.in_ok-compare-in-Equal.ensures.holds le value (c.in_ok-compare-in-Equal-2.ensures.refines le value model))
    (c.in_ok-compare-in-Equal-2.ensures.holds le value model)

pub returns-in_ok-compare-in-Bottom-clause-proves : goal.returns-in_ok-compare-in-Bottom-clause-proves
returns-in_ok-compare-in-Bottom-clause-proves c at tope are has shows proves =
    let places = c.args.places.now in
    let parts = c.args.parts.now in
    let old = c.args.proof.now in
    let is = subst (λ (f : Form). HasForm at.nodes at.context places old parts f tope) c.in-Bottom.is has in
    let next = c.in_ok-down-in-Bottom.ensures in
    c.in_ok-compare-in-Bottom.ensures.proves at are (next.shows at are (subst (Shows at old c.args.step) is shows))
    (branch-later at parts old c.infer_crossing.new.proof next.extends places c.args.self.now proves)

pub returns-in_ok-compare-in-AtMost-clause-proves : goal.returns-in_ok-compare-in-AtMost-clause-proves
returns-in_ok-compare-in-AtMost-clause-proves c at tope are has shows proves =
    let places = c.args.places.now in
    let parts = c.args.parts.now in
    let old = c.args.proof.now in
    let is = subst (λ (f : Form). HasForm at.nodes at.context places old parts f tope) c.in-AtMost.is has in
    let next = c.in_ok-up-in-AtMost.ensures in
    c.in_ok-compare-in-AtMost.ensures.proves at are
    (next.shows at (record { places_are = are; first_is = is.0; second_is = is.1 }) (subst (Shows at old c.args.step) is.2 shows))
    (branch-later at parts old c.place_at_most.new.proof next.extends places c.args.self.now proves)

pub returns-in_ok-compare-in-Equal-2-clause-proves : goal.returns-in_ok-compare-in-Equal-2-clause-proves
returns-in_ok-compare-in-Equal-2-clause-proves c at tope are has shows proves =
    let places = c.args.places.now in
    let parts = c.args.parts.now in
    let old = c.args.proof.now in
    let is = subst (λ (f : Form). HasForm at.nodes at.context places old parts f tope) c.in-Equal.is has in
    let next = c.in_ok-up-in-Equal.ensures in
    let p1 = c.places_equal.new.proof in
    let p2 = c.compare-in-Equal.new.proof in
    let sides : AreSides at old places c.in-Equal.first c.in-Equal.second = record { places_are = are; first_is = is.0; second_is = is.1 } in
    let said = subst (Shows at old c.args.step) is.2 shows in
    c.in_ok-compare-in-Equal-2.ensures.proves at are
    (shows-later at p1 p2 c.in_ok-compare-in-Equal.ensures.extends c.in_ok-up-in-Equal.down
    (places_tope at.nodes places c.in-Equal.second.place c.in-Equal.first.place) (next.down at sides said))
    (c.in_ok-compare-in-Equal.ensures.proves at are (next.up at sides said)
    (branch-later at parts old p1 next.extends places c.args.self.now proves))

pub returns-in_ok-wait-in-Or-clause-proves : goal.returns-in_ok-wait-in-Or-clause-proves
returns-in_ok-wait-in-Or-clause-proves c at tope are has shows proves =
    let places = c.args.places.now in
    let parts = c.args.parts.now in
    let old = c.args.proof.now in
    let is = subst (λ (f : Form). HasForm at.nodes at.context places old parts f tope) c.in-Or.is has in
    c.in_ok-wait-in-Or.ensures.proves at old (subst (Shows at old c.args.step) is shows) proves
