use Rattle.std.proofs.Common.{◌≡◌, true, sym, subst}
use Rattle.std.specs.Prelude.{IfOk, IfSome, map}
use Rattle.rz_rules.specs.Tree.{Tree, blank, tree_of}
use Rattle.rz_shape.specs.Reading.{Reading}
use Rattle.rz_tope_query.specs.Sequent.{are_distinct, bound_form, cube_context, names_of, question_of, question_over}
use Rattle.rz_tope_query.specs.Parts.{HasAsked, HasOpened, HasPlaces, IsNoReading, tope_of}
use Rattle.rz_tope_query.proofs.Asking.{question_read}
use Rattle.rz_tope_query.proofs.Once.{none_weaker}
use Rattle.rz_tope_query.proofs.reading.ask.Goals as goal

pub returns-clause-asked : goal.returns-clause-asked
returns-clause-asked c =
    let raw = c.args.raw in
    let names = c.args.names.now in
    let later = c.cube_context.new.w in
    let has = subst (λ o. IfSome o (HasOpened later (cube_context c.as_slice.result.now blank c.as_slice-2.result.now))) c.in-Some-2.is c.in_ok-opened.ensures.opened in
    let placed = subst (λ o. IfSome o (HasPlaces names)) c.in-Some.is c.in_ok-places.ensures.places in
    let bound = subst (λ r. IfOk r (λ bound. bound ≡ map (bound_form names) raw.forms)) c.in_ok-forms.was (c.bound_forms.ensures names placed) in
    let same = question_read raw later.pool.nodes c.in_ok-reader.reader names c.in_ok-forms.forms c.as_slice.result.now c.as_slice-2.result.now c.as_slice-3.result.now
    has.context (tree_of later.pool.nodes c.in-Some-2.opened.0) c.as_slice.ensures c.as_slice-2.ensures c.as_slice-3.ensures c.requires.names bound has.is has.opened_is.tree
    c.in_ok-reader.ensures.topes in
    subst (λ (r : Reading (Tree × Tree)). IfSome c.in_ok-asked.asked (HasAsked c.ask.new.w r)) (sym same) c.in_ok-asked.ensures.asked

pub returns-clause-none : goal.returns-clause-none
returns-clause-none c =
    let raw = c.args.raw in
    let names = c.args.names.now in
    let later = c.cube_context.new.w in
    let has = subst (λ o. IfSome o (HasOpened later (cube_context c.as_slice.result.now blank c.as_slice-2.result.now))) c.in-Some-2.is c.in_ok-opened.ensures.opened in
    let placed = subst (λ o. IfSome o (HasPlaces names)) c.in-Some.is c.in_ok-places.ensures.places in
    let bound = subst (λ r. IfOk r (λ bound. bound ≡ map (bound_form names) raw.forms)) c.in_ok-forms.was (c.bound_forms.ensures names placed) in
    let reading = question_over (tope_of later.pool.nodes c.in_ok-reader.reader) (tree_of later.pool.nodes c.in-Some-2.opened.0) c.as_slice-3.result.now raw.goal in
    let same = question_read raw later.pool.nodes c.in_ok-reader.reader names c.in_ok-forms.forms c.as_slice.result.now c.as_slice-2.result.now c.as_slice-3.result.now
    has.context (tree_of later.pool.nodes c.in-Some-2.opened.0) c.as_slice.ensures c.as_slice-2.ensures c.as_slice-3.ensures c.requires.names bound has.is has.opened_is.tree
    c.in_ok-reader.ensures.topes in
    none_weaker (IsNoReading reading) (are_distinct (names_of raw.names) ≡ true → IsNoReading (question_of raw)) c.in_ok-asked.asked
    (λ none distinct. subst (λ (r : Reading (Tree × Tree)). IsNoReading r) (sym same) none) c.in_ok-asked.ensures.none
