use Rattle.std.proofs.Common.{refl, sym, ap, subst, ◌∙◌}
use Rattle.rz_rules.specs.Tree.{tree_of}
use Rattle.rz_tope_proof.specs.Place.{IsPoint}
use Rattle.rz_tope_proof.specs.Reading.{tope_at}
use Rattle.rz_rules.specs.Tope.{at_most}
use Rattle.rz_tope_search.specs.declared.search.Case.{Case}
use Rattle.rz_tope_search.specs.Search.{case_value, IsCase}
use Rattle.rz_tope_search.specs.Searching.{case_tope, Assumes}
use Rattle.rz_tope_search.specs.Showing.{assuming, places_tope}
use Rattle.rz_tope_search.proofs.Searching.{assumes-later, reading-under}
use Rattle.rz_tope_search.proofs.Showing.{branch-assuming, branch-later, branch-same, claim-at_most, read-at-part, reading-later}
use Rattle.rz_tope_search.proofs.Assuming.{IsModel-same}
use Rattle.rz_tope_search.proofs.search.branch_under.Goals as goal

pub returns-in_ok-assume-in-Part-clause-refines : goal.returns-in_ok-assume-in-Part-clause-refines
returns-in_ok-assume-in-Part-clause-refines c le value model = (
  IsModel-same c.args.places.now.count c.args.parts.now c.args.branch.now c.in_ok-under.under c.in_ok-under.ensures.table c.in_ok-under.ensures.waiting
      le value (c.in_ok-assume-in-Part.ensures.refines le value model),
  ap (case_value le value) c.in-Part.is ∙ c.in_ok-assume-in-Part.ensures.holds le value model,
)

pub returns-in_ok-compare-in-AtMost-clause-refines : goal.returns-in_ok-compare-in-AtMost-clause-refines
returns-in_ok-compare-in-AtMost-clause-refines c le value model = (
  IsModel-same c.args.places.now.count c.args.parts.now c.args.branch.now c.in_ok-under.under c.in_ok-under.ensures.table c.in_ok-under.ensures.waiting
      le value (c.in_ok-compare-in-AtMost.ensures.refines le value model),
  ap (case_value le value) c.in-AtMost.is ∙ c.in_ok-compare-in-AtMost.ensures.holds le value model,
)

pub returns-in_ok-assume-in-Part-clause-assumes : goal.returns-in_ok-assume-in-Part-clause-assumes
returns-in_ok-assume-in-Part-clause-assumes c at is =
    let places = c.args.places.now in
    let parts = c.args.parts.now in
    let case_is = subst (IsCase places.count parts) c.in-Part.is c.requires.case in
    let part = c.in-Part.part in
    let leaf = c.in_ok-leaf-in-Part.leaf in
    let here = c.in_ok-leaf-in-Part.ensures.assumes at (tope_at at.nodes parts part)
    (read-at-part at c.args.proof.now places parts is part case_is).claim refl in
    subst (λ (x : Case). Assumes at c.assume.new.proof leaf (case_tope at.nodes places parts x)) (sym c.in-Part.is)
    (assumes-later places parts 0 c.infer_leaf.new.proof c.assume.new.proof c.in_ok-assume-in-Part.ensures.extends at leaf (tope_at at.nodes parts part) here)

pub returns-in_ok-assume-in-Part-clause-proves : goal.returns-in_ok-assume-in-Part-clause-proves
returns-in_ok-assume-in-Part-clause-proves c at is proves =
    let places = c.args.places.now in
    let parts = c.args.parts.now in
    let case_is = subst (IsCase places.count parts) c.in-Part.is c.requires.case in
    let part = c.in-Part.part in
    let leaf = c.in_ok-leaf-in-Part.leaf in
    let old = c.args.proof.now in
    let p1 = c.infer_leaf.new.proof in
    let next = c.in_ok-leaf-in-Part.ensures in
    let inner = assuming leaf at in
    c.in_ok-assume-in-Part.ensures.proves inner
    (reading-under at p1 places parts (reading-later at parts old p1 next.extends places is) inner.assumed)
    (next.shows at (tope_at at.nodes parts part) (read-at-part at old places parts is part case_is).claim refl)
    (branch-assuming leaf at p1 places parts c.in_ok-under.under
    (branch-later at parts old p1 next.extends places c.in_ok-under.under
    (branch-same at old places parts c.args.branch.now c.in_ok-under.under c.in_ok-under.ensures.table c.in_ok-under.ensures.waiting proves)))

pub returns-in_ok-compare-in-AtMost-clause-assumes : goal.returns-in_ok-compare-in-AtMost-clause-assumes
returns-in_ok-compare-in-AtMost-clause-assumes c at is =
    let nodes = at.nodes in
    let places = c.args.places.now in
    let parts = c.args.parts.now in
    let case_is = subst (IsCase places.count parts) c.in-AtMost.is c.requires.case in
    let low = c.in-AtMost.low in
    let high = c.in-AtMost.high in
    let leaf = c.in_ok-leaf-in-AtMost.leaf in
    let low_is = subst (IsPoint nodes at.context) (sym c.point.ensures) (is.places_are.points low case_is.0) in
    let high_is = subst (IsPoint nodes at.context) (sym c.point-in-AtMost.ensures) (is.places_are.points high case_is.1) in
    let here = c.in_ok-leaf-in-AtMost.ensures.assumes at (places_tope nodes places low high)
    (claim-at_most nodes at.context c.point.result c.point-in-AtMost.result low_is high_is)
    (λ i. at_most (tree_of nodes (c.point.ensures i)) (tree_of nodes (c.point-in-AtMost.ensures i))) in
    subst (λ (x : Case). Assumes at c.compare.new.proof leaf (case_tope nodes places parts x)) (sym c.in-AtMost.is)
    (assumes-later places parts 0 c.infer_leaf-in-AtMost.new.proof c.compare.new.proof c.in_ok-compare-in-AtMost.ensures.extends at leaf
    (places_tope nodes places low high) here)

pub returns-in_ok-compare-in-AtMost-clause-proves : goal.returns-in_ok-compare-in-AtMost-clause-proves
returns-in_ok-compare-in-AtMost-clause-proves c at is proves =
    let nodes = at.nodes in
    let places = c.args.places.now in
    let parts = c.args.parts.now in
    let case_is = subst (IsCase places.count parts) c.in-AtMost.is c.requires.case in
    let low = c.in-AtMost.low in
    let high = c.in-AtMost.high in
    let leaf = c.in_ok-leaf-in-AtMost.leaf in
    let old = c.args.proof.now in
    let p1 = c.infer_leaf-in-AtMost.new.proof in
    let next = c.in_ok-leaf-in-AtMost.ensures in
    let inner = assuming leaf at in
    let low_is = subst (IsPoint nodes at.context) (sym c.point.ensures) (is.places_are.points low case_is.0) in
    let high_is = subst (IsPoint nodes at.context) (sym c.point-in-AtMost.ensures) (is.places_are.points high case_is.1) in
    c.in_ok-compare-in-AtMost.ensures.proves inner is.places_are
    (next.shows at (places_tope nodes places low high) (claim-at_most nodes at.context c.point.result c.point-in-AtMost.result low_is high_is)
    (λ i. at_most (tree_of nodes (c.point.ensures i)) (tree_of nodes (c.point-in-AtMost.ensures i))))
    (branch-assuming leaf at p1 places parts c.in_ok-under.under
    (branch-later at parts old p1 next.extends places c.in_ok-under.under
    (branch-same at old places parts c.args.branch.now c.in_ok-under.under c.in_ok-under.ensures.table c.in_ok-under.ensures.waiting proves)))
