use Rattle.std.proofs.Common.{◌≡◌, ℕ, ◌+◌, ◌-◌, ◌<◌, Some, length, sym, ap, subst, ◌∙◌, arith}
use Rattle.std.specs.Prelude.{IfErr, IfOk, slice_get}
use Rattle.std.proofs.lemmas.Bool.{ltb-false}
use Rattle.std.proofs.lemmas.Option.{slice_get-get_or, slice_get_past}
use Rattle.rz_shape.specs.declared.fault.ShapeFault.{ShapeFault}
use Rattle.rz_shape.specs.Answer.{IsFaultOf, bindings_at}
use Rattle.rz_shape.specs.Reading.{PlacedPoint, Reading}
use Rattle.rz_shape.specs.Walk.{GoesOn, plan_reading, reading_of, visit_cost}
use Rattle.rz_shape.proofs.PlanReadings.{from_below, reading_absent, reading_there}
use Rattle.rz_shape.proofs.visits.visit.Goals as goal
use Rattle.rz_shape.proofs.visits.visit.Goals.{After-follow}

pub returns-in_default-clause-refused : goal.returns-in_default-clause-refused
returns-in_default-clause-refused c =
    let bound = bindings_at c.args.pool.now.nodes c.args.names.now in
    let forms = c.args.forms.now in
    let part = c.args.part in
    let some : 0 < part.depth = omega (arith, c.if-part-eq0.false) in
    subst (λ (fault : ShapeFault). IsFaultOf (reading_of bound forms part.target part.depth part.raw) fault) (sym c.refuse-in_default.ensures)
    (reading_absent bound forms part.target part.depth part.raw some (slice_get_past forms part.raw.form (ltb-false part.raw.form (length forms) (sym c.in_default.ensures.lookup.0))))

-- what the plan comes to is what the form is
is : (c : After-follow)
    → plan_reading (bindings_at c.args.pool.now.nodes c.args.names.now) c.args.forms.now (c.args.part.depth - 1) c.args.part.raw c.path.result.now c.plan-plan.result
    ≡ reading_of (bindings_at c.args.pool.now.nodes c.args.names.now) c.args.forms.now c.args.part.target c.args.part.depth c.args.part.raw
is c =
    let bound = bindings_at c.args.pool.now.nodes c.args.names.now in
    let forms = c.args.forms.now in
    let part = c.args.part in
    let form = c.in-Some.form.now in
    let some : 0 < part.depth = omega (arith, c.if-part-eq0.false) in
    let at : slice_get forms part.raw.form ≡ Some form =
    slice_get-get_or forms part.raw.form form c.in-Some.ensures.lookup.3.0 ∙ ap Some (sym c.in-Some.ensures.lookup.1) in
    let path = c.path.ensures in
    let plan = c.plan-plan.ensures in
    (λ i. plan_reading bound forms (part.depth - 1) part.raw (path i) (plan i)) ∙ sym (reading_there bound forms part.target part.depth part.raw form some at)

cost : (c : After-follow) → visit_cost (c.args.part.depth - 1) + visit_cost (c.args.part.depth - 1) + 3 ≡ visit_cost c.args.part.depth
cost c = let some : 0 < c.args.part.depth = omega (arith, c.if-part-eq0.false) in ap visit_cost (from_below c.args.part.depth some)

pub returns-clause-step : goal.returns-clause-step
returns-clause-step c =
    let bound = bindings_at c.args.pool.now.nodes c.args.names.now in
    let reading = is (goal.at.returns-clause-step c).After-follow in
    let limit = cost (goal.at.returns-clause-step c).After-follow in
    subst (λ (x : Reading PlacedPoint × ℕ). IfOk c.follow.result (GoesOn bound c.args.forms.now c.follow.new.pool.nodes x.0 x.1)) (λ i. (reading i, limit i))
    (c.follow.ensures.step c.args.forms.now)

pub returns-clause-refused : goal.returns-clause-refused
returns-clause-refused c =
    subst (λ (reading : Reading PlacedPoint). IfErr c.follow.result (IsFaultOf reading)) (is (goal.at.returns-clause-refused c).After-follow) (c.follow.ensures.refused c.args.forms.now)
