use Rattle.std.proofs.Common.{sym, subst}
use Rattle.std.specs.Prelude.{IfErr, IfOk}
use Rattle.rz_shape.specs.declared.steps.Join.{Join}
use Rattle.rz_shape.specs.Answer.{IsFaultOf}
use Rattle.rz_shape.specs.Walk.{IsOutcome, join_reading, outcome_of}
use Rattle.rz_shape.proofs.joins.join_parts.Goals as goal

pub returns-in-Product-clause-read : goal.returns-in-Product-clause-read
returns-in-Product-clause-read c =
    let ns = c.args.pool.now.nodes in
    subst (λ (join : Join). IfOk c.product.result (IsOutcome c.product.new.pool.nodes (join_reading join c.args.whole c.args.place (outcome_of ns c.args.left) (outcome_of ns c.args.right))))
    (sym c.in-Product.is) (c.product.ensures.read c.args.place)

pub returns-in-Product-clause-refused : goal.returns-in-Product-clause-refused
returns-in-Product-clause-refused c =
    let ns = c.args.pool.now.nodes in
    subst (λ (join : Join). IfErr c.product.result (IsFaultOf (join_reading join c.args.whole c.args.place (outcome_of ns c.args.left) (outcome_of ns c.args.right))))
    (sym c.in-Product.is) (c.product.ensures.refused c.args.place)

pub returns-in-Pair-clause-read : goal.returns-in-Pair-clause-read
returns-in-Pair-clause-read c =
    let ns = c.args.pool.now.nodes in
    subst (λ (join : Join). IfOk c.pair.result (IsOutcome c.pair.new.pool.nodes (join_reading join c.args.whole c.args.place (outcome_of ns c.args.left) (outcome_of ns c.args.right))))
    (sym c.in-Pair.is) (c.pair.ensures.read c.args.place)

pub returns-in-Pair-clause-refused : goal.returns-in-Pair-clause-refused
returns-in-Pair-clause-refused c =
    let ns = c.args.pool.now.nodes in
    subst (λ (join : Join). IfErr c.pair.result (IsFaultOf (join_reading join c.args.whole c.args.place (outcome_of ns c.args.left) (outcome_of ns c.args.right))))
    (sym c.in-Pair.is) (c.pair.ensures.refused c.args.place)

pub returns-in-SamePoint-clause-read : goal.returns-in-SamePoint-clause-read
returns-in-SamePoint-clause-read c =
    let ns = c.args.pool.now.nodes in
    subst (λ (join : Join). IfOk c.equality.result (IsOutcome c.equality.new.pool.nodes (join_reading join c.args.whole c.args.place (outcome_of ns c.args.left) (outcome_of ns c.args.right))))
    (sym c.in-SamePoint.is) (c.equality.ensures.read c.args.whole)

pub returns-in-SamePoint-clause-refused : goal.returns-in-SamePoint-clause-refused
returns-in-SamePoint-clause-refused c =
    let ns = c.args.pool.now.nodes in
    subst (λ (join : Join). IfErr c.equality.result (IsFaultOf (join_reading join c.args.whole c.args.place (outcome_of ns c.args.left) (outcome_of ns c.args.right))))
    (sym c.in-SamePoint.is) (c.equality.ensures.refused c.args.whole)

pub returns-in-AtMost-clause-read : goal.returns-in-AtMost-clause-read
returns-in-AtMost-clause-read c =
    let ns = c.args.pool.now.nodes in
    subst (λ (join : Join). IfOk c.order.result (IsOutcome c.order.new.pool.nodes (join_reading join c.args.whole c.args.place (outcome_of ns c.args.left) (outcome_of ns c.args.right))))
    (sym c.in-AtMost.is) (c.order.ensures.read c.args.whole)

pub returns-in-AtMost-clause-refused : goal.returns-in-AtMost-clause-refused
returns-in-AtMost-clause-refused c =
    let ns = c.args.pool.now.nodes in
    subst (λ (join : Join). IfErr c.order.result (IsFaultOf (join_reading join c.args.whole c.args.place (outcome_of ns c.args.left) (outcome_of ns c.args.right))))
    (sym c.in-AtMost.is) (c.order.ensures.refused c.args.whole)
