use Rattle.std.proofs.Common.{◌≡◌, sym, ap, subst, ◌∙◌, arith}
use Rattle.rz_shape.specs.declared.steps.Frame.{Frame}
use Rattle.rz_shape.specs.declared.steps.Frame.TheVariants.{Left, Right}
use Rattle.rz_shape.specs.declared.steps.Step.{Step}
use Rattle.rz_shape.specs.declared.steps.Step.TheVariants.{Under}
use Rattle.rz_shape.specs.declared.steps.Target.{Target}
use Rattle.rz_shape.specs.Reading.{PlacedPoint, Reading, and_then}
use Rattle.rz_shape.specs.Walk.{GoesOn, frame_cost, frame_reading, join_reading, outcome_of, reading_of, target_of}
use Rattle.rz_shape.proofs.Outcomes.{IsThere-Grows, outcome_of-Grows}
use Rattle.rz_shape.proofs.visits.resume.Goals as goal

pub returns-in_ok-enter-in-Left-clause-step : goal.returns-in_ok-enter-in-Left-clause-step
returns-in_ok-enter-in-Left-clause-step c bound forms =
    let ns = c.args.pool.now.nodes in
    let ms = c.enter.new.pool.nodes in
    let grows = c.in_ok-enter-in-Left.ensures.grows in
    let in_left = c.in-Left in
    let right = λ (s : PlacedPoint). and_then (reading_of bound forms (target_of in_left.join) in_left.depth in_left.right) (join_reading in_left.join in_left.whole in_left.right s) in
    let step : Step = Under (Right in_left.join in_left.whole in_left.right c.args.read) (record { target = target_of in_left.join; raw = in_left.right; depth = in_left.depth }) in
    let is : step ≡ c.under.result =
    sym (c.under.ensures ∙ ap (λ (target : Target). Under (Right in_left.join in_left.whole in_left.right c.args.read) (record { target = target; raw = in_left.right; depth = in_left.depth })) c.target_of.ensures) in
    let goes : GoesOn bound forms ms (frame_reading bound forms ns (Left in_left.join in_left.whole in_left.left in_left.right in_left.depth) (outcome_of ns c.args.read))
    (frame_cost (Left in_left.join in_left.whole in_left.left in_left.right in_left.depth)) step = record {
      there = IsThere-Grows ns ms grows c.args.read c.requires.read;
      is = ap (λ (s : Reading PlacedPoint). and_then s right) c.in_ok-enter-in-Left.ensures.read
          ∙ ap right (sym (outcome_of-Grows ns ms grows c.args.read c.requires.read));
      less = omega arith;
    } in
    subst (λ (step : Step). GoesOn bound forms ms (frame_reading bound forms ns c.args.frame (outcome_of ns c.args.read)) (frame_cost c.args.frame) step) is
    (subst (λ (frame : Frame). GoesOn bound forms ms (frame_reading bound forms ns frame (outcome_of ns c.args.read)) (frame_cost frame) step) (sym in_left.is) goes)
