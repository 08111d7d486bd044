use Rattle.std.proofs.Common.{rules, ◌≡◌, ◌+◌, List, [], ◌∷◌, ◌++◌, sym, ap, subst, ◌∙◌, arith}
use Rattle.std.specs.Prelude.{Ok}
use Rattle.rz_pool.proofs.Nodes.{Grows-trans}
use Rattle.rz_shape.specs.declared.steps.Frame.{Frame}
use Rattle.rz_shape.specs.declared.steps.Step.{Step}
use Rattle.rz_shape.specs.declared.steps.Step.TheVariants.{Under}
use Rattle.rz_shape.specs.Answer.{IsFaultOf, bindings_at}
use Rattle.rz_shape.specs.Reading.{Bindings}
use Rattle.rz_shape.specs.Walk.{AreFrames, GoesOn, IsFrame, IsStep, frame_cost, frame_reading, frames_cost, frames_reading, outcome_of, reading_of, step_cost, step_reading, visit_cost}
use Rattle.rz_shape.proofs.Growth.{bindings_at-Grows}
use Rattle.rz_shape.proofs.Walking.{AreFrames-Grows, AreFrames-front, AreFrames-last, AreFrames-push, cost_push, frames_push, resume_is, visit_is, whole_refusal}
use Rattle.rz_shape.proofs.walk.read.Goals as goal
use Rattle.rz_shape.proofs.walk.read.Goals.{In-Some, In-Under}

-- the frames before one is taken
frames : (c : In-Some) → AreFrames c.loop-step.pool.nodes (c.pop.new.self.items ++ c.in-Some.frame ∷ [])
frames c = subst (AreFrames c.loop-step.pool.nodes) c.in-Some.ensures.items c.loop-step.invariant.frames

done : (c : In-Some)
    → reading_of (bindings_at c.args.pool.now.nodes c.args.names.now) c.args.forms.now c.args.part.target c.args.part.depth c.args.part.raw
    ≡ frames_reading (bindings_at c.args.pool.now.nodes c.args.names.now) c.args.forms.now c.loop-step.pool.nodes (c.pop.new.self.items ++ c.in-Some.frame ∷ [])
    (Ok (outcome_of c.loop-step.pool.nodes c.in-Done.outcome))
done c =
    let bound = bindings_at c.args.pool.now.nodes c.args.names.now in
    let ns = c.loop-step.pool.nodes in
    let items = c.in-Some.ensures.items in
    let step = c.in-Done.is in
    c.loop-step.invariant.is ∙ (λ i. frames_reading bound c.args.forms.now ns (items i) (step_reading bound c.args.forms.now ns (step i)))

under : (c : In-Under)
    → reading_of (bindings_at c.args.pool.now.nodes c.args.names.now) c.args.forms.now c.args.part.target c.args.part.depth c.args.part.raw
    ≡ frames_reading (bindings_at c.args.pool.now.nodes c.args.names.now) c.args.forms.now c.loop-step.pool.nodes c.loop-step.frames.items
    (step_reading (bindings_at c.args.pool.now.nodes c.args.names.now) c.args.forms.now c.loop-step.pool.nodes (Under c.in-Under.frame c.in-Under.part))
under c =
    let bound = bindings_at c.args.pool.now.nodes c.args.names.now in
    let ns = c.loop-step.pool.nodes in
    c.loop-step.invariant.is ∙ ap (λ (step : Step). frames_reading bound c.args.forms.now ns c.loop-step.frames.items (step_reading bound c.args.forms.now ns step)) c.in-Under.is

pub resume-requires-clause-frame : goal.resume-requires-clause-frame
resume-requires-clause-frame c = AreFrames-last c.loop-step.pool.nodes c.pop.new.self.items c.in-Some.frame (frames (goal.at.resume-requires-clause-frame c).In-Some)

pub returns-in_err-step-in-Some-clause-refused : goal.returns-in_err-step-in-Some-clause-refused
returns-in_err-step-in-Some-clause-refused c =
    let forms = c.args.forms.now in
    let bound = bindings_at c.args.pool.now.nodes c.args.names.now in
    let ns = c.loop-step.pool.nodes in
    let reading = reading_of bound forms c.args.part.target c.args.part.depth c.args.part.raw in
    let next = frame_reading bound forms ns c.in-Some.frame (outcome_of ns c.in-Done.outcome) in
    let fault = c.in_err-step-in-Some.field-0.0 in
    let is : reading ≡ frames_reading bound forms ns c.pop.new.self.items next =
    done (goal.at.returns-in_err-step-in-Some-clause-refused c).In-Some ∙ frames_push bound forms ns c.pop.new.self.items c.in-Some.frame (Ok (outcome_of ns c.in-Done.outcome)) in
    let whole : IsFaultOf reading fault = whole_refusal bound forms ns c.pop.new.self.items reading next fault is (c.in_err-step-in-Some.ensures.refused bound forms) in
    search rules

pub returns-in_err-step-in-Under-clause-refused : goal.returns-in_err-step-in-Under-clause-refused
returns-in_err-step-in-Under-clause-refused c =
    let forms = c.args.forms.now in
    let bound = bindings_at c.args.pool.now.nodes c.args.names.now in
    let ns = c.loop-step.pool.nodes in
    let part = c.in-Under.part in
    let reading = reading_of bound forms c.args.part.target c.args.part.depth c.args.part.raw in
    let fault = c.in_err-step-in-Under.field-0.0 in
    let same = bindings_at-Grows c.args.pool.now.nodes ns c.args.names.now c.loop-step.invariant.grows c.requires in
    let next = reading_of bound forms part.target part.depth part.raw in
    let refused : IsFaultOf next fault = subst (λ (bound : Bindings). IsFaultOf (reading_of bound forms part.target part.depth part.raw) fault) same c.in_err-step-in-Under.ensures.refused in
    let is : reading ≡ frames_reading bound forms ns (c.loop-step.frames.items ++ c.in-Under.frame ∷ []) next =
    under (goal.at.returns-in_err-step-in-Under-clause-refused c).In-Under ∙ sym (frames_push bound forms ns c.loop-step.frames.items c.in-Under.frame next) in
    let whole : IsFaultOf reading fault = whole_refusal bound forms ns (c.loop-step.frames.items ++ c.in-Under.frame ∷ []) reading next fault is refused in
    search rules

pub loop-step-smaller-in_ok-step-in-Some : goal.loop-step-smaller-in_ok-step-in-Some
loop-step-smaller-in_ok-step-in-Some c =
    let bound = bindings_at c.args.pool.now.nodes c.args.names.now in
    let less = (c.in_ok-step-in-Some.ensures.step bound c.args.forms.now).less in
    let before = ap frames_cost c.in-Some.ensures.items ∙ cost_push c.pop.new.self.items c.in-Some.frame in
    let step : step_cost c.loop-step.step ≡ 0 = ap step_cost c.in-Done.is in
    omega (arith, less, before, step)

pub loop-step-preserved-in_ok-step-in-Some : goal.loop-step-preserved-in_ok-step-in-Some
loop-step-preserved-in_ok-step-in-Some c =
    let at = (goal.at.loop-step-preserved-in_ok-step-in-Some c).In-Some in
    let bound = bindings_at c.args.pool.now.nodes c.args.names.now in
    let ns = c.loop-step.pool.nodes in
    let ms = c.resume.new.pool.nodes in
    let goes = c.in_ok-step-in-Some.ensures.step bound c.args.forms.now in
    let grows = c.in_ok-step-in-Some.ensures.grows in
    record {
      grows = Grows-trans c.args.pool.now.nodes ns ms c.loop-step.invariant.grows grows;
      step = goes.there;
      frames = AreFrames-Grows ns ms grows c.pop.new.self.items (AreFrames-front ns c.pop.new.self.items c.in-Some.frame (frames at));
      is = resume_is bound c.args.forms.now ns ms grows c.pop.new.self.items c.in-Some.frame c.in-Done.outcome
          (reading_of bound c.args.forms.now c.args.part.target c.args.part.depth c.args.part.raw) (step_reading bound c.args.forms.now ms c.in_ok-step-in-Some.step)
          (frames at) (done at) goes.is;
    }

pub loop-step-smaller : goal.loop-step-smaller
loop-step-smaller c =
    let less = c.in_ok-step-in-Under.ensures.step.less in
    let after = ap frames_cost c.in_ok-push-in-Under.ensures.items ∙ cost_push c.loop-step.frames.items c.in-Under.frame in
    let step : step_cost c.loop-step.step ≡ frame_cost c.in-Under.frame + visit_cost c.in-Under.part.depth = ap step_cost c.in-Under.is in
    omega (arith, less, after, step)

pub loop-step-preserved : goal.loop-step-preserved
loop-step-preserved c =
    let at = (goal.at.loop-step-preserved c).In-Under in
    let forms = c.args.forms.now in
    let part = c.in-Under.part in
    let frame = c.in-Under.frame in
    let items = c.loop-step.frames.items in
    let bound = bindings_at c.args.pool.now.nodes c.args.names.now in
    let ns = c.loop-step.pool.nodes in
    let ms = c.visit-in-Under.new.pool.nodes in
    let grows = c.in_ok-step-in-Under.ensures.grows in
    let same = bindings_at-Grows c.args.pool.now.nodes ns c.args.names.now c.loop-step.invariant.grows c.requires in
    let goes : GoesOn bound forms ms (reading_of bound forms part.target part.depth part.raw) (visit_cost part.depth) c.in_ok-step-in-Under.step =
    subst (λ (bound : Bindings). GoesOn bound forms ms (reading_of bound forms part.target part.depth part.raw) (visit_cost part.depth) c.in_ok-step-in-Under.step) same
    c.in_ok-step-in-Under.ensures.step in
    let last : IsFrame ns frame = subst (IsStep ns) c.in-Under.is c.loop-step.invariant.step in
    let more = sym c.in_ok-push-in-Under.ensures.items in
    let reading = reading_of bound forms c.args.part.target c.args.part.depth c.args.part.raw in
    record {
      grows = Grows-trans c.args.pool.now.nodes ns ms c.loop-step.invariant.grows grows;
      step = goes.there;
      frames = subst (AreFrames ms) more (AreFrames-Grows ns ms grows (items ++ frame ∷ []) (AreFrames-push ns items frame c.loop-step.invariant.frames last));
      is = subst (λ (frames : List Frame). reading ≡ frames_reading bound forms ms frames (step_reading bound forms ms c.in_ok-step-in-Under.step)) more
          (visit_is bound forms ns ms grows items frame part reading (step_reading bound forms ms c.in_ok-step-in-Under.step) c.loop-step.invariant.frames last (under at) goes.is);
    }
