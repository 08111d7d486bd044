-- What frames make of a step, and what a walk costs.
use Rattle.std.proofs.Common.{◌≡◌, ◌+◌, List, [], ◌∷◌, ◌++◌, refl, sym, ap, ◌∙◌, arith}
use Rattle.std.specs.Prelude.{Ok, Err}
use Rattle.rz_rules.specs.declared.nodes.Node.{Node}
use Rattle.rz_pool.specs.Pool.{Grows}
use Rattle.rz_syntax.specs.declared.forms.Form.{Form}
use Rattle.rz_shape.specs.declared.fault.ShapeFault.{ShapeFault}
use Rattle.rz_shape.specs.declared.fault.ShapeFault.TheVariants.{Refused, OutOfMemory}
use Rattle.rz_shape.specs.declared.steps.Frame.{Frame}
use Rattle.rz_shape.specs.declared.steps.Frame.TheVariants.{Left, Right, First, Second}
use Rattle.rz_shape.specs.declared.steps.Outcome.{Outcome}
use Rattle.rz_shape.specs.declared.steps.Part.{Part}
use Rattle.rz_shape.specs.Answer.{IsFaultOf}
use Rattle.rz_shape.specs.Reading.{Reading, Bindings, PlacedPoint, and_then}
use Rattle.rz_shape.specs.Walk.{AreFrames, IsFrame, frame_cost, frame_reading, frames_cost, frames_reading, join_reading, outcome_of, reading_of}
use Rattle.rz_shape.proofs.Outcomes.{IsThere-Grows, outcome_of-Grows}

-- a refusal stays one
pub frames_refusal : (bound : Bindings) (forms : List Form) (ns : List Node) (frames : List Frame) (fault : ShapeFault)
    → frames_reading bound forms ns frames (Err fault) ≡ Err fault
frames_refusal bound forms ns [] fault = refl
frames_refusal bound forms ns (frame ∷ frames) fault =
    ap (λ (reading : Reading PlacedPoint). and_then reading (frame_reading bound forms ns frame)) (frames_refusal bound forms ns frames fault)

pub whole_refusal : (bound : Bindings) (forms : List Form) (ns : List Node) (frames : List Frame) (whole reading : Reading PlacedPoint) (fault : ShapeFault)
    → whole ≡ frames_reading bound forms ns frames reading → IsFaultOf reading fault → IsFaultOf whole fault
whole_refusal bound forms ns frames whole reading OutOfMemory is fault = tt
whole_refusal bound forms ns frames whole reading (Refused why at) is fault =
    is ∙ ap (frames_reading bound forms ns frames) fault ∙ frames_refusal bound forms ns frames (Refused why at)

-- one frame more
pub frames_push : (bound : Bindings) (forms : List Form) (ns : List Node) (frames : List Frame) (frame : Frame) (reading : Reading PlacedPoint)
    → frames_reading bound forms ns (frames ++ frame ∷ []) reading ≡ frames_reading bound forms ns frames (and_then reading (frame_reading bound forms ns frame))
frames_push bound forms ns [] frame reading = refl
frames_push bound forms ns (other ∷ frames) frame reading =
    ap (λ (reading : Reading PlacedPoint). and_then reading (frame_reading bound forms ns other)) (frames_push bound forms ns frames frame reading)

pub cost_push : (frames : List Frame) (frame : Frame) → frames_cost (frames ++ frame ∷ []) ≡ frames_cost frames + frame_cost frame
cost_push [] frame = omega arith
cost_push (other ∷ frames) frame = omega (arith, cost_push frames frame)

pub AreFrames-push : (ns : List Node) (frames : List Frame) (frame : Frame) → AreFrames ns frames → IsFrame ns frame → AreFrames ns (frames ++ frame ∷ [])
AreFrames-push ns [] frame are is = (is, tt)
AreFrames-push ns (other ∷ frames) frame are is = (are.0, AreFrames-push ns frames frame are.1 is)

pub AreFrames-front : (ns : List Node) (frames : List Frame) (frame : Frame) → AreFrames ns (frames ++ frame ∷ []) → AreFrames ns frames
AreFrames-front ns [] frame are = tt
AreFrames-front ns (other ∷ frames) frame are = (are.0, AreFrames-front ns frames frame are.1)

pub AreFrames-last : (ns : List Node) (frames : List Frame) (frame : Frame) → AreFrames ns (frames ++ frame ∷ []) → IsFrame ns frame
AreFrames-last ns [] frame are = are.0
AreFrames-last ns (other ∷ frames) frame are = AreFrames-last ns frames frame are.1

-- ---- growth of the pool

module _ (ns ms : List Node) (grows : Grows ns ms) where
  pub IsFrame-Grows : (frame : Frame) → IsFrame ns frame → IsFrame ms frame
  IsFrame-Grows (Right join whole right left) there = IsThere-Grows ns ms grows left there
  IsFrame-Grows (Left join whole left right depth) there = tt
  IsFrame-Grows (First arg) there = tt
  IsFrame-Grows (Second arg) there = tt

  pub AreFrames-Grows : (frames : List Frame) → AreFrames ns frames → AreFrames ms frames
  AreFrames-Grows [] are = tt
  AreFrames-Grows (frame ∷ frames) are = (IsFrame-Grows frame are.0, AreFrames-Grows frames are.1)

  frame_reading-Grows : (bound : Bindings) (forms : List Form) (frame : Frame) → IsFrame ns frame → frame_reading bound forms ms frame ≡ frame_reading bound forms ns frame
  frame_reading-Grows bound forms (Right join whole right left) there = ap (join_reading join whole right) (outcome_of-Grows ns ms grows left there)
  frame_reading-Grows bound forms (Left join whole left right depth) there = refl
  frame_reading-Grows bound forms (First arg) there = refl
  frame_reading-Grows bound forms (Second arg) there = refl

  pub frames_reading-Grows : (bound : Bindings) (forms : List Form) (frames : List Frame) (reading : Reading PlacedPoint) → AreFrames ns frames
      → frames_reading bound forms ms frames reading ≡ frames_reading bound forms ns frames reading
  frames_reading-Grows bound forms [] reading are = refl
  frames_reading-Grows bound forms (frame ∷ frames) reading are =
      let one = frame_reading-Grows bound forms frame are.0 in
      let more = frames_reading-Grows bound forms frames reading are.1 in
      λ i. and_then (more i) (one i)

-- ---- the two steps of the loop

-- a frame is taken
pub resume_is : (bound : Bindings) (forms : List Form) (ns ms : List Node) → Grows ns ms → (frames : List Frame) (frame : Frame) (outcome : Outcome)
    (whole next : Reading PlacedPoint) → AreFrames ns (frames ++ frame ∷ [])
    → whole ≡ frames_reading bound forms ns (frames ++ frame ∷ []) (Ok (outcome_of ns outcome))
    → frame_reading bound forms ns frame (outcome_of ns outcome) ≡ next → whole ≡ frames_reading bound forms ms frames next
resume_is bound forms ns ms grows frames frame outcome whole next are is step =
    is ∙ frames_push bound forms ns frames frame (Ok (outcome_of ns outcome)) ∙ ap (frames_reading bound forms ns frames) step
    ∙ sym (frames_reading-Grows ns ms grows bound forms frames next (AreFrames-front ns frames frame are))

-- a frame is put
pub visit_is : (bound : Bindings) (forms : List Form) (ns ms : List Node) → Grows ns ms → (frames : List Frame) (frame : Frame) (part : Part)
    (whole next : Reading PlacedPoint) → AreFrames ns frames → IsFrame ns frame
    → whole ≡ frames_reading bound forms ns frames (and_then (reading_of bound forms part.target part.depth part.raw) (frame_reading bound forms ns frame))
    → reading_of bound forms part.target part.depth part.raw ≡ next → whole ≡ frames_reading bound forms ms (frames ++ frame ∷ []) next
visit_is bound forms ns ms grows frames frame part whole next are last is step =
    is ∙ sym (frames_push bound forms ns frames frame (reading_of bound forms part.target part.depth part.raw)) ∙ ap (frames_reading bound forms ns (frames ++ frame ∷ [])) step
    ∙ sym (frames_reading-Grows ns ms grows bound forms (frames ++ frame ∷ []) next (AreFrames-push ns frames frame are last))
