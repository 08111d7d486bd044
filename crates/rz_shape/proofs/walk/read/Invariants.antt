use Rattle.std.proofs.Common.{◌≡◌, ◌+◌}
use Rattle.rz_pool.specs.Pool.{Grows}
use Rattle.rz_shape.specs.Answer.{bindings_at}
use Rattle.rz_shape.specs.Walk.{AreFrames, IsStep, frames_cost, frames_reading, reading_of, step_cost, step_reading}
use Rattle.rz_shape.proofs.walk.read.Given as goal

-- what the frames make of the step is what is asked for
abbrev pub invariant-loop-step : goal.invariant-loop-step
invariant-loop-step l = record {
  grows : Grows l.fn.pool.nodes l.pool.nodes;
  step : IsStep l.pool.nodes l.step;
  frames : AreFrames l.pool.nodes l.frames.items;
  is : reading_of (bindings_at l.fn.pool.nodes l.names) l.forms l.fn.part.target l.fn.part.depth l.fn.part.raw
      ≡ frames_reading (bindings_at l.fn.pool.nodes l.names) l.forms l.pool.nodes l.frames.items
      (step_reading (bindings_at l.fn.pool.nodes l.names) l.forms l.pool.nodes l.step);
}

abbrev pub decreases-loop-step : goal.decreases-loop-step
decreases-loop-step l = step_cost l.step + frames_cost l.frames.items
