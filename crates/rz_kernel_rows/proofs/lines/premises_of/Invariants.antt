use Rattle.std.proofs.Common.{◌≡◌, map, take, Some}
use Rattle.std.specs.Prelude.{slice_get}
use Rattle.rz_kernel_rows.proofs.lines.premises_of.Given as goal

-- the premises so far
abbrev pub invariant-loop-step : goal.invariant-loop-step
invariant-loop-step l = map (λ j. Some j) l.premises.items ≡ map (slice_get l.said) (take l.step-index l.from)
