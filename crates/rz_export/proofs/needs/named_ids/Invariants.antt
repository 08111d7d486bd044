use Rattle.std.proofs.Common.{◌≡◌, take}
use Rattle.rz_export.specs.Needs.{names_at}
use Rattle.rz_export.proofs.needs.named_ids.Given as goal

abbrev pub invariant-loop-step : goal.invariant-loop-step
invariant-loop-step l = l.ids ≡ names_at l.log (take l.step-index l.steps)
