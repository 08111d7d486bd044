use Rattle.std.proofs.Common.{◌≡◌, Some, slice_get, take}
use Rattle.std.specs.List.{AllZip}
use Rattle.rz_rules.specs.declared.judgments.Line.{Line}
use Rattle.rz_export.specs.Moves.{IsMovedLine}
use Rattle.rz_export.proofs.moves.moved_lines.Given as goal

abbrev pub invariant-loop-step : goal.invariant-loop-step
invariant-loop-step l = AllZip (λ step new. (old : Line) × (slice_get l.log step ≡ Some old) × IsMovedLine l.ids l.steps old new) (take l.step-index l.steps) l.lines
