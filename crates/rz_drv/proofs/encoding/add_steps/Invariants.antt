use Rattle.std.proofs.Common.{◌≡◌, ◌++◌, map, take}
use Rattle.std.specs.List.{concat}
use Rattle.rz_rules.specs.File.{StepItem}
use Rattle.rz_drv.specs.Lines.{item_lines}
use Rattle.rz_drv.proofs.encoding.add_steps.Given as goal

-- the steps so far stand behind what stood there
abbrev pub invariant-loop-step : goal.invariant-loop-step
invariant-loop-step l = l.bytes ≡ l.initial.bytes ++ concat (item_lines (map (λ line. StepItem line) (take l.step-index l.steps)))
