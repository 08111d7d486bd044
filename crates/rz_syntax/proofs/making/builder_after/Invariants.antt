use Rattle.std.proofs.Common.{◌≡◌, ◌≤◌, drop}
use Rattle.rz_syntax.specs.Building.{built, nothing_read}
use Rattle.rz_syntax.proofs.making.builder_after.Given as goal

abbrev pub invariant-loop-step : goal.invariant-loop-step
invariant-loop-step l = record {
  few : l.read ≤ l.step-index;
  rest : built l.text l.tokens l.read (drop l.step-index l.steps) l.builder ≡ built l.text l.tokens 0 l.steps nothing_read;
}
