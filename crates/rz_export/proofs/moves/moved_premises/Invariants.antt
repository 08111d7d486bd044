use Rattle.std.proofs.Common.{take}
use Rattle.rz_export.specs.Moves.{ArePlaces}
use Rattle.rz_export.proofs.moves.moved_premises.Given as goal

abbrev pub invariant-loop-premise : goal.invariant-loop-premise
invariant-loop-premise l = ArePlaces l.steps (take l.premise-index l.from) l.moved
