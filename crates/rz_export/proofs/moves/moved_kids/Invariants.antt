use Rattle.std.proofs.Common.{take}
use Rattle.rz_export.specs.Moves.{ArePlaces}
use Rattle.rz_export.proofs.moves.moved_kids.Given as goal

abbrev pub invariant-loop-kid : goal.invariant-loop-kid
invariant-loop-kid l = ArePlaces l.ids (take l.kid-index l.kids) l.moved
