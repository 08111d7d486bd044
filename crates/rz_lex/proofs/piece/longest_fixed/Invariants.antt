use Rattle.std.proofs.Common.{take}
use Rattle.rz_lex.specs.Spelling.{entries}
use Rattle.rz_lex.proofs.Fixed.{BestSoFar}
use Rattle.rz_lex.proofs.piece.longest_fixed.Given as goal

-- the best of the entries so far
abbrev pub invariant-loop-spelling : goal.invariant-loop-spelling
invariant-loop-spelling l = BestSoFar (entries (take l.spelling-index l.fixed)) l.rest l.len l.best
