use Rattle.std.proofs.Common.{◌≡◌, ℕ, ◌<◌, false, eqb, get_or}
use Rattle.rz_lex.proofs.piece.line_len.Given as goal

abbrev pub invariant-loop-len : goal.invariant-loop-len
invariant-loop-len l = (k : ℕ) → k < l.len → eqb (get_or l.rest k 0) 10 ≡ false
