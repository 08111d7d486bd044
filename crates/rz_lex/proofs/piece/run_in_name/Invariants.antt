use Rattle.std.proofs.Common.{◌≡◌, ℕ, ◌<◌, true, get_or}
use Rattle.rz_lex.specs.Spelling.{is_in_name}
use Rattle.rz_lex.proofs.piece.run_in_name.Given as goal

abbrev pub invariant-loop-i : goal.invariant-loop-i
invariant-loop-i l = (k : ℕ) → k < l.i → is_in_name (get_or l.rest k 0) ≡ true
