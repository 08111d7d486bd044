use Rattle.rz_lex.proofs.Fronts.{StringFrom}
use Rattle.rz_lex.proofs.piece.string_body_len.Given as goal

abbrev pub invariant-loop-i : goal.invariant-loop-i
invariant-loop-i l = StringFrom l.body l.i
