use Rattle.std.proofs.Common.{◌≡◌, ◌+◌, drop}
use Rattle.std.specs.Option.{option_map}
use Rattle.rz_lex.specs.Pieces.{block_comment_end}
use Rattle.rz_lex.proofs.piece.block_comment_end.Given as goal

abbrev pub invariant-loop-i : goal.invariant-loop-i
invariant-loop-i l = block_comment_end l.bytes ≡ option_map (λ place. l.i + place) (block_comment_end (drop l.i l.bytes))
