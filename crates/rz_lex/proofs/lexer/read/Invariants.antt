use Rattle.std.proofs.Common.{length, ◌-◌}
use Rattle.rz_lex.specs.Text.{ReadsTo}
use Rattle.rz_lex.specs.Places.{IsPlaceOf}
use Rattle.rz_lex.proofs.lexer.read.Given as goal

-- The text is read up to the place, and these are the tokens so far.
abbrev pub invariant-loop-place : goal.invariant-loop-place
invariant-loop-place l = record { reads : ReadsTo l.text l.place.at l.tokens; here : IsPlaceOf l.text l.place }

abbrev pub decreases-loop-place : goal.decreases-loop-place
decreases-loop-place l = length l.text - l.place.at
