use Rattle.std.proofs.Common.{◌≡◌}
use Rattle.rz_lex.specs.Places.{IsPlaceOf}
use Rattle.rz_lex.proofs.place.place_after.Given as goal

abbrev pub invariant-loop-i : goal.invariant-loop-i
invariant-loop-i l = record { place : IsPlaceOf l.text l.after; here : l.after.at ≡ l.i }
