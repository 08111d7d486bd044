use Rattle.std.proofs.Common.{◌≡◌, ℕ, List, map}
use Rattle.rz_tope_query.specs.Sequent.{bound_form}
use Rattle.rz_tope_query.specs.Parts.{HasPlaces}
use Rattle.rz_tope_query.proofs.names.bound_forms.Given as goal

abbrev pub invariant-loop-form : goal.invariant-loop-form
invariant-loop-form l = (names : List (List ℕ)) → HasPlaces names l.places → l.bound ≡ map (bound_form names) l.yielded
