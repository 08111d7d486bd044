-- Worked runs: each way in which a run ends, with trees left and with none. Each is decided by computation.
use Rattle.std.proofs.Common.{◌≡◌, refl}
use Rattle.rz_rules.specs.declared.verdicts.Limit.TheVariants.{Steps, Depth, Coordinates}
use Rattle.rz_rules.specs.Tree.{Tree}
use Rattle.rz_rules.specs.Structural.{universe, term_variable}
use Rattle.rz_rules.specs.Tope.{equal_points, top, bottom, at_most}
use Rattle.rz_reduction.specs.Terms.{application, extension_application, under_cube, lambda, shape_lambda}
use Rattle.rz_reduction.specs.Piece.{Question}
use Rattle.rz_reduction.specs.Outcome.{Comparison, Equal}
use Rattle.rz_reduction.specs.Run.{Reached, Divided, Clashed, Stopped, run_for, run, step_limit}
use Rattle.rz_reduction.specs.Comparison.{conversion, full_run, depth_of_asks}
use Rattle.rz_reduction.proofs.Samples.{interval, cube_one, wide, terms, A, a, b, A', square, t, s, k, kA, a_again, by_order}

abbrev all_equal : Question → Comparison
all_equal q = Equal

no_step : full_run terms a ≡ Reached a
unfolding step_limit depth_of_asks
no_step = refl

one_step : full_run terms a_again ≡ Reached a
unfolding step_limit depth_of_asks
one_step = refl

two_steps : full_run terms kA ≡ Reached A
unfolding step_limit depth_of_asks
two_steps = refl

-- the asks of its steps are compared, and are equal
asks_equal : full_run terms (application A A' (lambda kA (application universe universe k A') (term_variable 0)) a) ≡ Reached a
unfolding step_limit depth_of_asks
asks_equal = refl

-- an ask that is Differ is a clash of the two annotations
ask_differs : full_run terms (application A A' (lambda universe A' (term_variable 0)) a) ≡ Clashed A universe
unfolding step_limit depth_of_asks
ask_differs = refl

-- an ask that clashes gives its own two trees
abbrev clashing : Tree
clashing = application A A' (lambda universe A' (term_variable 0)) a

ask_clashes : full_run terms (application A A' (lambda clashing A' (term_variable 0)) a) ≡ Clashed A universe
unfolding step_limit depth_of_asks
ask_clashes = refl

-- and one that is stopped stops the run
ask_too_deep : run (conversion 0) terms (application A A' (lambda kA A' (term_variable 0)) a) ≡ Stopped Depth
unfolding step_limit
ask_too_deep = refl

splits : full_run square (application A A' (lambda A A' (by_order A' (term_variable 0) (term_variable 1))) a)
    ≡ Divided (at_most t s) (at_most s t)
unfolding step_limit depth_of_asks
splits = refl

-- cubes and topes that don't agree are a clash of the two
abbrev at_t : Tree → Tree
at_t f = extension_application interval top A bottom a f t

cubes_clash : full_run square (at_t (shape_lambda cube_one top A bottom a b)) ≡ Clashed interval cube_one
unfolding step_limit depth_of_asks
cubes_clash = refl

topes_clash : full_run square (at_t (shape_lambda interval bottom A bottom a b)) ≡ Clashed top bottom
unfolding step_limit depth_of_asks
topes_clash = refl

-- nine coordinates are too many: in a face at a point, and in one of two topes that have to agree
abbrev wide_context : Tree
wide_context = under_cube terms wide

abbrev wide_face : Tree
wide_face = extension_application wide top A (equal_points wide s s) a b s

face_too_wide : full_run wide_context wide_face ≡ Stopped Coordinates
unfolding step_limit depth_of_asks
face_too_wide = refl

abbrev wide_tope : Tree
wide_tope = extension_application wide top A bottom a (shape_lambda wide (equal_points wide s s) A bottom a b) s

tope_too_wide : full_run wide_context wide_tope ≡ Stopped Coordinates
unfolding step_limit depth_of_asks
tope_too_wide = refl

-- Where no new tree may be made, a new tree and an ask are too many; all else is still answered.
limit_normal : run_for all_equal 0 terms a ≡ Reached a
limit_normal = refl

limit_new : run_for all_equal 0 terms a_again ≡ Stopped Steps
limit_new = refl

limit_ask : run_for all_equal 0 terms (application A A' (lambda kA A' (term_variable 0)) a) ≡ Stopped Steps
limit_ask = refl

limit_split : run_for all_equal 0 square (by_order A a b) ≡ Divided (at_most t s) (at_most s t)
limit_split = refl

limit_clash : run_for all_equal 0 square (at_t (shape_lambda cube_one top A bottom a b)) ≡ Clashed interval cube_one
limit_clash = refl

limit_wide : run_for all_equal 0 wide_context wide_face ≡ Stopped Coordinates
limit_wide = refl

-- the unfolding of a constant is a step like any other
unfolding_counts : run_for all_equal 1 terms kA ≡ Stopped Steps
unfolding_counts = refl

unfolding_counts_once : run_for all_equal 2 terms kA ≡ Reached A
unfolding_counts_once = refl
