-- Worked steps: each row of the table of steps, the asks of each, and what a clash names. Each is decided by computation.
use Rattle.std.proofs.Common.{◌≡◌, refl}
use Rattle.rz_rules.specs.Tree.{Tree}
use Rattle.rz_rules.specs.Structural.{universe, term_variable}
use Rattle.rz_rules.specs.Tope.{equal_points, top, bottom, at_most, point_variable}
use Rattle.rz_reduction.specs.Terms.{pi, application, first, second, identity, reflexivity, induction, extension_application, under_cube, under_tope, under_term, lambda, sigma, pair, unit, extension_type, shape_lambda}
use Rattle.rz_reduction.specs.Piece.{question}
use Rattle.rz_reduction.specs.Step.{Step, step, New, Ask, Split, Clash, NoStep}
use Rattle.rz_reduction.proofs.Samples.{cases, constant, cube_one, interval, zero_end, one_end, terms, A, a, b, A', A'', square, t, s, wide, k, kA}

-- ---- constants

constants_unfold : step terms k 0 ≡ New (lambda universe universe (term_variable 0))
constants_unfold = refl

-- ---- functions

functions_apply : step terms (application A A' (lambda A A' (term_variable 0)) a) 0 ≡ New a
functions_apply = refl

functions_step : step terms kA 0 ≡ New (application universe universe (lambda universe universe (term_variable 0)) A)
functions_step = refl

variables_wait : step terms (application A A' b a) 0 ≡ NoStep
variables_wait = refl

-- the lambda's domain and codomain are other trees: both are asked, the domain first
abbrev asking : Tree
asking = application A A' (lambda kA (application universe universe k A') (term_variable 0)) a

domain_first : step terms asking 0 ≡ Ask (question terms A kA universe)
domain_first = refl

then_codomain : step terms asking 1 ≡ Ask (question (under_term terms A) A' (application universe universe k A') universe)
then_codomain = refl

then_the_tree : step terms asking 2 ≡ New a
then_the_tree = refl

-- what is one tree isn't asked
codomain_alone : step terms (application A A' (lambda A (application universe universe k A') (term_variable 0)) a) 0
    ≡ Ask (question (under_term terms A) A' (application universe universe k A') universe)
codomain_alone = refl

-- an ask inside is the ask of the whole
abbrev asking_inside : Tree
asking_inside = application A (pi A' A'') (lambda kA (pi A' A'') (lambda A' A'' (term_variable 0))) a

asks_inside : step terms (application A A' asking_inside b) 0 ≡ Ask (question terms A kA universe)
asks_inside = refl

-- ---- pairs

abbrev two : Tree
two = pair A A' a b

firsts : step terms (first A A' two) 0 ≡ New a
firsts = refl

seconds : step terms (second A A' two) 0 ≡ New b
seconds = refl

firsts_ask : step terms (first kA A' two) 0 ≡ Ask (question terms kA A universe)
firsts_ask = refl

seconds_ask : step terms (second A (application universe universe k A') two) 0
    ≡ Ask (question (under_term terms A) (application universe universe k A') A' universe)
seconds_ask = refl

firsts_step : step terms (first A A' (constant (sigma A A') two)) 0 ≡ New (first A A' two)
firsts_step = refl

seconds_step : step terms (second A A' (constant (sigma A A') two)) 0 ≡ New (second A A' two)
seconds_step = refl

firsts_wait : step terms (first A A' b) 0 ≡ NoStep
firsts_wait = refl

seconds_wait : step terms (second A A' b) 0 ≡ NoStep
seconds_wait = refl

-- ---- induction

abbrev M : Tree
M = lambda A (pi (identity A' (term_variable 2) (term_variable 0)) universe) (lambda (identity A' (term_variable 2) (term_variable 0)) universe unit)

inductions : step terms (induction A a M b a (reflexivity A a)) 0 ≡ New b
inductions = refl

-- the type, then the two ends, each with what the reflexivity has
type_first : step terms (induction A a M b a (reflexivity kA b)) 0 ≡ Ask (question terms A kA universe)
type_first = refl

then_left_end : step terms (induction A a M b a (reflexivity kA b)) 1 ≡ Ask (question terms a b A)
then_left_end = refl

then_right_end : step terms (induction A a M b a (reflexivity kA b)) 2 ≡ Ask (question terms a b A)
then_right_end = refl

then_the_case : step terms (induction A a M b a (reflexivity kA b)) 3 ≡ New b
then_the_case = refl

inductions_step : step terms (induction A a M b a (constant (identity A a a) (reflexivity A a))) 0
    ≡ New (induction A a M b a (reflexivity A a))
inductions_step = refl

inductions_wait : step terms (induction A a M b a b) 0 ≡ NoStep
inductions_wait = refl

-- ---- functions on shapes: into A, with a on the face where the point is the end 0

abbrev face : Tree
face = equal_points interval s zero_end

abbrev at_point : Tree → Tree → Tree
at_point f point = extension_application interval top A face a f point

on_the_face : step square (at_point (shape_lambda interval top A face a b) zero_end) 0 ≡ New a
on_the_face = refl

-- the face is asked before the function is looked at
face_of_a_variable : step square (at_point b zero_end) 0 ≡ New a
face_of_a_variable = refl

-- and it counts what the context says
face_under_a_tope : step (under_tope square (equal_points interval t zero_end)) (at_point b t) 0 ≡ New a
face_under_a_tope = refl

off_the_face : step square (at_point (shape_lambda interval top A face a b) t) 0 ≡ New b
off_the_face = refl

on_shapes_step : step square (at_point (constant (extension_type interval top A face a) (shape_lambda interval top A face a b)) t) 0
    ≡ New (at_point (shape_lambda interval top A face a b) t)
on_shapes_step = refl

on_shapes_wait : step square (at_point b t) 0 ≡ NoStep
on_shapes_wait = refl

-- two cubes are never asked: a clash names them
cubes_clash : step square (at_point (shape_lambda cube_one top A face a b) t) 0 ≡ Clash interval cube_one
cubes_clash = refl

-- nor two topes; it names these two, and not the annotations that have them
shapes_clash : step square (at_point (shape_lambda interval bottom A face a b) t) 0 ≡ Clash top bottom
shapes_clash = refl

faces_clash : step square (at_point (shape_lambda interval top A bottom a b) t) 0 ≡ Clash face bottom
faces_clash = refl

-- topes that entail each other agree
topes_agree : step square (at_point (shape_lambda interval (at_most s one_end) A face a b) t) 0 ≡ New b
topes_agree = refl

-- families are asked under the shape, and terms on the face under the shape and the face
family_first : step square (at_point (shape_lambda interval top kA face b b) t) 0
    ≡ Ask (question (under_tope (under_cube square interval) top) A kA universe)
family_first = refl

then_on_the_face : step square (at_point (shape_lambda interval top kA face b b) t) 1
    ≡ Ask (question (under_tope (under_tope (under_cube square interval) top) face) a b A)
then_on_the_face = refl

then_the_body : step square (at_point (shape_lambda interval top kA face b b) t) 2 ≡ New b
then_the_body = refl

-- a tope that fails is a clash only behind the asks before it
asks_before_a_clash : step square (at_point (shape_lambda interval top kA bottom a b) t) 0
    ≡ Ask (question (under_tope (under_cube square interval) top) A kA universe)
asks_before_a_clash = refl

clash_after_an_ask : step square (at_point (shape_lambda interval top kA bottom a b) t) 1 ≡ Clash face bottom
clash_after_an_ask = refl

-- ---- terms by cases

left_case : step square (cases A (at_most t one_end) (at_most s t) a b) 0 ≡ New a
left_case = refl

right_case : step square (cases A (at_most s t) (at_most t one_end) a b) 0 ≡ New b
right_case = refl

neither_case : step square (cases A (at_most t s) (at_most s t) a b) 0 ≡ Split (at_most t s) (at_most s t)
neither_case = refl

splits_inside : step square (application A A' (cases (pi A A') (at_most t s) (at_most s t) a b) a) 0 ≡ Split (at_most t s) (at_most s t)
splits_inside = refl

-- ---- anything else

normal_universe : step terms universe 0 ≡ NoStep
normal_universe = refl

normal_lambda : step terms (lambda A A' (application universe universe k A')) 0 ≡ NoStep
normal_lambda = refl

normal_pair : step terms (pair A A' kA b) 0 ≡ NoStep
normal_pair = refl

-- ---- nine coordinates

-- the face is asked before the function is looked at, and is too wide, also where the function could step
abbrev wide_face : Tree → Tree
wide_face f = extension_application wide top A (equal_points wide s s) a f (point_variable 0)

abbrev wide_context : Tree
wide_context = under_cube terms wide

face_too_wide : step wide_context (wide_face (shape_lambda wide top A bottom a b)) 0 ≡ Step.Over 9
face_too_wide = refl

-- inside too, unless the face further out holds
inner_face_too_wide : step wide_context (extension_application interval top A bottom a (wide_face b) zero_end) 0 ≡ Step.Over 9
inner_face_too_wide = refl

outer_face_first : step wide_context (extension_application interval top A top a (wide_face b) zero_end) 0 ≡ New a
outer_face_first = refl

-- nor does a tope that holds plainly, where the context has as many
cases_too_wide : step (under_tope wide_context (equal_points wide s s)) (cases A top bottom a b) 0 ≡ Step.Over 9
cases_too_wide = refl

-- two topes that are one tree aren't asked
abbrev on_wide_shape : Tree → Tree
on_wide_shape psi = extension_application wide (equal_points wide s s) A bottom a (shape_lambda wide psi A bottom a b) s

one_tope : step wide_context (on_wide_shape (equal_points wide s s)) 0 ≡ New b
one_tope = refl

two_topes : step wide_context (on_wide_shape top) 0 ≡ Step.Over 9
two_topes = refl
