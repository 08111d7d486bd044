-- Worked comparisons: each clause, with terms that are equal and terms that differ where it speaks of both. Each is decided by
-- computation, at the depth of a reading and with runs of 100,000 steps where nothing else is said.
use Rattle.std.proofs.Common.{◌≡◌, ℕ, [], ◌∷◌, true, false, refl}
use Rattle.rz_rules.specs.declared.verdicts.Limit.TheVariants.{Depth, Coordinates}
use Rattle.rz_rules.specs.declared.kinds.Kind.TheVariants.{PointLeft, PointRight, Postulate}
use Rattle.rz_rules.specs.Tree.{Tree, At, Nil, And}
use Rattle.rz_rules.specs.Structural.{universe, term_variable}
use Rattle.rz_rules.specs.Tope.{equal_points, top, bottom, at_most, point_variable}
use Rattle.rz_rules.specs.Same.{same_tree}
use Rattle.rz_reduction.specs.Entailment.{AllInOrder, InNoOrder, orders}
use Rattle.rz_reduction.specs.Terms.{pi, application, first, second, identity, reflexivity, induction, extension_application, lambda, sigma, pair, unit, extension_type, shape_lambda}
use Rattle.rz_reduction.specs.Terms.{under_cube, under_tope, under_term}
use Rattle.rz_reduction.specs.Piece.{Question, question, Topes, Points, Compared, extension, asks}
use Rattle.rz_reduction.specs.Outcome.{Comparison, Equal, Differ, Clashes, Limited, Fails, PointsFail, outcome_of}
use Rattle.rz_reduction.specs.Step.{Ask, step}
use Rattle.rz_reduction.specs.Run.{Reached, step_limit}
use Rattle.rz_reduction.specs.Comparison.{Parts, Undecided, conversion, reach, conclusion, depth_of_comparison, depth_of_asks, full_comparison, full_run}
use Rattle.rz_reduction.proofs.Samples.{absurdity, cube_one, interval, product, wide, zero_end, one_end, terms, A, a, b, A', A'', square, t, s, occupied, two_of, k, kA, same, a_again, by_order}

abbrev compares : Tree → Tree → Tree → Tree → Comparison
compares C one other type = full_comparison (question C one other type)

-- ---- a type and two of its terms, as they are first met

applied_identity : compares terms a_again a A ≡ Equal
unfolding step_limit depth_of_comparison
applied_identity = refl

two_variables : compares terms a b A ≡ Differ
unfolding step_limit depth_of_comparison
two_variables = refl

two_variables_without_depth : conversion 0 (question terms a b A) ≡ Limited Depth
two_variables_without_depth = refl

runs_to_a : full_run terms a_again ≡ Reached a
unfolding step_limit depth_of_asks
runs_to_a = refl

asks_for_the_domain : step terms (application A A' (lambda kA A' (term_variable 0)) a) 0 ≡ Ask (question terms A kA universe)
asks_for_the_domain = refl

-- ---- one tree

one_tree : conversion 0 (question terms a a A) ≡ Equal
one_tree = refl

-- ---- a context whose topes can't all hold

abbrev impossible : Tree
impossible = under_tope (under_tope square (equal_points interval t zero_end)) (equal_points interval t one_end)

impossible_equal : conversion 0 (question impossible a b A) ≡ Equal
impossible_equal = refl

possible_not_equal : conversion 0 (question (under_tope square (equal_points interval t zero_end)) a b A) ≡ Limited Depth
possible_not_equal = refl

-- ---- no depth

-- a depth of one is enough for terms that run to one tree, and not for an ask on the way
some_depth : conversion 1 (question terms a_again a A) ≡ Equal
unfolding step_limit
some_depth = refl

no_depth_for_asks : conversion 1 (question terms (application A A' (lambda kA A' (term_variable 0)) a) a A) ≡ Limited Depth
unfolding step_limit
no_depth_for_asks = refl

-- ---- the type

-- two variables of a type that splits: one term under t ≤ s, and under s ≤ t too
type_splits : compares square a b (by_order universe unit unit) ≡ Equal
unfolding step_limit depth_of_comparison
type_splits = refl

type_splits_differ : compares square a b (by_order universe unit A) ≡ Differ
unfolding step_limit depth_of_comparison
type_splits_differ = refl

-- the type is run also where both terms are variables
type_clashes : compares terms a b (application A A' (lambda universe A' (term_variable 0)) A) ≡ Clashes A universe
unfolding step_limit depth_of_comparison
type_clashes = refl

-- ---- eta

abbrev of_functions : Tree
of_functions = two_of (pi (term_variable 0) (term_variable 1)) (pi (term_variable 1) (term_variable 2))

functions_eta : compares of_functions a (lambda A A' (application A' A'' (term_variable 2) (term_variable 0))) (pi A A') ≡ Equal
unfolding step_limit depth_of_comparison
functions_eta = refl

-- with a family that mentions its own variable: that stays the innermost, and the new one stands outside of it
abbrev loops : Tree → Tree
loops A = identity A (term_variable 0) (term_variable 0)

abbrev of_loops : Tree
of_loops = two_of (pi (term_variable 0) (loops (term_variable 1))) (pi (term_variable 1) (loops (term_variable 2)))

dependent_functions_eta : compares of_loops a (lambda A (loops A') (application A' (loops A'') (term_variable 2) (term_variable 0))) (pi A (loops A'))
    ≡ Equal
unfolding step_limit depth_of_comparison
dependent_functions_eta = refl

functions_differ : compares of_functions a b (pi A A') ≡ Differ
unfolding step_limit depth_of_comparison
functions_differ = refl

abbrev of_pairs : Tree
of_pairs = two_of (sigma (term_variable 0) (term_variable 1)) (sigma (term_variable 1) (term_variable 2))

pairs_eta : compares of_pairs a (pair A A' (first A A' a) (second A A' a)) (sigma A A') ≡ Equal
unfolding step_limit depth_of_comparison
pairs_eta = refl

pairs_differ : compares of_pairs a (pair A A' (first A A' a) (second A A' b)) (sigma A A') ≡ Differ
unfolding step_limit depth_of_comparison
pairs_differ = refl

units_equal : compares (two_of unit unit) a b unit ≡ Equal
unfolding step_limit depth_of_comparison
units_equal = refl

abbrev line : Tree → Tree
line A = extension_type interval top A bottom (absurdity A)

abbrev at_end : Tree → Tree → Tree
at_end f point = extension_application interval top A bottom (absurdity A) f point

abbrev of_lines : Tree
of_lines = two_of (line (term_variable 0)) (line (term_variable 1))

lines_eta : compares of_lines a (shape_lambda interval top A bottom (absurdity A) (at_end a s)) (line A) ≡ Equal
unfolding step_limit depth_of_comparison
lines_eta = refl

lines_differ : compares of_lines a b (line A) ≡ Differ
unfolding step_limit depth_of_comparison
lines_differ = refl

-- functions on a shape that is its face are the face's term
faces_equal : compares terms a b (extension_type interval (equal_points interval s zero_end) A (equal_points interval s zero_end) a) ≡ Equal
unfolding step_limit depth_of_comparison
faces_equal = refl

-- ---- normal forms

runs_to_one_tree : compares terms kA A universe ≡ Equal
unfolding step_limit depth_of_comparison
runs_to_one_tree = refl

runs_to_two_trees : compares terms a_again b A ≡ Differ
unfolding step_limit depth_of_comparison
runs_to_two_trees = refl

left_splits : compares square (by_order A a a) a A ≡ Equal
unfolding step_limit depth_of_comparison
left_splits = refl

right_splits : compares square a (by_order A a b) A ≡ Differ
unfolding step_limit depth_of_comparison
right_splits = refl

-- the left term is run first
left_clashes : compares terms (application A A' (lambda universe A' (term_variable 0)) a) (application A A' (lambda unit A' (term_variable 0)) a) A
    ≡ Clashes A universe
unfolding step_limit depth_of_comparison
left_clashes = refl

-- ---- two terms of one former

function_types : compares terms (pi A A') (pi kA A') universe ≡ Equal
unfolding step_limit depth_of_comparison
function_types = refl

function_types_differ : compares terms (pi A A') (pi A unit) universe ≡ Differ
unfolding step_limit depth_of_comparison
function_types_differ = refl

pair_types : compares terms (sigma A A') (sigma A (application universe universe k A')) universe ≡ Equal
unfolding step_limit depth_of_comparison
pair_types = refl

pair_types_differ : compares terms (sigma A A') (sigma unit A') universe ≡ Differ
unfolding step_limit depth_of_comparison
pair_types_differ = refl

identity_types : compares terms (identity A a b) (identity kA a_again b) universe ≡ Equal
unfolding step_limit depth_of_comparison
identity_types = refl

identity_types_differ : compares terms (identity A a b) (identity A b b) universe ≡ Differ
unfolding step_limit depth_of_comparison
identity_types_differ = refl

reflexivities : compares terms (reflexivity A a) (reflexivity A a_again) (identity A a a) ≡ Equal
unfolding step_limit depth_of_comparison
reflexivities = refl

reflexivities_differ : compares terms (reflexivity A a) (reflexivity A b) (identity A a a) ≡ Differ
unfolding step_limit depth_of_comparison
reflexivities_differ = refl

-- with other topes that entail each other
extension_types : compares terms (line A) (extension_type interval (at_most zero_end s) kA bottom (absurdity kA)) universe ≡ Equal
unfolding step_limit depth_of_comparison
extension_types = refl

cubes_differ : compares terms (line A) (extension_type cube_one top A bottom (absurdity A)) universe ≡ Differ
unfolding step_limit depth_of_comparison
cubes_differ = refl

-- a tope that fails sets them apart: no orders are tried, and without depth for them it is no limit
shapes_differ : conversion 1 (question occupied (line A) (extension_type interval (at_most s zero_end) A bottom (absurdity A)) universe) ≡ Differ
unfolding step_limit
shapes_differ = refl

abbrev from_start : Tree → Tree
from_start x = extension_type interval top A (equal_points interval s zero_end) x

on_faces_differ : compares terms (from_start a) (from_start b) universe ≡ Differ
unfolding step_limit depth_of_comparison
on_faces_differ = refl

-- ---- two stuck terms

arguments : compares of_functions (application A A' a b) (application A A' a (application A A' same b)) A ≡ Equal
unfolding step_limit depth_of_comparison
arguments = refl

arguments_differ : compares of_functions (application A A' a a) (application A A' a b) A ≡ Differ
unfolding step_limit depth_of_comparison
arguments_differ = refl

annotations : compares of_functions (application A A' a b) (application kA A' a b) A ≡ Equal
unfolding step_limit depth_of_comparison
annotations = refl

heads_differ : compares of_functions (application A A' a b) (application A A' b b) A ≡ Differ
unfolding step_limit depth_of_comparison
heads_differ = refl

kinds_differ : compares of_pairs (first A A' a) (second A A' a) A ≡ Differ
unfolding step_limit depth_of_comparison
kinds_differ = refl

projections : compares of_pairs (first A A' a) (first kA A' a) A ≡ Equal
unfolding step_limit depth_of_comparison
projections = refl

second_projections : compares of_pairs (second A A' a) (second kA A' a) A ≡ Equal
unfolding step_limit depth_of_comparison
second_projections = refl

inductions : compares terms (induction A a unit b a b) (induction A a unit b a_again b) A ≡ Equal
unfolding step_limit depth_of_comparison
inductions = refl

inductions_differ : compares terms (induction A a unit b a b) (induction A a unit a a b) A ≡ Differ
unfolding step_limit depth_of_comparison
inductions_differ = refl

-- a function on a shape at two points that a tope makes equal, and at two that none does
points_equal : compares (under_tope square (equal_points interval t s)) (at_end a t) (at_end a s) A ≡ Equal
unfolding step_limit depth_of_comparison
points_equal = refl

points_differ : compares square (at_end a t) (at_end a s) A ≡ Differ
unfolding step_limit depth_of_comparison
points_differ = refl

-- postulated functions from types to types, one for each name
abbrev postulated : ℕ → Tree → Tree
postulated letter x = application universe universe (At Postulate 0 (letter ∷ []) (And (pi universe universe) Nil)) x

one_postulate : compares terms (postulated 112 A) (postulated 112 kA) universe ≡ Equal
unfolding step_limit depth_of_comparison
one_postulate = refl

-- two names are two heads; no pair of coordinates is left to split on, and they differ
two_postulates : compares terms (postulated 112 A) (postulated 113 A) universe ≡ Differ
unfolding step_limit depth_of_comparison
two_postulates = refl

-- all kinds and the number of eliminators come before any argument: here none is compared, and no depth is wanted
number_first : conversion 1 (question of_functions (application A A' a b) (application A A' (application A A' a a_again) b) A) ≡ Differ
unfolding step_limit
number_first = refl

-- the same where a later kind is another one: a first and a second part of what a function into pairs makes of two arguments
abbrev of_function_to_pairs : Tree
of_function_to_pairs = under_term terms (pi A (sigma A' A''))

abbrev to_pairs : Tree → Tree
to_pairs x = application A' (sigma A'' (term_variable 5)) (term_variable 0) x

kind_first : conversion 1 (question of_function_to_pairs (first A' A'' (to_pairs (term_variable 2))) (second A' A'' (to_pairs (term_variable 1))) A')
    ≡ Differ
unfolding step_limit
kind_first = refl

-- ---- orders

-- the pair of which both stand first in the topes of the context
first_pair : orders occupied ≡ InNoOrder t s
first_pair = refl

other_pair : orders (under_tope (under_tope square (at_most s one_end)) (at_most t one_end)) ≡ InNoOrder s t
other_pair = refl

no_pair : orders (under_tope occupied (at_most s t)) ≡ AllInOrder
no_pair = refl

-- by its first member, and then by its second
second_pair : orders (under_tope (under_tope (under_cube square interval) (at_most (point_variable 2) (point_variable 1))) (at_most s one_end))
    ≡ InNoOrder (point_variable 2) s
second_pair = refl

-- the parts of a point of a product
abbrev left_of_point : Tree
left_of_point = At PointLeft 0 [] (And s Nil)

abbrev right_of_point : Tree
right_of_point = At PointRight 0 [] (And s Nil)

parts_of_a_point :
    orders (under_tope (under_tope (under_cube terms (product interval interval)) (at_most right_of_point one_end)) (at_most left_of_point one_end))
    ≡ InNoOrder right_of_point left_of_point
parts_of_a_point = refl

-- A function f on a square with values that are lines; the line is constant where t ≤ s, and x at each point where s ≤ t. At t,
-- s and the end 0 it is stuck, and each of the two orders makes it x.
abbrev across : Tree → (Tree → Tree) → Tree → Tree → Tree
across f face x point =
    let lines = λ (t : Tree). extension_type interval top A (face t) x in
    let constant_line = λ (t : Tree). shape_lambda interval top A (face t) x x in
    let inner = extension_type interval top (lines (point_variable 2)) (at_most (point_variable 1) s) (constant_line (point_variable 2)) in
    extension_application interval top A (face (point_variable 2)) x
    (extension_application interval top (lines (point_variable 3)) (at_most (point_variable 2) s) (constant_line (point_variable 3))
    (extension_application interval top inner bottom (absurdity inner) f t) s) point

abbrev below_diagonal : Tree → Tree
below_diagonal t = at_most (point_variable 1) t

both_orders : compares occupied (across b below_diagonal a zero_end) a A ≡ Equal
unfolding step_limit depth_of_comparison
both_orders = refl

-- without the second face the one order leaves them different
one_order : compares occupied (across b (λ t. bottom) a zero_end) a A ≡ Differ
unfolding step_limit depth_of_comparison
one_order = refl

-- and with no tope in the context no coordinates are split on
no_orders : compares square (across b below_diagonal a zero_end) a A ≡ Differ
unfolding step_limit depth_of_comparison
no_orders = refl

-- Around b, a first and a second part: the kinds disagree before any argument is compared, and the orders make both a. With
-- two first parts the arguments are compared, and set them apart.
abbrev across_part : (Tree → Tree → Tree → Tree) → Tree → Tree
across_part part x = across (part A A' (application A A' b x)) below_diagonal a zero_end

kinds_before_arguments : compares occupied (across_part first a) (across_part second b) A ≡ Equal
unfolding step_limit depth_of_comparison
kinds_before_arguments = refl

arguments_set_apart : compares occupied (across_part first a) (across_part first b) A ≡ Differ
unfolding step_limit depth_of_comparison
arguments_set_apart = refl

-- points that don't agree lead to the orders too: each of them leaves these two apart
apart_differ : compares occupied (at_end a t) (at_end a s) A ≡ Differ
unfolding step_limit depth_of_comparison
apart_differ = refl

-- An argument is compared before points that stand further out: here it finds no depth for its own orders. The other way round
-- the points lead to the orders at once, and the argument isn't compared.
abbrev after_argument : Tree → Tree → Tree
after_argument x point = at_end (application A A' a x) point

argument_before_points : conversion 2 (question occupied (after_argument a t) (after_argument b s) A) ≡ Limited Depth
unfolding step_limit
argument_before_points = refl

points_before_argument : conversion 2 (question occupied (application A A' (at_end a t) a) (application A A' (at_end a s) b) A) ≡ Differ
unfolding step_limit
points_before_argument = refl

orders_need_depth : conversion 1 (question occupied (at_end a t) (at_end a s) A) ≡ Limited Depth
unfolding step_limit
orders_need_depth = refl

-- ---- what a split compares: the terms as given, and not the normal forms

abbrev given_left : Question → Comparison
given_left q = elim (same_tree q.left a_again) [ true ↦ Equal | false ↦ Differ ]

abbrev under_no_order : Question
under_no_order = question occupied a_again b A

orders_of_given_terms : conclusion given_left under_no_order (reach given_left under_no_order) ≡ Equal
unfolding step_limit
orders_of_given_terms = refl

abbrev of_split_type : Question
of_split_type = question square a_again b (by_order universe A A)

type_of_given_terms : conclusion given_left of_split_type (reach given_left of_split_type) ≡ Equal
unfolding step_limit
type_of_given_terms = refl

-- ---- what sets two terms apart: the two after their runs, and the piece that fails, where it stands

apart_without_parts : reach (conversion 0) (question terms a_again b A) ≡ Undecided a b
unfolding step_limit
apart_without_parts = refl

-- at eta the two are as given
apart_at_a_variable : reach (conversion 0) (question (two_of (pi (term_variable 0) (term_variable 1)) (pi (term_variable 1) (term_variable 2))) a b (pi A A'))
    ≡ Parts a b (Compared (question (under_term (two_of (pi (term_variable 0) (term_variable 1)) (pi (term_variable 1) (term_variable 2))) A)
    (application A' A'' (term_variable 2) (term_variable 0)) (application A' A'' (term_variable 1) (term_variable 0)) A') ∷ [])
unfolding step_limit
apart_at_a_variable = refl

abbrev narrow : Tree
narrow = extension_type interval (at_most s zero_end) A bottom (absurdity A)

-- a tope of two shapes is asked under the cube
apart_by_a_tope : outcome_of (conversion 0) (asks (extension terms interval top A bottom (absurdity A) interval (at_most s zero_end) A bottom (absurdity A)))
    ≡ Fails (Topes (under_cube terms interval) top (at_most s zero_end))
apart_by_a_tope = refl

parts_of_two_shapes : reach (conversion 0) (question terms (line A) narrow universe)
    ≡ Parts (line A) narrow (asks (extension terms interval top A bottom (absurdity A) interval (at_most s zero_end) A bottom (absurdity A)))
unfolding step_limit
parts_of_two_shapes = refl

apart_by_points : outcome_of (conversion 0) (Points occupied interval t s ∷ []) ≡ PointsFail (Points occupied interval t s)
apart_by_points = refl

-- ---- nine coordinates

abbrev at_wide : Tree → Tree
at_wide f = extension_application wide top A bottom (absurdity A) f s

-- points that are one tree are asked all the same
wide_points : compares (under_cube of_functions wide) (application A A' (at_wide a) b) (application A A' (at_wide a) (application A A' same b)) A
    ≡ Limited Coordinates
unfolding step_limit depth_of_comparison
wide_points = refl

-- the topes of two extension types aren't asked where they are one tree, and are too wide where they aren't, even if they agree
abbrev wide_type : Tree → Tree → Tree
wide_type A face = extension_type wide top A face a

one_wide_face : compares terms (wide_type A (equal_points wide s s)) (wide_type kA (equal_points wide s s)) universe ≡ Equal
unfolding step_limit depth_of_comparison
one_wide_face = refl

two_wide_faces : compares terms (wide_type A (equal_points wide s s)) (wide_type A top) universe ≡ Limited Coordinates
unfolding step_limit depth_of_comparison
two_wide_faces = refl

-- without depth a wide context comes first, and one tree before it
abbrev wide_context : Tree
wide_context = under_tope (under_cube terms wide) (equal_points wide s s)

wide_without_depth : conversion 0 (question wide_context a b A) ≡ Limited Coordinates
wide_without_depth = refl

wide_one_tree : conversion 0 (question wide_context a a A) ≡ Equal
wide_one_tree = refl
