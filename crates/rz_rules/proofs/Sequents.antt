-- Sequents worked out by computation: three that are valid, and two that are not.
use Rattle.std.proofs.Common.{◌≡◌, ℕ, true, false, [], refl}
use Rattle.rz_rules.specs.declared.kinds.Kind.TheVariants as kind
use Rattle.rz_rules.specs.Tree.{Tree, At, Nil, And}
use Rattle.rz_rules.specs.Cube.{cube_two, product}
use Rattle.rz_rules.specs.Validity.{is_valid}

abbrev point : ℕ → Tree
point index = At kind.PointVariable index [] Nil

abbrev zero_end : Tree
zero_end = At kind.Zero 0 [] Nil

abbrev one_end : Tree
one_end = At kind.One 0 [] Nil

abbrev at_most : Tree → Tree → Tree
at_most s u = At kind.AtMost 0 [] (And s (And u Nil))

abbrev equal : Tree → Tree → Tree → Tree
equal cube s u = At kind.EqualPoints 0 [] (And cube (And s (And u Nil)))

abbrev either : Tree → Tree → Tree
either p q = At kind.Disjunction 0 [] (And p (And q Nil))

abbrev first_of : Tree → Tree
first_of s = At kind.PointLeft 0 [] (And s Nil)

abbrev second_of : Tree → Tree
second_of s = At kind.PointRight 0 [] (And s Nil)

abbrev empty : Tree
empty = At kind.EmptyContext 0 [] Nil

abbrev with_cube : Tree → Tree → Tree
with_cube context cube = At kind.CubeEntry 0 [] (And context (And cube Nil))

abbrev with_tope : Tree → Tree → Tree
with_tope context tope = At kind.TopeEntry 0 [] (And context (And tope Nil))

-- two points t, s of the interval
abbrev two_points : Tree
two_points = with_cube (with_cube empty cube_two) cube_two

-- t <= s or s <= t
total_order : is_valid two_points (either (at_most (point 1) (point 0)) (at_most (point 0) (point 1))) ≡ true
total_order = refl

-- from t <= s follows no s <= t
no_turned_order : is_valid (with_tope two_points (at_most (point 1) (point 0))) (at_most (point 0) (point 1)) ≡ false
no_turned_order = refl

-- t <= s, with t named before s is there, and s <= r give t <= r
abbrev chain : Tree
chain = with_tope (with_cube (with_tope two_points (at_most (point 1) (point 0))) cube_two) (at_most (point 1) (point 0))

transitivity : is_valid chain (at_most (point 2) (point 0)) ≡ true
transitivity = refl

-- a pair whose parts are 0 and the second part of a pair p is p where the first part of p is at most 0
abbrev pair_with_zero : Tree
pair_with_zero =
    let square = product cube_two cube_two in
    with_tope (with_cube empty square) (at_most (first_of (point 0)) zero_end)

parts_of_pairs : is_valid pair_with_zero (equal (product cube_two cube_two) (point 0) (At kind.PointPair 0 [] (And zero_end (And (second_of (point 0)) Nil)))) ≡ true
parts_of_pairs = refl

-- a point of the interval is not always an end
no_ends_alone : is_valid two_points (either (equal cube_two (point 0) zero_end) (equal cube_two (point 0) one_end)) ≡ false
no_ends_alone = refl
