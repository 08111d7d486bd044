-- Valuations of points, and the places at which the parts of a tree stand.
use Rattle.std.specs.Prelude.{◌≡◌, ℕ, zero, suc, ◌≤◌, ◌&&◌, Bool, true, IsTrue, List, [], ◌∷◌, ◌++◌, length, take, drop, All, Some, slice_get}
use Rattle.rz_rules.specs.declared.kinds.Kind.TheVariants.{PointVariable, Zero, One, PointPair, PointLeft, PointRight, CubeEntry, TopeEntry, TermEntry}
use Rattle.rz_rules.specs.Tree.{Tree, At, Nil, And}
use Rattle.rz_rules.specs.Cube.{Binders, binders_of}
use Rattle.rz_rules.specs.Tope.{cube_of}
use Rattle.rz_rules.specs.Coordinate.{width, left_width}
use Rattle.rz_rules.specs.Validity.{truth_at}
use Rattle.rz_metatheory.specs.Scope as scope
use Rattle.rz_metatheory.specs.Scope.{Scope, closed, binders_in, scope_of}

-- Numbers for points: 0 for the first end of the directed interval, `last` for its last end, and for each cube variable
-- a list, one number for each leaf of its cube that is the directed interval.
pub record Valuation : Type 0 where
  pub last : ℕ
  pub values : ℕ → List ℕ

-- as many numbers as a cube has such leaves, none above the last
pub record FitsCube (last : ℕ) (cube : Tree) (numbers : List ℕ) : Type 0 where
  pub long : length numbers ≡ width cube
  pub small : All (λ number. number ≤ last) numbers

-- a valuation of variables of these cubes
pub record FitsCubes (cubes : List Tree) (valuation : Valuation) : Type 0 where
  pub ends_differ : 1 ≤ valuation.last
  pub each : (index : ℕ) (cube : Tree) → slice_get cubes index ≡ Some cube → FitsCube valuation.last cube (valuation.values index)

-- the numbers of a point; a projection has the first or the last of its operand's, cut by the width of the left part
abbrev pub value : Binders → Valuation → Tree → List ℕ
value binders valuation (At PointVariable index name Nil) = valuation.values index
value binders valuation (At Zero number name Nil) = 0 ∷ []
value binders valuation (At One number name Nil) = valuation.last ∷ []
value binders valuation (At PointPair number name (And s (And u Nil))) = value binders valuation s ++ value binders valuation u
value binders valuation (At PointLeft number name (And s Nil)) = take (left_width (cube_of binders s)) (value binders valuation s)
value binders valuation (At PointRight number name (And s Nil)) = drop (left_width (cube_of binders s)) (value binders valuation s)
value binders valuation other = []

-- whether a tope is true
abbrev pub is_true : Binders → Valuation → Tree → Bool
is_true binders valuation tope = truth_at (value binders valuation) tope

-- a valuation of one variable more, which is the innermost, and of one variable less
abbrev pub in_front : List ℕ → (ℕ → List ℕ) → ℕ → List ℕ
in_front numbers values zero = numbers
in_front numbers values (suc index) = values index

abbrev pub with_value : List ℕ → Valuation → Valuation
with_value numbers valuation = record { last = valuation.last; values = in_front numbers valuation.values }

abbrev pub outside : Valuation → Valuation
outside valuation = record { last = valuation.last; values = λ index. valuation.values (suc index) }

-- where a part of a tree stands: its scope, and which valuations make all topes around it true
pub record Place : Type 0 where
  pub scope : Scope
  pub allows : Valuation → Bool

-- the place of the parts of constants and postulates
abbrev pub nowhere : Place
nowhere = record { scope = closed; allows = λ valuation. true }

-- a place under a cube variable, under a term variable, under so many of those, and where a tope is true
abbrev pub with_cube : Tree → Place → Place
with_cube cube place = record { scope = scope.with_cube cube place.scope; allows = λ valuation. place.allows (outside valuation) }

abbrev pub with_term : Place → Place
with_term place = record { scope = scope.with_term place.scope; allows = place.allows }

abbrev pub with_terms : ℕ → Place → Place
with_terms zero place = place
with_terms (suc count) place = with_term (with_terms count place)

abbrev pub with_tope : Tree → Place → Place
with_tope tope place =
    record { scope = place.scope; allows = λ valuation. place.allows valuation && is_true (binders_in place.scope) valuation tope }

-- whether a valuation makes all topes of a context true
abbrev pub allows_in : Tree → Valuation → Bool
allows_in (At CubeEntry number name (And context (And cube Nil))) valuation = allows_in context (outside valuation)
allows_in (At TopeEntry number name (And context (And tope Nil))) valuation =
    allows_in context valuation && is_true (binders_of context) valuation tope
allows_in (At TermEntry number name (And context (And type Nil))) valuation = allows_in context valuation
allows_in other valuation = true

-- the place that a context gives
abbrev pub place_of : Tree → Place
place_of context = record { scope = scope_of context; allows = allows_in context }

-- a valuation of a place's variables that makes the topes around it true
pub record IsAllowed (place : Place) (valuation : Valuation) : Type 0 where
  pub fits : FitsCubes place.scope.cubes valuation
  pub allowed : IsTrue (place.allows valuation)

-- a tope is true at a place: each valuation of the place makes it true
abbrev pub Entails : Place → Tree → Type 0
Entails place tope = (valuation : Valuation) → IsAllowed place valuation → IsTrue (is_true (binders_in place.scope) valuation tope)
