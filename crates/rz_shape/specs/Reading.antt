-- What forms of the source are read as, where no definition is named: cubes, points over a context, and topes over it.
use Rattle.std.specs.Prelude.{ℕ, zero, suc, ◌+◌, ◌==◌, nat_lt, if◌then◌else◌, List, [], ◌∷◌, reverse, Option, Some, None, Result, Ok, Err, slice_get}
use Rattle.rz_rules.specs.declared.kinds.Kind.TheVariants as kind
use Rattle.rz_rules.specs.declared.coordinates.TheConstants.{LEFT, RIGHT}
use Rattle.rz_rules.specs.declared.verdicts.Refusal.{Refusal}
use Rattle.rz_rules.specs.declared.verdicts.Refusal.TheVariants.{KindClash, WideCube, BadPoint}
use Rattle.rz_rules.specs.Tree.{Tree, At, Nil, And}
use Rattle.rz_rules.specs.Tope.{at_most, bottom, conjunction, disjunction, equal_points, point_variable, top}
use Rattle.rz_rules.specs.Cube.{cube_one, cube_two, product, left_part, right_part, leaves, cubes_of}
use Rattle.rz_rules.specs.Same.{same_tree}
use Rattle.rz_syntax.specs.declared.forms.Raw.{Raw}
use Rattle.rz_syntax.specs.declared.forms.Form.{Form}
use Rattle.rz_syntax.specs.declared.forms.Form.TheVariants as form
use Rattle.rz_shape.specs.declared.fault.ShapeFault.{ShapeFault}
use Rattle.rz_shape.specs.declared.fault.ShapeFault.TheVariants.{Refused}
use Rattle.rz_shape.specs.declared.local.Binder.{Binder}
use Rattle.rz_shape.specs.declared.local.Binder.TheVariants.{Point, Term}

-- what is read, or the first refusal with the token at which it stands; the fault OutOfMemory is no reading
abbrev pub Reading : Type 0 → Type 0
Reading T = Result T ShapeFault

-- one reading, and then another that goes on with what was read
abbrev pub and_then : {A B : Type 0} → Reading A → (A → Reading B) → Reading B
and_then (Ok read) next = next read
and_then (Err fault) next = Err fault

-- a refusal at a form's first token
abbrev pub refusal : {T : Type 0} → Refusal → Raw → Reading T
refusal why raw = Err (Refused why raw.at)

-- the most leaves that a cube may have
abbrev pub most_leaves : ℕ
most_leaves = 64

-- what is read, unless the cube has too many leaves
abbrev pub unless_wide : {T : Type 0} → Raw → Tree → T → Reading T
unless_wide raw cube read = if nat_lt most_leaves (leaves cube) then refusal WideCube raw else Ok read

-- ---- cubes

-- the cube that a form is, where its parts are read so
abbrev pub cube_of_form : (Raw → Reading Tree) → Raw → Option Form → Reading Tree
cube_of_form part raw (Some form.CubeOne) = Ok cube_one
cube_of_form part raw (Some form.CubeTwo) = Ok cube_two
cube_of_form part raw (Some (form.Product left right)) =
    and_then (part left) (λ l. and_then (part right) (λ r. unless_wide raw (product l r) (product l r)))
cube_of_form part raw other = refusal KindClash raw

-- The cube that the form with this number in a table is. Forms stand at most so deep in one another; the length of a
-- table always suffices where parts stand before what they are parts of.
abbrev pub cube_reading : List Form → ℕ → Raw → Reading Tree
cube_reading forms zero raw = refusal KindClash raw
cube_reading forms (suc depth) raw = cube_of_form (cube_reading forms depth) raw (slice_get forms raw.form)

-- ---- what bound names stand for

-- The cubes of a context's cube entries, and for each binder the index of the variable that it binds, where it binds a
-- point. Both lists have the innermost first.
pub record Bindings : Type 0 where
  pub cubes : List Tree
  pub variables : List (Option ℕ)

-- the variables of binders, the innermost first, where so many points are bound further in
abbrev pub variables_from : ℕ → List Binder → List (Option ℕ)
variables_from count [] = []
variables_from count (Point ∷ binders) = Some count ∷ variables_from (count + 1) binders
variables_from count (Term ∷ binders) = None ∷ variables_from count binders

-- over a context, with these binders, the outermost first
abbrev pub bindings_of : Tree → List Binder → Bindings
bindings_of context binders =
    record { cubes = cubes_of context; variables = variables_from 0 (reverse binders) }

-- ---- points

-- a point with its cube
pub record PlacedPoint : Type 0 where
  pub point : Tree
  pub cube : Tree

abbrev pub only_point : PlacedPoint
only_point = record { point = At kind.OnlyPoint 0 [] Nil; cube = cube_one }

abbrev pub zero_end : PlacedPoint
zero_end = record { point = At kind.Zero 0 [] Nil; cube = cube_two }

abbrev pub one_end : PlacedPoint
one_end = record { point = At kind.One 0 [] Nil; cube = cube_two }

abbrev pub pair : PlacedPoint → PlacedPoint → PlacedPoint
pair s u =
    record { point = At kind.PointPair 0 [] (And s.point (And u.point Nil)); cube = product s.cube u.cube }

-- a projection of a point, where it has a cube, else a bad point at the form
abbrev pub projection : Raw → Tree → Option Tree → Reading PlacedPoint
projection raw point (Some cube) = Ok (record { point = point; cube = cube })
projection raw point None = refusal BadPoint raw

-- the two parts of a point; the form at which a refusal stands is that of the point
abbrev pub first_part : Raw → PlacedPoint → Reading PlacedPoint
first_part raw s = projection raw (At kind.PointLeft 0 [] (And s.point Nil)) (left_part s.cube)

abbrev pub second_part : Raw → PlacedPoint → Reading PlacedPoint
second_part raw s = projection raw (At kind.PointRight 0 [] (And s.point Nil)) (right_part s.cube)

-- the part of a point at the end of a path; its first letter names the part of the point itself, the next one the part of
-- that part
abbrev pub part_along : Raw → List ℕ → PlacedPoint → Reading PlacedPoint
part_along raw [] s = Ok s
part_along raw (letter ∷ path) s =
    and_then (if letter == LEFT then first_part raw s else if letter == RIGHT then second_part raw s else refusal BadPoint raw)
    (part_along raw path)

-- a variable as a point of its cube, where the context has an entry for it
abbrev pub variable_of_cube : Raw → ℕ → Option Tree → Reading PlacedPoint
variable_of_cube raw index (Some cube) = Ok (record { point = point_variable index; cube = cube })
variable_of_cube raw index None = refusal KindClash raw

-- what a binder binds as a point; a term is none
abbrev pub variable_in : List Tree → Raw → Option (Option ℕ) → Reading PlacedPoint
variable_in cubes raw (Some (Some index)) = variable_of_cube raw index (slice_get cubes index)
variable_in cubes raw other = refusal KindClash raw

-- the point that a form is, where its parts are read so
abbrev pub point_of_form : Bindings → (Raw → Reading PlacedPoint) → Raw → Option Form → Reading PlacedPoint
point_of_form bound part raw (Some (form.Bound up path)) =
    and_then (variable_in bound.cubes raw (slice_get bound.variables up)) (part_along raw path)
point_of_form bound part raw (Some form.Star) = Ok only_point
point_of_form bound part raw (Some form.EndZero) = Ok zero_end
point_of_form bound part raw (Some form.EndOne) = Ok one_end
point_of_form bound part raw (Some (form.Pair left right)) =
    and_then (part left) (λ s. and_then (part right) (λ u. unless_wide raw (product s.cube u.cube) (pair s u)))
point_of_form bound part raw (Some (form.First arg)) = and_then (part arg) (first_part arg)
point_of_form bound part raw (Some (form.Second arg)) = and_then (part arg) (second_part arg)
point_of_form bound part raw other = refusal KindClash raw

-- the point that a form is, and its cube
abbrev pub point_reading : Bindings → List Form → ℕ → Raw → Reading PlacedPoint
point_reading bound forms zero raw = refusal KindClash raw
point_reading bound forms (suc depth) raw =
    point_of_form bound (point_reading bound forms depth) raw (slice_get forms raw.form)

-- a point, where it is of a cube; else a bad point at the form
abbrev pub of_cube : Raw → Tree → PlacedPoint → Reading Tree
of_cube raw cube s = if same_tree s.cube cube then Ok s.point else refusal BadPoint raw

-- the point of a cube that a form is
abbrev pub point_of_cube : Bindings → List Form → ℕ → Tree → Raw → Reading Tree
point_of_cube bound forms depth cube raw = and_then (point_reading bound forms depth raw) (of_cube raw cube)

-- ---- topes

-- two topes, the left one first
abbrev pub both : Reading Tree → Reading Tree → (Tree → Tree → Tree) → Reading Tree
both left right join = and_then left (λ p. and_then right (λ q. Ok (join p q)))

-- that two points are equal: the second one is of the cube of the first
abbrev pub same_points : Reading PlacedPoint → (Tree → Reading Tree) → Reading Tree
same_points left right = and_then left (λ s. and_then (right s.cube) (λ u. Ok (equal_points s.cube s.point u)))

-- the tope that a form is, where its parts are read so: topes, points with their cubes, points of a cube
abbrev pub tope_of_form : (Raw → Reading Tree) → (Raw → Reading PlacedPoint) → (Tree → Raw → Reading Tree) → Raw → Option Form → Reading Tree
tope_of_form tope point within raw (Some form.Top) = Ok top
tope_of_form tope point within raw (Some form.Bottom) = Ok bottom
tope_of_form tope point within raw (Some (form.And left right)) = both (tope left) (tope right) conjunction
tope_of_form tope point within raw (Some (form.Or left right)) = both (tope left) (tope right) disjunction
tope_of_form tope point within raw (Some (form.SamePoint left right)) = same_points (point left) (λ cube. within cube right)
tope_of_form tope point within raw (Some (form.AtMost left right)) =
    both (within cube_two left) (within cube_two right) at_most
tope_of_form tope point within raw other = refusal KindClash raw

-- the tope that a form is
abbrev pub tope_reading : Bindings → List Form → ℕ → Raw → Reading Tree
tope_reading bound forms zero raw = refusal KindClash raw
tope_reading bound forms (suc depth) raw =
    tope_of_form (tope_reading bound forms depth) (point_reading bound forms depth) (point_of_cube bound forms depth) raw
    (slice_get forms raw.form)
