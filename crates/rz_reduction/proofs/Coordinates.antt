-- The coordinates that occur are points of the directed interval.
use Rattle.std.proofs.Common.{◌≡◌, ℕ, zero, suc, ◌+◌, List, [], ◌∷◌, ◌++◌, map, filter, All, Option, Some, None, Bool, true, false, get_or, refl, sym, ap, ◌∙◌, subst, arith}
use Rattle.std.specs.Prelude.{slice_get, nat_eq, option_and_then, not, cond}
use Rattle.std.proofs.lemmas.List.Elements.{All-nil, All-cons, All-head, All-tail, All-append, All-take, All-drop, All-map, All-filter}
use Rattle.rz_rules.specs.declared.kinds.Sort.TheVariants as sort
use Rattle.rz_rules.specs.declared.kinds.Kind.TheVariants.{CubeTwo, Product, PointVariable, Zero, One, PointPair, PointLeft, PointRight, Conjunction, Disjunction, EqualPoints, AtMost, CubeEntry, TopeEntry, TermEntry}
use Rattle.rz_rules.specs.declared.coordinates.Coord.{Coord}
use Rattle.rz_rules.specs.declared.coordinates.Coord.TheVariants as coordinate
use Rattle.rz_rules.specs.declared.coordinates.TheConstants.{LEFT, RIGHT}
use Rattle.rz_rules.specs.Tree.{Tree, At, Nil, And, IsTree}
use Rattle.rz_rules.specs.Cube.{Binders, cube_two, left_part, right_part, cubes_of, binders_of}
use Rattle.rz_rules.specs.Tope.{cube_of, IsPointOf, point_variable}
use Rattle.rz_rules.specs.Coordinate.{paths, left_width, coordinates_of_variable, coordinates, are_same, is_of_variable, raised, part_at, point_of}
use Rattle.rz_rules.specs.Validity.{compared, compared_in, distinct, occurring}

-- a coordinate over what a context binds is a point of the directed interval
abbrev IsEnd : Binders → Coord → Type 0
IsEnd binders c = IsPointOf binders cube_two (point_of c)

abbrev AreEnds : Binders → List Coord → Type 0
AreEnds binders list = All (IsEnd binders) list

-- the parts of a point of a cube to which the paths of the cube go
parts_are : (binders : Binders) (cube : Tree) → IsTree sort.Cube cube → (point : Tree) → cube_of binders point ≡ Some cube
    → All (λ path. IsPointOf binders cube_two (part_at point path)) (paths cube)
parts_are binders (At CubeTwo number name Nil) is point e =
    let plain : At CubeTwo number name Nil ≡ cube_two = λ i. At CubeTwo (is.1.unnumbered refl i) (is.1.unnamed refl i) Nil in
    All-cons (λ path. IsPointOf binders cube_two (part_at point path)) [] [] (e ∙ ap Some plain) (All-nil (λ path. IsPointOf binders cube_two (part_at point path)))
parts_are binders (At Product number name (And left (And right Nil))) is point e =
    let P : List ℕ → Type 0 = λ path. IsPointOf binders cube_two (part_at point path) in
    let first = parts_are binders left is.2.0 (At PointLeft 0 [] (And point Nil)) (ap (option_and_then left_part) e) in
    let second = parts_are binders right is.2.1.0 (At PointRight 0 [] (And point Nil)) (ap (option_and_then right_part) e) in
    All-append P (map (λ path. LEFT ∷ path) (paths left)) (map (λ path. RIGHT ∷ path) (paths right))
    (All-map P (λ path. LEFT ∷ path) (paths left) first) (All-map P (λ path. RIGHT ∷ path) (paths right) second)
parts_are binders other is point e = All-nil (λ path. IsPointOf binders cube_two (part_at point path))

abbrev AreCubes : List Tree → Type 0
AreCubes cubes = (index : ℕ) (cube : Tree) → slice_get cubes index ≡ Some cube → IsTree sort.Cube cube

module _ (cubes : List Tree) (are : AreCubes cubes) where
  abbrev here : Binders
  here = record { cubes = cubes }

  variable_are : (index : ℕ) (o : Option Tree) → slice_get cubes index ≡ o → AreEnds here (coordinates_of_variable index o)
  variable_are index None e = All-nil (IsEnd here)
  variable_are index (Some cube) e =
      All-map (IsEnd here) (λ path. coordinate.Of index path) (paths cube) (parts_are here cube (are index cube e) (point_variable index) e)

  coordinates_are : (point : Tree) → AreEnds here (coordinates here point)
  coordinates_are (At PointVariable index name Nil) = variable_are index (slice_get cubes index) refl
  coordinates_are (At Zero number name Nil) = All-cons (IsEnd here) coordinate.Zero [] refl (All-nil (IsEnd here))
  coordinates_are (At One number name Nil) = All-cons (IsEnd here) coordinate.One [] refl (All-nil (IsEnd here))
  coordinates_are (At PointPair number name (And s (And u Nil))) =
      All-append (IsEnd here) (coordinates here s) (coordinates here u) (coordinates_are s) (coordinates_are u)
  coordinates_are (At PointLeft number name (And s Nil)) = All-take (IsEnd here) (left_width (cube_of here s)) (coordinates here s) (coordinates_are s)
  coordinates_are (At PointRight number name (And s Nil)) = All-drop (IsEnd here) (left_width (cube_of here s)) (coordinates here s) (coordinates_are s)
  coordinates_are other = All-nil (IsEnd here)

  compared_are : (tope : Tree) → AreEnds here (compared here tope)
  compared_are (At Conjunction number name (And p (And q Nil))) =
      All-append (IsEnd here) (compared here p) (compared here q) (compared_are p) (compared_are q)
  compared_are (At Disjunction number name (And p (And q Nil))) =
      All-append (IsEnd here) (compared here p) (compared here q) (compared_are p) (compared_are q)
  compared_are (At EqualPoints number name (And cube (And s (And u Nil)))) =
      All-append (IsEnd here) (coordinates here s) (coordinates here u) (coordinates_are s) (coordinates_are u)
  compared_are (At AtMost number name (And s (And u Nil))) =
      All-append (IsEnd here) (coordinates here s) (coordinates here u) (coordinates_are s) (coordinates_are u)
  compared_are other = All-nil (IsEnd here)

-- the part of a point on one side
abbrev half : Bool → Tree → Tree
half true point = At PointLeft 0 [] (And point Nil)
half false point = At PointRight 0 [] (And point Nil)

part_by_half : (way : ℕ) (path : List ℕ) (point : Tree) → part_at point (way ∷ path) ≡ part_at (half (nat_eq way LEFT) point) path
part_by_half way path point = by (nat_eq way LEFT) where
  by : (b : Bool) → part_at (cond b (At PointLeft 0 [] (And point Nil)) (At PointRight 0 [] (And point Nil))) path
      ≡ part_at (half b point) path
  by true = refl
  by false = refl

half_cube : (old new : Binders) (b : Bool) (t u : Tree) → cube_of new u ≡ cube_of old t → cube_of new (half b u) ≡ cube_of old (half b t)
half_cube old new true t u e = ap (option_and_then left_part) e
half_cube old new false t u e = ap (option_and_then right_part) e

-- a part of a point, further in
part_cube : (old new : Binders) (path : List ℕ) (t u : Tree) → cube_of new u ≡ cube_of old t → cube_of new (part_at u path) ≡ cube_of old (part_at t path)
part_cube old new [] t u e = e
part_cube old new (way ∷ path) t u e =
    let b = nat_eq way LEFT in
    ap (cube_of new) (part_by_half way path u)
    ∙ part_cube old new path (half b t) (half b u) (half_cube old new b t u e)
    ∙ sym (ap (cube_of old) (part_by_half way path t))

raised_is : (cube : Tree) (cubes : List Tree) (c : Coord) → IsEnd (record { cubes = cubes }) c → IsEnd (record { cubes = cube ∷ cubes }) (raised c)
raised_is cube cubes coordinate.Zero h = h
raised_is cube cubes coordinate.One h = h
raised_is cube cubes (coordinate.Of index path) h =
    let next : index + 1 ≡ suc index = omega arith in
    part_cube (record { cubes = cubes }) (record { cubes = cube ∷ cubes }) path (point_variable index) (point_variable (index + 1))
    (ap (slice_get (cube ∷ cubes)) next) ∙ h

-- the cubes of a context
context_cubes : (context : Tree) → IsTree sort.Context context → AreCubes (cubes_of context)
context_cubes (At CubeEntry number name (And context (And cube Nil))) is zero other e = subst (IsTree sort.Cube) (let same : cube ≡ other = cc in same) is.2.1.0
context_cubes (At CubeEntry number name (And context (And cube Nil))) is (suc index) other e = context_cubes context is.2.0 index other e
context_cubes (At TopeEntry number name (And context (And tope Nil))) is index cube e = context_cubes context is.2.0 index cube e
context_cubes (At TermEntry number name (And context (And type Nil))) is index cube e = context_cubes context is.2.0 index cube e
context_cubes other is index cube e = absurd cc

compared_in_are : (context : Tree) → IsTree sort.Context context → AreEnds (binders_of context) (compared_in context)
compared_in_are (At CubeEntry number name (And context (And cube Nil))) is =
    let inner = compared_in_are context is.2.0 in
    All-map (IsEnd (record { cubes = cube ∷ cubes_of context })) raised (compared_in context)
    (λ k d l. raised_is cube (cubes_of context) (get_or (compared_in context) k d) (inner k d l))
compared_in_are (At TopeEntry number name (And context (And tope Nil))) is =
    All-append (IsEnd (binders_of context)) (compared_in context) (compared (binders_of context) tope)
    (compared_in_are context is.2.0) (compared_are (cubes_of context) (context_cubes context is.2.0) tope)
compared_in_are (At TermEntry number name (And context (And type Nil))) is = compared_in_are context is.2.0
compared_in_are other is = All-nil (IsEnd (binders_of other))

distinct_are : (binders : Binders) (list : List Coord) → AreEnds binders list → AreEnds binders (distinct list)
distinct_are binders [] h = All-nil (IsEnd binders)
distinct_are binders (c ∷ cs) h =
    All-cons (IsEnd binders) c (filter (λ other. not (are_same c other)) (distinct cs)) (All-head (IsEnd binders) c cs h)
    (All-filter (λ other. not (are_same c other)) (IsEnd binders) (distinct cs) (distinct_are binders cs (All-tail (IsEnd binders) c cs h)))

pub occurring_are : (context tope : Tree) → IsTree sort.Context context → AreEnds (binders_of context) (occurring context tope)
occurring_are context tope is =
    let binders = binders_of context in
    let list = compared_in context ++ compared binders tope in
    distinct_are binders (filter is_of_variable list) (All-filter is_of_variable (IsEnd binders) list
    (All-append (IsEnd binders) (compared_in context) (compared binders tope) (compared_in_are context is)
    (compared_are (cubes_of context) (context_cubes context is) tope)))
