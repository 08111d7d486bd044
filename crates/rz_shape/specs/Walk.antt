-- The reading of a form as a walk: what is still to be read, what was read, and what is then made of it.
use Rattle.std.specs.Prelude.{◌≡◌, ◌==◌, ℕ, zero, suc, ◌+◌, ◌<◌, List, [], ◌∷◌, Ok, length, slice_get, if◌then◌else◌}
use Rattle.rz_rules.specs.declared.coordinates.TheConstants.{LEFT, RIGHT}
use Rattle.rz_rules.specs.declared.nodes.Node.{Node}
use Rattle.rz_rules.specs.declared.verdicts.Refusal.TheVariants.{KindClash, BadPoint}
use Rattle.rz_rules.specs.Tree.{Tree, tree_of}
use Rattle.rz_rules.specs.Cube.{cube_one, cube_two, product}
use Rattle.rz_rules.specs.Same.{same_tree}
use Rattle.rz_syntax.specs.declared.forms.Raw.{Raw}
use Rattle.rz_syntax.specs.declared.forms.Form.{Form}
use Rattle.rz_syntax.specs.declared.forms.Form.TheVariants as form
use Rattle.rz_shape.specs.declared.steps.Target.{Target}
use Rattle.rz_shape.specs.declared.steps.Target.TheVariants.{Cube, Point, Tope}
use Rattle.rz_shape.specs.declared.steps.Leaf.{Leaf}
use Rattle.rz_shape.specs.declared.steps.Leaf.TheVariants as leaf
use Rattle.rz_shape.specs.declared.steps.Join.{Join}
use Rattle.rz_shape.specs.declared.steps.Join.TheVariants.{Product, Pair, And, Or, SamePoint, AtMost}
use Rattle.rz_shape.specs.declared.steps.Plan.{Plan}
use Rattle.rz_shape.specs.declared.steps.Plan.TheVariants as plan
use Rattle.rz_shape.specs.declared.steps.Outcome.{Outcome}
use Rattle.rz_shape.specs.declared.steps.Frame.{Frame}
use Rattle.rz_shape.specs.declared.steps.Frame.TheVariants.{Left, Right, First, Second}
use Rattle.rz_shape.specs.declared.steps.Step.{Step}
use Rattle.rz_shape.specs.declared.steps.Step.TheVariants.{Done, Under}
use Rattle.rz_shape.specs.Reading.{Reading, Bindings, PlacedPoint, and_then, refusal, unless_wide, cube_reading, point_reading, tope_reading, only_point, zero_end, one_end, pair, variable_in, part_along, first_part, second_part, of_cube}
use Rattle.rz_rules.specs.Tope.{top, bottom, conjunction, disjunction, equal_points, at_most}

-- ---- readings of all sorts

-- a tree that is no point, in the place of one
abbrev pub alone : Tree → PlacedPoint
alone tree = record { point = tree; cube = tree }

-- what a form is as a cube, a point with its cube, or a tope
abbrev pub reading_of : Bindings → List Form → Target → ℕ → Raw → Reading PlacedPoint
reading_of bound forms Cube depth raw = and_then (cube_reading forms depth raw) (λ tree. Ok (alone tree))
reading_of bound forms Point depth raw = point_reading bound forms depth raw
reading_of bound forms Tope depth raw = and_then (tope_reading bound forms depth raw) (λ tree. Ok (alone tree))

-- ---- two parts

-- what both parts are read as
abbrev pub target_of : Join → Target
target_of Product = Cube
target_of Pair = Point
target_of And = Tope
target_of Or = Tope
target_of SamePoint = Point
target_of AtMost = Point

-- what is asked of the left part before the right one is read
abbrev pub left_reading : Join → Raw → PlacedPoint → Reading PlacedPoint
left_reading AtMost left s = if same_tree s.cube cube_two then Ok s else refusal BadPoint left
left_reading other left s = Ok s

-- what both parts make: the whole form, the right part, and what the two parts were read as
abbrev pub join_reading : Join → Raw → Raw → PlacedPoint → PlacedPoint → Reading PlacedPoint
join_reading Product whole right s u = unless_wide whole (product s.point u.point) (alone (product s.point u.point))
join_reading Pair whole right s u = unless_wide whole (product s.cube u.cube) (pair s u)
join_reading And whole right s u = Ok (alone (conjunction s.point u.point))
join_reading Or whole right s u = Ok (alone (disjunction s.point u.point))
join_reading SamePoint whole right s u = and_then (of_cube right s.cube u) (λ point. Ok (alone (equal_points s.cube s.point point)))
join_reading AtMost whole right s u = and_then (of_cube right cube_two u) (λ point. Ok (alone (at_most s.point point)))

-- ---- what a form asks for

abbrev pub leaf_of : Leaf → PlacedPoint
leaf_of leaf.CubeOne = alone cube_one
leaf_of leaf.CubeTwo = alone cube_two
leaf_of leaf.Star = only_point
leaf_of leaf.EndZero = zero_end
leaf_of leaf.EndOne = one_end
leaf_of leaf.Top = alone top
leaf_of leaf.Bottom = alone bottom

abbrev pub cube_plan : Form → Plan
cube_plan form.CubeOne = plan.Leaf leaf.CubeOne
cube_plan form.CubeTwo = plan.Leaf leaf.CubeTwo
cube_plan (form.Product left right) = plan.Two Product left right
cube_plan other = plan.Clash

abbrev pub point_plan : Form → Plan
point_plan (form.Bound up path) = plan.Variable up
point_plan form.Star = plan.Leaf leaf.Star
point_plan form.EndZero = plan.Leaf leaf.EndZero
point_plan form.EndOne = plan.Leaf leaf.EndOne
point_plan (form.Pair left right) = plan.Two Pair left right
point_plan (form.First arg) = plan.First arg
point_plan (form.Second arg) = plan.Second arg
point_plan other = plan.Clash

abbrev pub tope_plan : Form → Plan
tope_plan form.Top = plan.Leaf leaf.Top
tope_plan form.Bottom = plan.Leaf leaf.Bottom
tope_plan (form.And left right) = plan.Two And left right
tope_plan (form.Or left right) = plan.Two Or left right
tope_plan (form.SamePoint left right) = plan.Two SamePoint left right
tope_plan (form.AtMost left right) = plan.Two AtMost left right
tope_plan other = plan.Clash

abbrev pub plan_of : Target → Form → Plan
plan_of Cube form = cube_plan form
plan_of Point form = point_plan form
plan_of Tope form = tope_plan form

-- the path of a bound name
abbrev pub path_of : Form → List ℕ
path_of (form.Bound up path) = path
path_of other = []

-- what a plan comes to, of a form with this path whose parts may stand so deep
abbrev pub plan_reading : Bindings → List Form → ℕ → Raw → List ℕ → Plan → Reading PlacedPoint
plan_reading bound forms depth raw path (plan.Leaf leaf) = Ok (leaf_of leaf)
plan_reading bound forms depth raw path (plan.Variable up) =
    and_then (variable_in bound.cubes raw (slice_get bound.variables up)) (part_along raw path)
plan_reading bound forms depth raw path (plan.First arg) = and_then (point_reading bound forms depth arg) (first_part arg)
plan_reading bound forms depth raw path (plan.Second arg) = and_then (point_reading bound forms depth arg) (second_part arg)
plan_reading bound forms depth raw path (plan.Two join left right) =
    and_then (reading_of bound forms (target_of join) depth left) (λ s.
    and_then (left_reading join left s) (λ s'.
    and_then (reading_of bound forms (target_of join) depth right) (join_reading join raw right s')))
plan_reading bound forms depth raw path plan.Clash = refusal KindClash raw

-- the part of a point that a letter of a path names
abbrev pub half_reading : ℕ → Raw → PlacedPoint → Reading PlacedPoint
half_reading letter raw s =
    if letter == LEFT then first_part raw s else if letter == RIGHT then second_part raw s else refusal BadPoint raw

-- ---- outcomes, frames and steps

abbrev pub outcome_of : List Node → Outcome → PlacedPoint
outcome_of nodes outcome = record { point = tree_of nodes outcome.node; cube = tree_of nodes outcome.cube }

-- the ids are of nodes
pub record IsThere (nodes : List Node) (outcome : Outcome) : Type 0 where
  pub node : outcome.node < length nodes
  pub cube : outcome.cube < length nodes

-- the outcome is what is read
pub record IsOutcome (nodes : List Node) (reading : Reading PlacedPoint) (outcome : Outcome) : Type 0 where
  pub there : IsThere nodes outcome
  pub is : reading ≡ Ok (outcome_of nodes outcome)

-- what a frame makes of what is read under it
abbrev pub frame_reading : Bindings → List Form → List Node → Frame → PlacedPoint → Reading PlacedPoint
frame_reading bound forms nodes (Left join whole left right depth) s =
    and_then (left_reading join left s) (λ s'.
    and_then (reading_of bound forms (target_of join) depth right) (join_reading join whole right s'))
frame_reading bound forms nodes (Right join whole right left) u = join_reading join whole right (outcome_of nodes left) u
frame_reading bound forms nodes (First arg) s = first_part arg s
frame_reading bound forms nodes (Second arg) s = second_part arg s

abbrev pub IsFrame : List Node → Frame → Type 0
IsFrame nodes (Right join whole right left) = IsThere nodes left
IsFrame nodes other = Unit {0}

-- what frames make of a reading, the last one first
abbrev pub frames_reading : Bindings → List Form → List Node → List Frame → Reading PlacedPoint → Reading PlacedPoint
frames_reading bound forms nodes [] reading = reading
frames_reading bound forms nodes (frame ∷ frames) reading =
    and_then (frames_reading bound forms nodes frames reading) (frame_reading bound forms nodes frame)

abbrev pub AreFrames : List Node → List Frame → Type 0
AreFrames nodes [] = Unit {0}
AreFrames nodes (frame ∷ frames) = IsFrame nodes frame × AreFrames nodes frames

-- what a step comes to
abbrev pub step_reading : Bindings → List Form → List Node → Step → Reading PlacedPoint
step_reading bound forms nodes (Done outcome) = Ok (outcome_of nodes outcome)
step_reading bound forms nodes (Under frame part) =
    and_then (reading_of bound forms part.target part.depth part.raw) (frame_reading bound forms nodes frame)

abbrev pub IsStep : List Node → Step → Type 0
IsStep nodes (Done outcome) = IsThere nodes outcome
IsStep nodes (Under frame part) = IsFrame nodes frame

-- ---- how long a walk may take

abbrev pub visit_cost : ℕ → ℕ
visit_cost zero = 1
visit_cost (suc depth) = visit_cost depth + visit_cost depth + 3

abbrev pub frame_cost : Frame → ℕ
frame_cost (Left join whole left right depth) = visit_cost depth + 2
frame_cost other = 1

abbrev pub frames_cost : List Frame → ℕ
frames_cost [] = 0
frames_cost (frame ∷ frames) = frame_cost frame + frames_cost frames

abbrev pub step_cost : Step → ℕ
step_cost (Done outcome) = 0
step_cost (Under frame part) = frame_cost frame + visit_cost part.depth

-- the step goes on with this reading, and costs less than so much
pub record GoesOn (bound : Bindings) (forms : List Form) (nodes : List Node) (reading : Reading PlacedPoint) (cost : ℕ) (step : Step) : Type 0 where
  pub there : IsStep nodes step
  pub is : reading ≡ step_reading bound forms nodes step
  pub less : step_cost step < cost
