-- A reading is what the form's plan comes to.
use Rattle.std.proofs.Common.{◌≡◌, ℕ, zero, suc, ◌-◌, ◌<◌, Bool, true, false, List, Option, Some, None, refl, sym, ap, ◌∙◌, arith}
use Rattle.std.specs.Prelude.{Ok, Err, slice_get, if◌then◌else◌, nat_lt}
use Rattle.rz_rules.specs.declared.verdicts.Refusal.TheVariants.{KindClash, WideCube, BadPoint}
use Rattle.rz_rules.specs.Tree.{Tree}
use Rattle.rz_rules.specs.Cube.{cube_two, product, leaves}
use Rattle.rz_rules.specs.Same.{same_tree}
use Rattle.rz_syntax.specs.declared.forms.Raw.{Raw}
use Rattle.rz_syntax.specs.declared.forms.Form.{Form}
use Rattle.rz_syntax.specs.declared.forms.Form.TheVariants as form
use Rattle.rz_shape.specs.declared.steps.Target.{Target}
use Rattle.rz_shape.specs.declared.steps.Target.TheVariants.{Cube, Point, Tope}
use Rattle.rz_shape.specs.declared.steps.Join.TheVariants.{Product, SamePoint, AtMost}
use Rattle.rz_shape.specs.Reading.{Reading, Bindings, PlacedPoint, and_then, refusal, unless_wide, cube_of_form, cube_reading, point_of_form, point_reading, tope_of_form, tope_reading, of_cube, point_of_cube, both, same_points}
use Rattle.rz_rules.specs.Tope.{equal_points, at_most, conjunction, disjunction}
use Rattle.rz_shape.specs.Walk.{alone, join_reading, left_reading, path_of, plan_of, cube_plan, point_plan, tope_plan, plan_reading, reading_of}

abbrev with_alone : Reading Tree → Reading PlacedPoint
with_alone reading = and_then reading (λ tree. Ok (alone tree))

-- readings one after another
assoc : {A B C : Type 0} (reading : Reading A) (next : A → Reading B) (last : B → Reading C)
    → and_then (and_then reading next) last ≡ and_then reading (λ read. and_then (next read) last)
assoc (Ok read) next last = refl
assoc (Err fault) next last = refl

next_same : {A B : Type 0} (reading : Reading A) (next other : A → Reading B) → ((read : A) → next read ≡ other read) → and_then reading next ≡ and_then reading other
next_same (Ok read) next other same = same read
next_same (Err fault) next other same = refl

-- ---- two parts

wide_alone : (raw : Raw) (cube : Tree) (wide : Bool)
    → with_alone (if wide then refusal WideCube raw else Ok cube) ≡ (if wide then refusal WideCube raw else Ok (alone cube))
wide_alone raw cube true = refl
wide_alone raw cube false = refl

product_two : (whole place : Raw) (left right : Reading Tree)
    → with_alone (and_then left (λ l. and_then right (λ r. unless_wide whole (product l r) (product l r))))
    ≡ and_then (with_alone left) (λ s. and_then (with_alone right) (join_reading Product whole place s))
product_two whole place (Err fault) right = refl
product_two whole place (Ok l) (Err fault) = refl
product_two whole place (Ok l) (Ok r) = wide_alone whole (product l r) (nat_lt 64 (leaves (product l r)))

both_two : (join : Tree → Tree → Tree) (left right : Reading Tree)
    → with_alone (both left right join) ≡ and_then (with_alone left) (λ s. and_then (with_alone right) (λ u. Ok (alone (join s.point u.point))))
both_two join (Err fault) right = refl
both_two join (Ok p) (Err fault) = refl
both_two join (Ok p) (Ok q) = refl

same_two : (whole place : Raw) (left right : Reading PlacedPoint)
    → with_alone (same_points left (λ cube. and_then right (of_cube place cube)))
    ≡ and_then left (λ s. and_then right (join_reading SamePoint whole place s))
same_two whole place (Err fault) right = refl
same_two whole place (Ok s) (Err fault) = refl
same_two whole place (Ok s) (Ok u) = assoc (of_cube place s.cube u) (λ point. Ok (equal_points s.cube s.point point)) (λ tree. Ok (alone tree))

within_left : (left : Raw) (s : PlacedPoint) (is : Bool) {B : Type 0} (next : Tree → Reading B)
    → and_then (if is then Ok s.point else refusal BadPoint left) next ≡ and_then (if is then Ok s else refusal BadPoint left) (λ s'. next s'.point)
within_left left s true next = refl
within_left left s false next = refl

order_right : (place : Raw) (p : Tree) (right : Reading PlacedPoint)
    → with_alone (and_then (and_then right (of_cube place cube_two)) (λ q. Ok (at_most p q)))
    ≡ and_then right (λ u. and_then (of_cube place cube_two u) (λ point. Ok (alone (at_most p point))))
order_right place p (Err fault) = refl
order_right place p (Ok u) = assoc (of_cube place cube_two u) (λ q. Ok (at_most p q)) (λ tree. Ok (alone tree))

order_two : (whole from place : Raw) (left right : Reading PlacedPoint)
    → with_alone (both (and_then left (of_cube from cube_two)) (and_then right (of_cube place cube_two)) at_most)
    ≡ and_then left (λ s. and_then (left_reading AtMost from s) (λ s'. and_then right (join_reading AtMost whole place s')))
order_two whole from place (Err fault) right = refl
order_two whole from place (Ok s) right =
    let last = λ (p : Tree). and_then (and_then right (of_cube place cube_two)) (λ q. Ok (at_most p q)) in
    let next = λ (p : Tree). and_then right (λ u. and_then (of_cube place cube_two u) (λ point. Ok (alone (at_most p point)))) in
    assoc (of_cube from cube_two s) last (λ tree. Ok (alone tree))
    ∙ next_same (of_cube from cube_two s) (λ p. with_alone (last p)) next (λ p. order_right place p right)
    ∙ within_left from s (same_tree s.cube cube_two) next

-- ---- forms

module _ (bound : Bindings) (forms : List Form) (depth : ℕ) (raw : Raw) where
  cube_form : (form : Form) → with_alone (cube_of_form (cube_reading forms depth) raw (Some form)) ≡ plan_reading bound forms depth raw (path_of form) (cube_plan form)
  cube_form form.CubeOne = refl
  cube_form form.CubeTwo = refl
  cube_form (form.Product left right) = product_two raw right (cube_reading forms depth left) (cube_reading forms depth right)
  cube_form other = refl

  point_form : (form : Form) → point_of_form bound (point_reading bound forms depth) raw (Some form) ≡ plan_reading bound forms depth raw (path_of form) (point_plan form)
  point_form (form.Bound up path) = refl
  point_form form.Star = refl
  point_form form.EndZero = refl
  point_form form.EndOne = refl
  point_form (form.Pair left right) = refl
  point_form (form.First arg) = refl
  point_form (form.Second arg) = refl
  point_form other = refl

  tope_form : (form : Form)
      → with_alone (tope_of_form (tope_reading bound forms depth) (point_reading bound forms depth) (point_of_cube bound forms depth) raw (Some form))
      ≡ plan_reading bound forms depth raw (path_of form) (tope_plan form)
  tope_form form.Top = refl
  tope_form form.Bottom = refl
  tope_form (form.And left right) = both_two conjunction (tope_reading bound forms depth left) (tope_reading bound forms depth right)
  tope_form (form.Or left right) = both_two disjunction (tope_reading bound forms depth left) (tope_reading bound forms depth right)
  tope_form (form.SamePoint left right) = same_two raw right (point_reading bound forms depth left) (point_reading bound forms depth right)
  tope_form (form.AtMost left right) = order_two raw left right (point_reading bound forms depth left) (point_reading bound forms depth right)
  tope_form other = refl

  -- a form that is there
  some_form : (target : Target) (form : Form) → slice_get forms raw.form ≡ Some form
      → reading_of bound forms target (suc depth) raw ≡ plan_reading bound forms depth raw (path_of form) (plan_of target form)
  some_form Cube form at = ap (λ (found : Option Form). with_alone (cube_of_form (cube_reading forms depth) raw found)) at ∙ cube_form form
  some_form Point form at = ap (λ (found : Option Form). point_of_form bound (point_reading bound forms depth) raw found) at ∙ point_form form
  some_form Tope form at =
      ap (λ (found : Option Form). with_alone (tope_of_form (tope_reading bound forms depth) (point_reading bound forms depth) (point_of_cube bound forms depth) raw found)) at
      ∙ tope_form form

  -- and one that isn't
  no_form : (target : Target) → slice_get forms raw.form ≡ None → reading_of bound forms target (suc depth) raw ≡ refusal KindClash raw
  no_form Cube at = ap (λ (found : Option Form). with_alone (cube_of_form (cube_reading forms depth) raw found)) at
  no_form Point at = ap (λ (found : Option Form). point_of_form bound (point_reading bound forms depth) raw found) at
  no_form Tope at =
      ap (λ (found : Option Form). with_alone (tope_of_form (tope_reading bound forms depth) (point_reading bound forms depth) (point_of_cube bound forms depth) raw found)) at

-- a depth above 0
pub from_below : (depth : ℕ) → 0 < depth → suc (depth - 1) ≡ depth
from_below depth some = omega arith

pub reading_there : (bound : Bindings) (forms : List Form) (target : Target) (depth : ℕ) (raw : Raw) (form : Form) → 0 < depth → slice_get forms raw.form ≡ Some form
    → reading_of bound forms target depth raw ≡ plan_reading bound forms (depth - 1) raw (path_of form) (plan_of target form)
reading_there bound forms target depth raw form some at =
    ap (λ (d : ℕ). reading_of bound forms target d raw) (sym (from_below depth some)) ∙ some_form bound forms (depth - 1) raw target form at

pub reading_absent : (bound : Bindings) (forms : List Form) (target : Target) (depth : ℕ) (raw : Raw) → 0 < depth → slice_get forms raw.form ≡ None
    → reading_of bound forms target depth raw ≡ refusal KindClash raw
reading_absent bound forms target depth raw some at =
    ap (λ (d : ℕ). reading_of bound forms target d raw) (sym (from_below depth some)) ∙ no_form bound forms (depth - 1) raw target at

-- nothing is read at depth 0
pub reading_zero : (bound : Bindings) (forms : List Form) (target : Target) (raw : Raw) → reading_of bound forms target zero raw ≡ refusal KindClash raw
reading_zero bound forms Cube raw = refl
reading_zero bound forms Point raw = refl
reading_zero bound forms Tope raw = refl
