-- What is read is a cube of few leaves, a point of its cube, a tope over the cubes.
use Rattle.std.proofs.Common.{◌≡◌, ℕ, zero, suc, ◌≤◌, Bool, true, false, List, [], ◌∷◌, Option, Some, None, refl, ap, subst, arith}
use Rattle.std.proofs.lemmas.Bool.{ltb-false}
use Rattle.std.specs.Prelude.{Ok, Err, nat_lt, slice_get, option_and_then, ◌==◌, if◌then◌else◌}
use Rattle.rz_rules.specs.declared.kinds.Sort.TheVariants as sort
use Rattle.rz_rules.specs.declared.kinds.Kind.TheVariants as kind
use Rattle.rz_rules.specs.declared.coordinates.TheConstants.{LEFT, RIGHT}
use Rattle.rz_rules.specs.declared.verdicts.Refusal.TheVariants.{BadPoint, WideCube}
use Rattle.rz_rules.specs.Tree.{Tree, At, Nil, And, sort_of}
use Rattle.rz_rules.specs.Cube.{cube_two, product, left_part, right_part, leaves}
use Rattle.rz_rules.specs.Tope.{IsPointOf, IsTopeOver, cube_of, equal_points, conjunction, disjunction, at_most}
use Rattle.rz_rules.specs.Same.{same_tree}
use Rattle.rz_rules.proofs.Same.{same_tree-Decides}
use Rattle.rz_syntax.specs.declared.forms.Raw.{Raw}
use Rattle.rz_syntax.specs.declared.forms.Form.{Form}
use Rattle.rz_syntax.specs.declared.forms.Form.TheVariants as form
use Rattle.rz_shape.specs.Reading.{Reading, Bindings, PlacedPoint, and_then, refusal, unless_wide, projection, variable_of_cube, cube_of_form, cube_reading, point_of_form, point_reading, tope_of_form, tope_reading, first_part, second_part, part_along, variable_in, of_cube, point_of_cube, pair, both}

-- what holds of what is read, if anything is
abbrev pub IfRead : {T : Type 0} → (T → Type 0) → Reading T → Type 0
IfRead P (Ok read) = P read
IfRead P (Err fault) = Unit {0}

pub IfRead-Ok : {T : Type 0} (P : T → Type 0) (reading : Reading T) (read : T) → reading ≡ Ok read → IfRead P reading → P read
IfRead-Ok P (Ok other) read e h = let same : other ≡ read = cc in subst P same h
IfRead-Ok P (Err fault) read e h = absurd cc

-- one reading and then another
pub IfRead-and_then : {A B : Type 0} (P : A → Type 0) (Q : B → Type 0) (reading : Reading A) (next : A → Reading B)
    → IfRead P reading → ((read : A) → P read → IfRead Q (next read)) → IfRead Q (and_then reading next)
IfRead-and_then P Q (Ok read) next h step = step read h
IfRead-and_then P Q (Err fault) next h step = tt

-- ---- cubes

pub record IsNarrow (cube : Tree) : Type 0 where
  pub sort : sort_of cube ≡ sort.Cube
  pub few : leaves cube ≤ 64

narrow_product : (raw : Raw) (l r : Tree) (wide : Bool) → nat_lt 64 (leaves (product l r)) ≡ wide
    → IfRead IsNarrow (if wide then refusal WideCube raw else Ok (product l r))
narrow_product raw l r true e = tt
narrow_product raw l r false e = record { sort = refl; few = ltb-false 64 (leaves (product l r)) e }

narrow_form : (part : Raw → Reading Tree) (raw : Raw) (form : Option Form) → ((raw : Raw) → IfRead IsNarrow (part raw)) → IfRead IsNarrow (cube_of_form part raw form)
narrow_form part raw None h = tt
narrow_form part raw (Some form.CubeOne) h = record { sort = refl; few = omega arith }
narrow_form part raw (Some form.CubeTwo) h = record { sort = refl; few = omega arith }
narrow_form part raw (Some (form.Product left right)) h =
    IfRead-and_then IsNarrow IsNarrow (part left) (λ l. and_then (part right) (λ r. unless_wide raw (product l r) (product l r))) (h left) (λ l p.
    IfRead-and_then IsNarrow IsNarrow (part right) (λ r. unless_wide raw (product l r) (product l r)) (h right) (λ r q.
    narrow_product raw l r (nat_lt 64 (leaves (product l r))) refl))
narrow_form part raw (Some other) h = tt

pub narrow : (forms : List Form) (depth : ℕ) (raw : Raw) → IfRead IsNarrow (cube_reading forms depth raw)
narrow forms zero raw = tt
narrow forms (suc depth) raw = narrow_form (cube_reading forms depth) raw (slice_get forms raw.form) (narrow forms depth)

-- ---- points

module _ (bound : Bindings) where
  abbrev IsPlaced : PlacedPoint → Type 0
  IsPlaced s = IsPointOf (record { cubes = bound.cubes }) s.cube s.point

  abbrev IsOver : Tree → Type 0
  IsOver tope = IsTopeOver (record { cubes = bound.cubes }) tope

  projection_is : (raw : Raw) (point : Tree) (cube : Option Tree) → cube_of (record { cubes = bound.cubes }) point ≡ cube → IfRead IsPlaced (projection raw point cube)
  projection_is raw point (Some cube) e = e
  projection_is raw point None e = tt

  first_is : (raw : Raw) (s : PlacedPoint) → IsPlaced s → IfRead IsPlaced (first_part raw s)
  first_is raw s h = projection_is raw (At kind.PointLeft 0 [] (And s.point Nil)) (left_part s.cube) (ap (option_and_then left_part) h)

  second_is : (raw : Raw) (s : PlacedPoint) → IsPlaced s → IfRead IsPlaced (second_part raw s)
  second_is raw s h = projection_is raw (At kind.PointRight 0 [] (And s.point Nil)) (right_part s.cube) (ap (option_and_then right_part) h)

  half_is : (raw : Raw) (left right : Bool) (s : PlacedPoint) → IsPlaced s
      → IfRead IsPlaced (if left then first_part raw s else if right then second_part raw s else refusal BadPoint raw)
  half_is raw true right s h = first_is raw s h
  half_is raw false true s h = second_is raw s h
  half_is raw false false s h = tt

  along_is : (raw : Raw) (path : List ℕ) (s : PlacedPoint) → IsPlaced s → IfRead IsPlaced (part_along raw path s)
  along_is raw [] s h = h
  along_is raw (letter ∷ path) s h =
      IfRead-and_then IsPlaced IsPlaced (if letter == LEFT then first_part raw s else if letter == RIGHT then second_part raw s else refusal BadPoint raw) (part_along raw path)
      (half_is raw (letter == LEFT) (letter == RIGHT) s h) (along_is raw path)

  entry_is : (raw : Raw) (index : ℕ) (cube : Option Tree) → slice_get bound.cubes index ≡ cube → IfRead IsPlaced (variable_of_cube raw index cube)
  entry_is raw index (Some cube) e = e
  entry_is raw index None e = tt

  variable_is : (raw : Raw) (variable : Option (Option ℕ)) → IfRead IsPlaced (variable_in bound.cubes raw variable)
  variable_is raw (Some (Some index)) = entry_is raw index (slice_get bound.cubes index) refl
  variable_is raw (Some None) = tt
  variable_is raw None = tt

  pair_is : (raw : Raw) (s u : PlacedPoint) (wide : Bool) → IsPlaced s → IsPlaced u → IfRead IsPlaced (if wide then refusal WideCube raw else Ok (pair s u))
  pair_is raw s u true hs hu = tt
  pair_is raw s u false hs hu = λ i. option_and_then (λ l. option_and_then (λ r. Some (product l r)) (hu i)) (hs i)

  point_form : (part : Raw → Reading PlacedPoint) (raw : Raw) (form : Option Form) → ((raw : Raw) → IfRead IsPlaced (part raw)) → IfRead IsPlaced (point_of_form bound part raw form)
  point_form part raw None h = tt
  point_form part raw (Some (form.Bound up path)) h =
      IfRead-and_then IsPlaced IsPlaced (variable_in bound.cubes raw (slice_get bound.variables up)) (part_along raw path)
      (variable_is raw (slice_get bound.variables up)) (along_is raw path)
  point_form part raw (Some form.Star) h = refl
  point_form part raw (Some form.EndZero) h = refl
  point_form part raw (Some form.EndOne) h = refl
  point_form part raw (Some (form.Pair left right)) h =
      IfRead-and_then IsPlaced IsPlaced (part left) (λ s. and_then (part right) (λ u. unless_wide raw (product s.cube u.cube) (pair s u))) (h left) (λ s hs.
      IfRead-and_then IsPlaced IsPlaced (part right) (λ u. unless_wide raw (product s.cube u.cube) (pair s u)) (h right) (λ u hu.
      pair_is raw s u (nat_lt 64 (leaves (product s.cube u.cube))) hs hu))
  point_form part raw (Some (form.First arg)) h = IfRead-and_then IsPlaced IsPlaced (part arg) (first_part arg) (h arg) (first_is arg)
  point_form part raw (Some (form.Second arg)) h = IfRead-and_then IsPlaced IsPlaced (part arg) (second_part arg) (h arg) (second_is arg)
  point_form part raw (Some other) h = tt

  pub point_is : (forms : List Form) (depth : ℕ) (raw : Raw) → IfRead IsPlaced (point_reading bound forms depth raw)
  point_is forms zero raw = tt
  point_is forms (suc depth) raw = point_form (point_reading bound forms depth) raw (slice_get forms raw.form) (point_is forms depth)

  same_is : (raw : Raw) (cube : Tree) (s : PlacedPoint) (same : Bool) → same_tree s.cube cube ≡ same → IsPlaced s
      → IfRead (IsPointOf (record { cubes = bound.cubes }) cube) (if same then Ok s.point else refusal BadPoint raw)
  same_is raw cube s true e h = subst (λ (of : Tree). IsPointOf (record { cubes = bound.cubes }) of s.point) ((same_tree-Decides s.cube cube).0 e) h
  same_is raw cube s false e h = tt

  pub within_is : (forms : List Form) (depth : ℕ) (cube : Tree) (raw : Raw) → IfRead (IsPointOf (record { cubes = bound.cubes }) cube) (point_of_cube bound forms depth cube raw)
  within_is forms depth cube raw =
      IfRead-and_then IsPlaced (IsPointOf (record { cubes = bound.cubes }) cube) (point_reading bound forms depth raw) (of_cube raw cube) (point_is forms depth raw)
      (λ s h. same_is raw cube s (same_tree s.cube cube) refl h)

  both_is : (P Q : Tree → Type 0) (left right : Reading Tree) (join : Tree → Tree → Tree) → IfRead P left → IfRead Q right
      → ((p q : Tree) → P p → Q q → IsOver (join p q)) → IfRead IsOver (both left right join)
  both_is P Q (Ok p) (Ok q) join hp hq step = step p q hp hq
  both_is P Q (Ok p) (Err fault) join hp hq step = tt
  both_is P Q (Err fault) right join hp hq step = tt

  tope_form : (tope : Raw → Reading Tree) (point : Raw → Reading PlacedPoint) (within : Tree → Raw → Reading Tree) (raw : Raw) (form : Option Form)
      → ((raw : Raw) → IfRead IsOver (tope raw)) → ((raw : Raw) → IfRead IsPlaced (point raw))
      → ((cube : Tree) (raw : Raw) → IfRead (IsPointOf (record { cubes = bound.cubes }) cube) (within cube raw))
      → IfRead IsOver (tope_of_form tope point within raw form)
  tope_form tope point within raw None ht hp hw = tt
  tope_form tope point within raw (Some form.Top) ht hp hw = tt
  tope_form tope point within raw (Some form.Bottom) ht hp hw = tt
  tope_form tope point within raw (Some (form.And left right)) ht hp hw = both_is IsOver IsOver (tope left) (tope right) conjunction (ht left) (ht right) (λ p q a b. (a, b))
  tope_form tope point within raw (Some (form.Or left right)) ht hp hw = both_is IsOver IsOver (tope left) (tope right) disjunction (ht left) (ht right) (λ p q a b. (a, b))
  tope_form tope point within raw (Some (form.SamePoint left right)) ht hp hw =
      IfRead-and_then IsPlaced IsOver (point left) (λ s. and_then (within s.cube right) (λ u. Ok (equal_points s.cube s.point u))) (hp left) (λ s hs.
      IfRead-and_then (IsPointOf (record { cubes = bound.cubes }) s.cube) IsOver (within s.cube right) (λ u. Ok (equal_points s.cube s.point u)) (hw s.cube right) (λ u hu. (hs, hu)))
  tope_form tope point within raw (Some (form.AtMost left right)) ht hp hw =
      let P = IsPointOf (record { cubes = bound.cubes }) cube_two in
      both_is P P (within cube_two left) (within cube_two right) at_most (hw cube_two left) (hw cube_two right) (λ p q a b. (a, b))
  tope_form tope point within raw (Some other) ht hp hw = tt

  pub tope_is : (forms : List Form) (depth : ℕ) (raw : Raw) → IfRead IsOver (tope_reading bound forms depth raw)
  tope_is forms zero raw = tt
  tope_is forms (suc depth) raw =
      tope_form (tope_reading bound forms depth) (point_reading bound forms depth) (point_of_cube bound forms depth) raw (slice_get forms raw.form)
      (tope_is forms depth) (point_is forms depth) (within_is forms depth)

-- ---- as equations

pub cube_sort : (forms : List Form) (depth : ℕ) (raw : Raw) (cube : Tree) → cube_reading forms depth raw ≡ Ok cube → sort_of cube ≡ sort.Cube
cube_sort forms depth raw cube e = (IfRead-Ok IsNarrow (cube_reading forms depth raw) cube e (narrow forms depth raw)).sort

pub cube_leaves : (forms : List Form) (depth : ℕ) (raw : Raw) (cube : Tree) → cube_reading forms depth raw ≡ Ok cube → leaves cube ≤ 64
cube_leaves forms depth raw cube e = (IfRead-Ok IsNarrow (cube_reading forms depth raw) cube e (narrow forms depth raw)).few

pub point_of : (bound : Bindings) (forms : List Form) (depth : ℕ) (raw : Raw) (s : PlacedPoint) → point_reading bound forms depth raw ≡ Ok s
    → IsPointOf (record { cubes = bound.cubes }) s.cube s.point
point_of bound forms depth raw s e = IfRead-Ok (IsPlaced bound) (point_reading bound forms depth raw) s e (point_is bound forms depth raw)

pub point_within : (bound : Bindings) (forms : List Form) (depth : ℕ) (cube : Tree) (raw : Raw) (point : Tree) → point_of_cube bound forms depth cube raw ≡ Ok point
    → IsPointOf (record { cubes = bound.cubes }) cube point
point_within bound forms depth cube raw point e =
    IfRead-Ok (IsPointOf (record { cubes = bound.cubes }) cube) (point_of_cube bound forms depth cube raw) point e (within_is bound forms depth cube raw)

pub tope_over : (bound : Bindings) (forms : List Form) (depth : ℕ) (raw : Raw) (tope : Tree) → tope_reading bound forms depth raw ≡ Ok tope
    → IsTopeOver (record { cubes = bound.cubes }) tope
tope_over bound forms depth raw tope e = IfRead-Ok (IsOver bound) (tope_reading bound forms depth raw) tope e (tope_is bound forms depth raw)
