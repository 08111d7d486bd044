-- The changes of place that rules make: further in, a value for a variable, and fewer valuations.
use Rattle.std.proofs.Common.{◌≡◌, ℕ, zero, suc, ◌+◌, ◌<◌, List, [], ◌∷◌, Some, Bool, ◌&&◌, IsTrue, refl, sym, ap, ◌∙◌, subst, arith}
use Rattle.std.specs.Prelude.{slice_get}
use Rattle.std.specs.Cmp.{first_so, second_so}
use Rattle.std.proofs.lemmas.Bool.Decides.{nat_tests}
use Rattle.rz_rules.specs.declared.kinds.Sort.TheVariants as sort
use Rattle.rz_rules.specs.declared.kinds.Space.{Space}
use Rattle.rz_rules.specs.declared.kinds.Space.TheVariants.{Points, Terms}
use Rattle.rz_rules.specs.declared.kinds.Kind.TheVariants.{PointVariable, TermVariable}
use Rattle.rz_rules.specs.Tree.{Tree, At, Nil, IsTree}
use Rattle.rz_rules.specs.Substitution.{Depth, Change, Renumbered, Replaced, Changes, changed, changed_variable, none, only, total, raising, shift, weakened, putting, put}
use Rattle.rz_rules.specs.Tope.{cube_of, IsPointOf, IsTopeOver}
use Rattle.rz_rules.proofs.Substitution.{weakened-none}
use Rattle.rz_rules.proofs.SubstitutionRuns.{staying, changed_staying}
use Rattle.rz_rules.proofs.SubstitutionVariables.{raised, raised_by_none, put_change}
use Rattle.rz_rules.proofs.Depths.{changed_opened}
use Rattle.rz_metatheory.specs.Scope.{Scope, binders_in, IsShape}
use Rattle.rz_metatheory.specs.Scope as scope
use Rattle.rz_metatheory.specs.Place.{Valuation, value, is_true, outside, with_value, Place, nowhere, with_cube, with_term, with_tope, IsAllowed, Entails}
use Rattle.rz_metatheory.specs.Good.{IsGood, IsTrueAt, on_shape, on_face}
use Rattle.rz_metatheory.proofs.Values.{AreCubes, AreCubes-front}
use Rattle.rz_metatheory.proofs.Places.{both_so, raised_one, point_image, carried, Carries, StaysGood, moved_tope, lift_cube, lift_term, lift_tope}
use Rattle.rz_metatheory.proofs.Changing.{changed_good, carries_at}
use Rattle.rz_metatheory.proofs.Uniform.{staying_uniform, raising_uniform, putting_uniform}

-- shifts put nothing in
staying_only : (depth : Depth) (index : ℕ) (t : Tree) → staying Terms depth index ≡ Replaced t → StaysGood t
staying_only depth index t e = absurd cc

pub raising_only : (from by : Depth) (depth : Depth) (index : ℕ) (t : Tree) → raising from by Terms depth index ≡ Replaced t → StaysGood t
raising_only from by depth index t e = absurd cc

-- ---- fewer valuations

narrowing : (from to : Place) → AreCubes to.scope.cubes → from.scope ≡ to.scope → ((valuation : Valuation) → IsAllowed to valuation → IsTrue (from.allows valuation))
    → Carries staying none from to
narrowing from to cubes e fewer = record {
  from_cubes = subst (λ (s : Scope). AreCubes s.cubes) (sym e) cubes;
  to_cubes = cubes;
  points = λ index cube there. ap (λ (s : Scope). slice_get s.cubes index) (sym e) ∙ there;
  terms = λ index lt. (subst (λ (s : Scope). index < s.terms) e lt, tt, tt);
  back = fewer;
}

-- a term is good where fewer valuations are allowed
pub narrowed : (from to : Place) → AreCubes to.scope.cubes → from.scope ≡ to.scope → ((valuation : Valuation) → IsAllowed to valuation → IsTrue (from.allows valuation))
    → (t : Tree) → IsGood from t → IsGood to t
narrowed from to cubes e fewer t good =
    subst (IsGood to) (changed_staying none t) (changed_good staying staying_uniform staying_only none from to (narrowing from to cubes e fewer) t good)

-- what is good without variables is good everywhere
pub good_everywhere : (place : Place) → AreCubes place.scope.cubes → (t : Tree) → IsGood nowhere t → IsGood place t
good_everywhere place cubes t good =
    subst (IsGood place) (changed_staying none t) (changed_good staying staying_uniform staying_only none nowhere place (record {
      from_cubes = λ index cube e. absurd cc;
      to_cubes = cubes;
      points = λ index cube e. absurd cc;
      terms = λ index lt. absurd (omega (arith, lt));
      back = λ valuation allowed. refl;
    }) t good)

-- ---- further in

-- past one cube variable, at a place that allows what the place outside does
pub past_cube : (place inner : Place) (cube : Tree) → AreCubes place.scope.cubes → IsTree sort.Cube cube → inner.scope ≡ scope.with_cube cube place.scope
    → ((valuation : Valuation) → IsAllowed inner valuation → IsTrue (place.allows (outside valuation)))
    → Carries (raising none (only Points 1)) none place inner
past_cube place inner cube cubes is e fewer = record {
  from_cubes = cubes;
  to_cubes = subst (λ (s : Scope). AreCubes s.cubes) (sym e) (AreCubes-front cube place.scope.cubes is cubes);
  points = λ index other there. ap (λ (s : Scope). slice_get s.cubes (raised (0 + 0) 1 index)) e ∙ ap (slice_get (cube ∷ place.scope.cubes)) (raised_one index) ∙ there;
  terms = λ index lt. (subst (λ m. m < inner.scope.terms) (sym (raised_by_none (0 + 0) index)) (subst (λ (s : Scope). index < s.terms) (sym e) lt), tt, tt);
  back = λ valuation allowed. subst (λ w. IsTrue (place.allows w)) (λ i. record { last = valuation.last; values = λ index. valuation.values (sym (raised_one index) i) }) (fewer valuation allowed);
}

-- past one term variable
pub past_term : (place : Place) → AreCubes place.scope.cubes → Carries (raising none (only Terms 1)) none place (with_term place)
past_term place cubes = record {
  from_cubes = cubes;
  to_cubes = cubes;
  points = λ index other there. ap (slice_get place.scope.cubes) (raised_by_none (0 + 0) index) ∙ there;
  terms = λ index lt. (subst (λ m. m < suc place.scope.terms) (sym (raised_one index)) (omega (arith, lt)), tt, tt);
  back = λ valuation allowed. subst (λ w. IsTrue (place.allows w)) (λ i. record { last = valuation.last; values = λ index. valuation.values (sym (raised_by_none (0 + 0) index) i) }) allowed.allowed;
}

-- past a tope, at a place that allows no more
pub past_tope : (place inner : Place) → AreCubes place.scope.cubes → inner.scope ≡ place.scope
    → ((valuation : Valuation) → IsAllowed inner valuation → IsTrue (place.allows valuation))
    → Carries (raising none none) none place inner
past_tope place inner cubes e fewer = record {
  from_cubes = cubes;
  to_cubes = subst (λ (s : Scope). AreCubes s.cubes) (sym e) cubes;
  points = λ index other there. ap (λ (s : Scope). slice_get s.cubes (raised (0 + 0) 0 index)) e ∙ ap (slice_get place.scope.cubes) (raised_by_none (0 + 0) index) ∙ there;
  terms = λ index lt. (subst (λ m. m < inner.scope.terms) (sym (raised_by_none (0 + 0) index)) (subst (λ (s : Scope). index < s.terms) (sym e) lt), tt, tt);
  back = λ valuation allowed. subst (λ w. IsTrue (place.allows w)) (λ i. record { last = valuation.last; values = λ index. valuation.values (sym (raised_by_none (0 + 0) index) i) }) (fewer valuation allowed);
}

pub raised_good : (by depth : Depth) (from to : Place) → Carries (raising none by) depth from to → (t : Tree) → IsGood from t → IsGood to (changed (raising none by) depth t)
raised_good by depth from to c t good = changed_good (raising none by) (raising_uniform none by) (raising_only none by) depth from to c t good

-- what is good stays good further in
pub stays_good : (t : Tree) → StaysGood t
stays_good t = record {
  under_cube = λ place cube cubes is good.
      raised_good (only Points 1) none place (with_cube cube place) (past_cube place (with_cube cube place) cube cubes is refl (λ valuation allowed. allowed.allowed)) t good;
  under_term = λ place cubes good. raised_good (only Terms 1) none place (with_term place) (past_term place cubes) t good;
  under_tope = λ place tope cubes good. narrowed place (with_tope tope place) cubes refl
      (λ valuation allowed. first_so (place.allows valuation) (is_true (binders_in place.scope) valuation tope) allowed.allowed) t good;
}

-- ---- a value for a variable

put_later : (value : Tree) (index : ℕ) → put_change (0 + 0) value (suc index) ≡ Renumbered index
put_later value index = grind (arith, nat_tests)

-- a valuation carried back is the numbers of the point and the rest
pub carried_put : (here : Scope) (point : Tree) (valuation : Valuation)
    → carried (putting Points none point) none here valuation ≡ with_value (value (binders_in here) valuation point) valuation
carried_put here point valuation = λ i. record { last = valuation.last; values = λ index. at index i } where
  at : (index : ℕ) → value (binders_in here) valuation (point_image (putting Points none point) none index)
      ≡ (with_value (value (binders_in here) valuation point) valuation).values index
  at zero = ap (value (binders_in here) valuation) (weakened-none point)
  at (suc index) = ap (λ (c : Change). value (binders_in here) valuation (changed_variable c PointVariable [] Nil)) (put_later (weakened (total none none) point) index)

-- a point of its cube, where the valuation with its numbers is allowed
pub put_point : (place inner : Place) (cube point : Tree) → AreCubes place.scope.cubes → IsTree sort.Cube cube → inner.scope ≡ scope.with_cube cube place.scope
    → IsPointOf (binders_in place.scope) cube point
    → ((valuation : Valuation) → IsAllowed place valuation → IsTrue (inner.allows (with_value (value (binders_in place.scope) valuation point) valuation)))
    → Carries (putting Points none point) none inner place
put_point place inner cube point cubes is e there fewer = record {
  from_cubes = subst (λ (s : Scope). AreCubes s.cubes) (sym e) (AreCubes-front cube place.scope.cubes is cubes);
  to_cubes = cubes;
  points = λ index other h. points index other (ap (λ (s : Scope). slice_get s.cubes index) (sym e) ∙ h);
  terms = λ index lt. (subst (λ (s : Scope). index < s.terms) e lt, tt, tt);
  back = λ valuation allowed. subst (λ w. IsTrue (inner.allows w)) (sym (carried_put place.scope point valuation)) (fewer valuation allowed);
} where
  points : (index : ℕ) (other : Tree) → slice_get (cube ∷ place.scope.cubes) index ≡ Some other → cube_of (binders_in place.scope) (point_image (putting Points none point) none index) ≡ Some other
  points zero other h = ap (cube_of (binders_in place.scope)) (weakened-none point) ∙ there ∙ h
  points (suc index) other h =
      ap (λ (c : Change). cube_of (binders_in place.scope) (changed_variable c PointVariable [] Nil)) (put_later (weakened (total none none) point) index) ∙ h

points_replaced : (point : Tree) (depth : Depth) (index : ℕ) (t : Tree) → putting Points none point Terms depth index ≡ Replaced t → StaysGood t
points_replaced point depth index t e = absurd cc

pub put_point_good : (place inner : Place) (point : Tree) → Carries (putting Points none point) none inner place → (t : Tree) → IsGood inner t → IsGood place (put Points none point t)
put_point_good place inner point c t good =
    changed_good (putting Points none point) (putting_uniform Points none point) (λ depth index t e. stays_good t) none inner place c t good

-- a shape at a point
module _ (place : Place) (cube tope point : Tree) (cubes : AreCubes place.scope.cubes) (is : IsTree sort.Cube cube) (there : IsPointOf (binders_in place.scope) cube point) where
  put_carries : Carries (putting Points none point) none (with_cube cube place) place
  put_carries = put_point place (with_cube cube place) cube point cubes is refl there (λ valuation allowed. allowed.allowed)

  -- the tope at the point is over the place, and true there where the shape is
  pub put_over : IsTopeOver (binders_in (scope.with_cube cube place.scope)) tope → IsTopeOver (binders_in place.scope) (put Points none point tope)
  put_over over = (moved_tope (putting Points none point) none (scope.with_cube cube place.scope) place.scope put_carries.points put_carries.from_cubes tope over).over

  put_truth : IsTopeOver (binders_in (scope.with_cube cube place.scope)) tope → (valuation : Valuation)
      → is_true (binders_in place.scope) valuation (put Points none point tope)
      ≡ is_true (binders_in (scope.with_cube cube place.scope)) (with_value (value (binders_in place.scope) valuation point) valuation) tope
  put_truth over valuation =
      (moved_tope (putting Points none point) none (scope.with_cube cube place.scope) place.scope put_carries.points put_carries.from_cubes tope over).truth valuation
      ∙ ap (λ (w : Valuation). is_true (binders_in (scope.with_cube cube place.scope)) w tope) (carried_put place.scope point valuation)

  pub true_at : IsTopeOver (binders_in (scope.with_cube cube place.scope)) tope → Entails place (put Points none point tope) → IsTrueAt place cube tope point
  true_at over entails valuation allowed = sym (put_truth over valuation) ∙ entails valuation allowed

  pub put_entails : IsTopeOver (binders_in (scope.with_cube cube place.scope)) tope → IsTrueAt place cube tope point → Entails place (put Points none point tope)
  put_entails over so valuation allowed = put_truth over valuation ∙ so valuation allowed

  -- a term on the shape is good at the point
  pub at_point_good : IsTrueAt place cube tope point → (t : Tree) → IsGood (on_shape place cube tope) t → IsGood place (put Points none point t)
  at_point_good so t good =
      put_point_good place (on_shape place cube tope) point (put_point place (on_shape place cube tope) cube point cubes is refl there
      (λ valuation allowed. both_so (place.allows valuation)
      (is_true (binders_in (scope.with_cube cube place.scope)) (with_value (value (binders_in place.scope) valuation point) valuation) tope)
      allowed.allowed (so valuation allowed))) t good

  pub at_face_good : (face : Tree) → IsTrueAt place cube tope point → IsTrueAt place cube face point
      → (t : Tree) → IsGood (on_face place cube tope face) t → IsGood place (put Points none point t)
  at_face_good face so on t good =
      put_point_good place (on_face place cube tope face) point (put_point place (on_face place cube tope face) cube point cubes is refl there
      (λ valuation allowed.
      let deep = with_value (value (binders_in place.scope) valuation point) valuation in
      let truth : Tree → Bool = λ p. is_true (binders_in (scope.with_cube cube place.scope)) deep p in
      both_so (place.allows valuation && truth tope) (truth face) (both_so (place.allows valuation) (truth tope) allowed.allowed (so valuation allowed)) (on valuation allowed)))
      t good

-- a good term
pub put_term : (place : Place) (value : Tree) → AreCubes place.scope.cubes → IsGood place value → Carries (putting Terms none value) none (with_term place) place
put_term place value cubes good = record {
  from_cubes = cubes;
  to_cubes = cubes;
  points = λ index other h. h;
  terms = terms;
  back = λ valuation allowed. allowed.allowed;
} where
  terms : (index : ℕ) → index < suc place.scope.terms → IsGood place (changed_variable (putting Terms none value Terms none index) TermVariable [] Nil)
  terms zero lt = subst (IsGood place) (sym (weakened-none value)) good
  terms (suc index) lt = subst (λ (c : Change). IsGood place (changed_variable c TermVariable [] Nil)) (sym (put_later (weakened (total none none) value) index)) (omega (arith, lt), tt, tt)

pub put_term_good : (place : Place) (value : Tree) → AreCubes place.scope.cubes → IsGood place value
    → (t : Tree) → IsGood (with_term place) t → IsGood place (put Terms none value t)
put_term_good place value cubes good t body =
    changed_good (putting Terms none value) (putting_uniform Terms none value) (λ depth index t e. stays_good t) none (with_term place) place
    (put_term place value cubes good) t body

-- ---- the shifts of rows

pub shift_term_good : (place : Place) → AreCubes place.scope.cubes → (t : Tree) → IsGood place t → IsGood (with_term place) (shift Terms 0 1 t)
shift_term_good place cubes t good = subst (IsGood (with_term place)) (changed_opened Terms none t) ((stays_good t).under_term place cubes good)

none_total : (by : Depth) → total none by ≡ by
none_total by = λ i space. plain space i where
  plain : (space : Space) → 0 + by space ≡ by space
  plain space = omega arith

pub shift_inner_term_good : (place : Place) → AreCubes place.scope.cubes → (t : Tree) → IsGood (with_term place) t → IsGood (with_term (with_term place)) (shift Terms 1 1 t)
shift_inner_term_good place cubes t good =
    let f = raising none (only Terms 1) in
    let c = lift_term f (raising_uniform none (only Terms 1)) (raising_only none (only Terms 1)) none place (with_term place) (past_term place cubes) in
    let at = carries_at f (total none (only Terms 1)) (only Terms 1) (with_term place) (with_term (with_term place)) (none_total (only Terms 1)) c in
    subst (IsGood (with_term (with_term place))) (changed_opened Terms (only Terms 1) t) (raised_good (only Terms 1) (only Terms 1) (with_term place) (with_term (with_term place)) at t good)

raised_at_one : (index : ℕ) → raised (0 + 1) 1 (suc index) ≡ suc (suc index)
raised_at_one index = grind (arith, nat_tests)

-- on a shape, where the shape is named again
module _ (place : Place) (cube tope face : Tree) (cubes : AreCubes place.scope.cubes) (shape : IsShape place.scope cube tope face) where
  abbrev here : Place
  here = on_shape place cube tope

  abbrev rise : Changes
  rise = raising none (only Points 1)

  cubes_here : AreCubes here.scope.cubes
  cubes_here = AreCubes-front cube place.scope.cubes shape.cube_is.tree cubes

  outer_carries : Carries rise none place here
  outer_carries = past_cube place here cube cubes shape.cube_is.tree refl
      (λ valuation allowed. first_so (place.allows (outside valuation)) (is_true (binders_in here.scope) valuation tope) allowed.allowed)

  inner_carries : Carries rise (only Points 1) (with_cube cube place) (with_cube cube here)
  inner_carries = carries_at rise (total none (only Points 1)) (only Points 1) (with_cube cube place) (with_cube cube here) (none_total (only Points 1))
      (lift_cube rise (raising_uniform none (only Points 1)) (raising_only none (only Points 1)) none place here outer_carries cube shape.cube_is.tree)

  inner_tope : (t : Tree) → IsTopeOver (binders_in (scope.with_cube cube place.scope)) t → IsTopeOver (binders_in (scope.with_cube cube here.scope)) (shift Points 1 1 t)
  inner_tope t over =
      subst (IsTopeOver (binders_in (scope.with_cube cube here.scope))) (changed_opened Points (only Points 1) t)
      (moved_tope rise (only Points 1) (scope.with_cube cube place.scope) (scope.with_cube cube here.scope) inner_carries.points inner_carries.from_cubes t over).over

  pub again_shape : IsShape here.scope cube (shift Points 1 1 tope) (shift Points 1 1 face)
  again_shape = record { cube_is = shape.cube_is; tope_is = inner_tope tope shape.tope_is; face_is = inner_tope face shape.face_is }

  pub again_true : (name : List ℕ) → IsTrueAt here cube (shift Points 1 1 tope) (At PointVariable 0 name Nil)
  again_true name valuation allowed =
      let deep = with_value (valuation.values 0) valuation in
      let move = moved_tope rise (only Points 1) (scope.with_cube cube place.scope) (scope.with_cube cube here.scope) inner_carries.points inner_carries.from_cubes tope shape.tope_is in
      let shifted : is_true (binders_in (scope.with_cube cube here.scope)) deep (shift Points 1 1 tope) ≡ is_true (binders_in (scope.with_cube cube here.scope)) deep (changed rise (only Points 1) tope) =
      ap (is_true (binders_in (scope.with_cube cube here.scope)) deep) (sym (changed_opened Points (only Points 1) tope)) in
      shifted ∙ move.truth deep
      ∙ ap (λ (w : Valuation). is_true (binders_in (scope.with_cube cube place.scope)) w tope) (λ i. record { last = valuation.last; values = λ index. numbers valuation index i })
      ∙ second_so (place.allows (outside valuation)) (is_true (binders_in here.scope) valuation tope) allowed.allowed where
        numbers : (valuation : Valuation) (index : ℕ)
            → value (binders_in (scope.with_cube cube here.scope)) (with_value (valuation.values 0) valuation) (point_image rise (only Points 1) index) ≡ valuation.values index
        numbers valuation zero = refl
        numbers valuation (suc index) = ap (λ m. (with_value (valuation.values 0) valuation).values m) (raised_at_one index)

  shape_there : Place
  shape_there = on_shape here cube (changed rise (only Points 1) tope)

  shape_carries : Carries rise (only Points 1) (on_shape place cube tope) (on_shape here cube (shift Points 1 1 tope))
  shape_carries =
      subst (λ t. Carries rise (only Points 1) (on_shape place cube tope) (on_shape here cube t)) (changed_opened Points (only Points 1) tope)
      (lift_tope rise (raising_uniform none (only Points 1)) (raising_only none (only Points 1)) (only Points 1) (with_cube cube place) (with_cube cube here) inner_carries tope shape.tope_is)

  face_carries : Carries rise (only Points 1) (on_face place cube tope face) (on_face here cube (shift Points 1 1 tope) (shift Points 1 1 face))
  face_carries =
      subst (λ t. Carries rise (only Points 1) (on_face place cube tope face) (on_face here cube (shift Points 1 1 tope) t)) (changed_opened Points (only Points 1) face)
      (lift_tope rise (raising_uniform none (only Points 1)) (raising_only none (only Points 1)) (only Points 1) (on_shape place cube tope) (on_shape here cube (shift Points 1 1 tope)) shape_carries face shape.face_is)

  pub again_on_shape : (t : Tree) → IsGood (on_shape place cube tope) t → IsGood (on_shape here cube (shift Points 1 1 tope)) (shift Points 1 1 t)
  again_on_shape t good =
      subst (IsGood (on_shape here cube (shift Points 1 1 tope))) (changed_opened Points (only Points 1) t)
      (raised_good (only Points 1) (only Points 1) (on_shape place cube tope) (on_shape here cube (shift Points 1 1 tope)) shape_carries t good)

  pub again_on_face : (t : Tree) → IsGood (on_face place cube tope face) t → IsGood (on_face here cube (shift Points 1 1 tope) (shift Points 1 1 face)) (shift Points 1 1 t)
  again_on_face t good =
      subst (IsGood (on_face here cube (shift Points 1 1 tope) (shift Points 1 1 face))) (changed_opened Points (only Points 1) t)
      (raised_good (only Points 1) (only Points 1) (on_face place cube tope face) (on_face here cube (shift Points 1 1 tope) (shift Points 1 1 face)) face_carries t good)

  pub again_outside : (t : Tree) → IsGood place t → IsGood here (shift Points 0 1 t)
  again_outside t good =
      subst (IsGood here) (changed_opened Points none t) (raised_good (only Points 1) none place here outer_carries t good)
