-- Changes of place: what becomes of points and topes where a place changes, and changes further in.
use Rattle.std.proofs.Common.{◌≡◌, ℕ, zero, suc, ◌+◌, ◌<◌, List, [], ◌∷◌, ◌++◌, take, drop, Some, true, false, IsTrue, ◌&&◌, refl, sym, ap, ◌∙◌, subst, arith}
use Rattle.std.specs.Prelude.{slice_get, slice_index, option_and_then, if◌then◌else◌, nat_le, nat_eq, ◌||◌, Bool}
use Rattle.std.specs.Cmp.{first_so, second_so}
use Rattle.std.specs.Cmp.Lexicographic.{pointwise}
use Rattle.std.proofs.lemmas.Bool.Decides.{nat_tests}
use Rattle.rz_rules.specs.declared.kinds.Sort.TheVariants as sort
use Rattle.rz_rules.specs.declared.kinds.Space.{Space}
use Rattle.rz_rules.specs.declared.kinds.Space.TheVariants.{Points, Terms}
use Rattle.rz_rules.specs.declared.kinds.Kind.TheVariants.{CubeOne, CubeTwo, Product, PointVariable, OnlyPoint, Zero, One, PointPair, PointLeft, PointRight, Top, Bottom, Conjunction, Disjunction, EqualPoints, AtMost, TermVariable}
use Rattle.rz_rules.specs.Form.{plain, bound}
use Rattle.rz_rules.specs.Tree.{Tree, At, Nil, And, IsTree}
use Rattle.rz_rules.specs.Substitution.{Depth, Change, Renumbered, Replaced, Changes, changed, changed_variable, only, total, weakened, same_space}
use Rattle.rz_rules.specs.Cube.{Binders, cube_two, product, left_part, right_part}
use Rattle.rz_rules.specs.Coordinate.{left_width}
use Rattle.rz_rules.specs.Tope.{cube_of, IsTopeOver}
use Rattle.rz_rules.proofs.SubstitutionVariables.{raised, raised_by_none}
use Rattle.rz_metatheory.specs.Scope.{Scope, binders_in}
use Rattle.rz_metatheory.specs.Scope as scope
use Rattle.rz_metatheory.specs.Place.{Valuation, value, is_true, outside, with_value, Place, with_cube, with_term, with_tope, IsAllowed}
use Rattle.rz_metatheory.specs.Good.{IsGood}
use Rattle.rz_metatheory.proofs.Values.{plain_kid, then_some, value_fits, AreCubes, AreCubes-front, cube_of_is, weakened_point}

pub both_so : (a b : Bool) → a ≡ true → b ≡ true → (a && b) ≡ true
both_so a b p q = ap (λ x. x && b) p ∙ q

-- no change reaches a cube
pub changed_cube : (f : Changes) (depth : Depth) (t : Tree) → IsTree sort.Cube t → changed f depth t ≡ t
changed_cube f depth (At CubeOne number name Nil) h = refl
changed_cube f depth (At CubeOne number name (And t ts)) h = absurd h.2
changed_cube f depth (At CubeTwo number name Nil) h = refl
changed_cube f depth (At CubeTwo number name (And t ts)) h = absurd h.2
changed_cube f depth (At Product number name Nil) h = absurd h.2
changed_cube f depth (At Product number name (And left Nil)) h = absurd h.2.1
changed_cube f depth (At Product number name (And left (And right Nil))) h =
    let inner = total depth (bound (plain sort.Cube)) in
    λ i. At Product number name (And (changed_cube f inner left h.2.0 i) (And (changed_cube f inner right h.2.1.0 i) Nil))
changed_cube f depth (At Product number name (And left (And right (And t ts)))) h = absurd h.2.1.1
changed_cube f depth other h = absurd (let e = h.0 in cc)

-- what becomes of a variable
abbrev pub point_image : Changes → Depth → ℕ → Tree
point_image f depth index = changed_variable (f Points depth index) PointVariable [] Nil

abbrev pub term_image : Changes → Depth → ℕ → Tree
term_image f depth index = changed_variable (f Terms depth index) TermVariable [] Nil

-- a valuation of the new variables gives one of the old: each has the numbers of what it became
abbrev pub carried : Changes → Depth → Scope → Valuation → Valuation
carried f depth to valuation =
    record { last = valuation.last; values = λ index. value (binders_in to) valuation (point_image f depth index) }

-- each point variable becomes a point of its cube
abbrev pub PointsGo : Changes → Depth → Scope → Scope → Type 0
PointsGo f depth from to =
    (index : ℕ) (cube : Tree) → slice_get from.cubes index ≡ Some cube → cube_of (binders_in to) (point_image f depth index) ≡ Some cube

named_cube : (binders : Binders) (change : Change) (name : List ℕ)
    → cube_of binders (changed_variable change PointVariable name Nil) ≡ cube_of binders (changed_variable change PointVariable [] Nil)
named_cube binders (Renumbered number) name = refl
named_cube binders (Replaced t) name = refl

named_value : (binders : Binders) (valuation : Valuation) (change : Change) (name : List ℕ)
    → value binders valuation (changed_variable change PointVariable name Nil) ≡ value binders valuation (changed_variable change PointVariable [] Nil)
named_value binders valuation (Renumbered number) name = refl
named_value binders valuation (Replaced t) name = refl

module _ (f : Changes) (depth : Depth) (from to : Scope) (points : PointsGo f depth from to) where
  abbrev old : Binders
  old = binders_in from

  abbrev new : Binders
  new = binders_in to

  pub record PointGoes (point moved cube : Tree) : Type 0 where
    pub cube_is : cube_of new moved ≡ Some cube
    pub number : (valuation : Valuation) → value new valuation moved ≡ value old (carried f depth to valuation) point

  abbrev kid_of : (t : Tree) → changed f depth t ≡ changed f (total depth (bound (plain sort.Point))) t
  kid_of t = sym (plain_kid f depth sort.Point t)

  pub moved_point : (point cube : Tree) → cube_of old point ≡ Some cube → PointGoes point (changed f depth point) cube
  moved_point (At PointVariable index name Nil) cube e = record {
    cube_is = named_cube new (f Points depth index) name ∙ points index cube e;
    number = λ valuation. named_value new valuation (f Points depth index) name;
  }
  moved_point (At OnlyPoint number name Nil) cube e = record { cube_is = e; number = λ valuation. refl }
  moved_point (At Zero number name Nil) cube e = record { cube_is = e; number = λ valuation. refl }
  moved_point (At One number name Nil) cube e = record { cube_is = e; number = λ valuation. refl }
  moved_point (At PointPair number name (And s (And u Nil))) cube e =
      let left = then_some (λ a. option_and_then (λ b. Some (product a b)) (cube_of old u)) (cube_of old s) cube e in
      let right = then_some (λ b. Some (product left.0 b)) (cube_of old u) cube left.2 in
      let first = moved_point s left.0 left.1 in
      let second = moved_point u right.0 right.1 in
      let point : Tree = At PointPair number name (And s (And u Nil)) in
      let both : cube_of new (At PointPair number name (And (changed f depth s) (And (changed f depth u) Nil))) ≡ Some (product left.0 right.0) =
      λ i. option_and_then (λ a. option_and_then (λ b. Some (product a b)) (second.cube_is i)) (first.cube_is i) in
      let whole : PointGoes point (At PointPair number name (And (changed f depth s) (And (changed f depth u) Nil))) cube = record {
        cube_is = both ∙ right.2;
        number = λ valuation i. first.number valuation i ++ second.number valuation i;
      } in
      subst (λ t. PointGoes point t cube) (λ i. At PointPair number name (And (kid_of s i) (And (kid_of u i) Nil))) whole
  moved_point (At PointLeft number name (And s Nil)) cube e =
      let operand = then_some left_part (cube_of old s) cube e in
      let part = moved_point s operand.0 operand.1 in
      let point : Tree = At PointLeft number name (And s Nil) in
      let cubes : cube_of new (changed f depth s) ≡ cube_of old s = part.cube_is ∙ sym operand.1 in
      let whole : PointGoes point (At PointLeft number name (And (changed f depth s) Nil)) cube = record {
        cube_is = ap (option_and_then left_part) part.cube_is ∙ operand.2;
        number = λ valuation i. take (left_width (cubes i)) (part.number valuation i);
      } in
      subst (λ t. PointGoes point t cube) (λ i. At PointLeft number name (And (kid_of s i) Nil)) whole
  moved_point (At PointRight number name (And s Nil)) cube e =
      let operand = then_some right_part (cube_of old s) cube e in
      let part = moved_point s operand.0 operand.1 in
      let point : Tree = At PointRight number name (And s Nil) in
      let cubes : cube_of new (changed f depth s) ≡ cube_of old s = part.cube_is ∙ sym operand.1 in
      let whole : PointGoes point (At PointRight number name (And (changed f depth s) Nil)) cube = record {
        cube_is = ap (option_and_then right_part) part.cube_is ∙ operand.2;
        number = λ valuation i. drop (left_width (cubes i)) (part.number valuation i);
      } in
      subst (λ t. PointGoes point t cube) (λ i. At PointRight number name (And (kid_of s i) Nil)) whole
  moved_point other cube e = absurd cc

  module _ (cubes : AreCubes from.cubes) where
    pub record TopeGoes (tope moved : Tree) : Type 0 where
      pub over : IsTopeOver new moved
      pub truth : (valuation : Valuation) → is_true new valuation moved ≡ is_true old (carried f depth to valuation) tope

    abbrev tope_kid : (t : Tree) → changed f depth t ≡ changed f (total depth (bound (plain sort.Tope))) t
    tope_kid t = sym (plain_kid f depth sort.Tope t)

    -- a tope over the old place is one over the new, and is true where it was
    pub moved_tope : (tope : Tree) → IsTopeOver old tope → TopeGoes tope (changed f depth tope)
    moved_tope (At Top number name Nil) over = record { over = tt; truth = λ valuation. refl }
    moved_tope (At Bottom number name Nil) over = record { over = tt; truth = λ valuation. refl }
    moved_tope (At Conjunction number name (And p (And q Nil))) over =
        let left = moved_tope p over.0 in
        let right = moved_tope q over.1 in
        let tope : Tree = At Conjunction number name (And p (And q Nil)) in
        let whole : TopeGoes tope (At Conjunction number name (And (changed f depth p) (And (changed f depth q) Nil))) = record {
          over = (left.over, right.over);
          truth = λ valuation i. left.truth valuation i && right.truth valuation i;
        } in
        subst (TopeGoes tope) (λ i. At Conjunction number name (And (tope_kid p i) (And (tope_kid q i) Nil))) whole
    moved_tope (At Disjunction number name (And p (And q Nil))) over =
        let left = moved_tope p over.0 in
        let right = moved_tope q over.1 in
        let tope : Tree = At Disjunction number name (And p (And q Nil)) in
        let whole : TopeGoes tope (At Disjunction number name (And (changed f depth p) (And (changed f depth q) Nil))) = record {
          over = (left.over, right.over);
          truth = λ valuation i. left.truth valuation i || right.truth valuation i;
        } in
        subst (TopeGoes tope) (λ i. At Disjunction number name (And (tope_kid p i) (And (tope_kid q i) Nil))) whole
    moved_tope (At EqualPoints number name (And cube (And s (And u Nil)))) over =
        let left = moved_point s cube over.0 in
        let right = moved_point u cube over.1 in
        let tope : Tree = At EqualPoints number name (And cube (And s (And u Nil))) in
        let inner = total depth (bound (plain sort.Cube)) in
        let same : cube ≡ changed f inner cube = sym (changed_cube f inner cube (cube_of_is from.cubes cubes s cube over.0)) in
        let whole : TopeGoes tope (At EqualPoints number name (And cube (And (changed f depth s) (And (changed f depth u) Nil)))) = record {
          over = (left.cube_is, right.cube_is);
          truth = λ valuation i. pointwise nat_eq (left.number valuation i) (right.number valuation i);
        } in
        subst (TopeGoes tope) (λ i. At EqualPoints number name (And (same i) (And (kid_of s i) (And (kid_of u i) Nil)))) whole
    moved_tope (At AtMost number name (And s (And u Nil))) over =
        let left = moved_point s cube_two over.0 in
        let right = moved_point u cube_two over.1 in
        let tope : Tree = At AtMost number name (And s (And u Nil)) in
        let whole : TopeGoes tope (At AtMost number name (And (changed f depth s) (And (changed f depth u) Nil))) = record {
          over = (left.cube_is, right.cube_is);
          truth = λ valuation i. nat_le (slice_index (left.number valuation i) 0) (slice_index (right.number valuation i) 0);
        } in
        subst (TopeGoes tope) (λ i. At AtMost number name (And (kid_of s i) (And (kid_of u i) Nil))) whole
    moved_tope other over = absurd over

-- A change of place: variables become points of their cubes and good terms, and a valuation that the new place allows
-- gives one that the old allows.
pub record Carries (f : Changes) (depth : Depth) (from to : Place) : Type 0 where
  pub from_cubes : AreCubes from.scope.cubes
  pub to_cubes : AreCubes to.scope.cubes
  pub points : PointsGo f depth from.scope to.scope
  pub terms : (index : ℕ) → index < from.scope.terms → IsGood to (term_image f depth index)
  pub back : (valuation : Valuation) → IsAllowed to valuation → IsTrue (from.allows (carried f depth to.scope valuation))

-- then it is one of the old place's variables
pub carried_allowed : (f : Changes) (depth : Depth) (from to : Place) → Carries f depth from to
    → (valuation : Valuation) → IsAllowed to valuation → IsAllowed from (carried f depth to.scope valuation)
carried_allowed f depth from to c valuation allowed = record {
  fits = record {
    ends_differ = allowed.fits.ends_differ;
    each = λ index cube e. value_fits to.scope.cubes valuation allowed.fits (point_image f depth index) cube (c.points index cube e);
  };
  allowed = c.back valuation allowed;
}

-- what becomes of a variable further in, past one variable more of a space
abbrev pub lifted : Space → Space → Change → Change
lifted opened space (Renumbered number) = Renumbered (if same_space opened space then suc number else number)
lifted opened space (Replaced t) = Replaced (weakened (only opened 1) t)

-- changes that do further in what they do further out
pub record IsUniform (f : Changes) : Type 0 where
  pub first : (opened : Space) (depth : Depth) → f opened (total depth (only opened 1)) 0 ≡ Renumbered 0
  pub next : (opened : Space) (depth : Depth) (index : ℕ) → f opened (total depth (only opened 1)) (suc index) ≡ lifted opened opened (f opened depth index)
  pub other : (opened space : Space) (depth : Depth) (index : ℕ) → same_space opened space ≡ false
      → f space (total depth (only opened 1)) index ≡ lifted opened space (f space depth index)

-- a term that is good further in, wherever it is good
pub record StaysGood (t : Tree) : Type 0 where
  pub under_cube : (place : Place) (cube : Tree) → AreCubes place.scope.cubes → IsTree sort.Cube cube
      → IsGood place t → IsGood (with_cube cube place) (weakened (only Points 1) t)
  pub under_term : (place : Place) → AreCubes place.scope.cubes → IsGood place t → IsGood (with_term place) (weakened (only Terms 1) t)
  pub under_tope : (place : Place) (tope : Tree) → AreCubes place.scope.cubes → IsGood place t → IsGood (with_tope tope place) t

pub raised_one : (index : ℕ) → raised (0 + 0) 1 index ≡ suc index
raised_one index = grind (arith, nat_tests)

pub outside_allowed : (place : Place) (cube : Tree) (valuation : Valuation) → IsAllowed (with_cube cube place) valuation → IsAllowed place (outside valuation)
outside_allowed place cube valuation h = record {
  fits = record { ends_differ = h.fits.ends_differ; each = λ index. h.fits.each (suc index) };
  allowed = h.allowed;
}

-- what becomes of a point variable, past one variable more
module _ (to : Scope) (cube : Tree) where
  pub deep_cube : (change : Change)
      → cube_of (binders_in (scope.with_cube cube to)) (changed_variable (lifted Points Points change) PointVariable [] Nil)
      ≡ cube_of (binders_in to) (changed_variable change PointVariable [] Nil)
  deep_cube (Renumbered number) = refl
  deep_cube (Replaced t) =
      (weakened_point (only Points 1) to.cubes (cube ∷ to.cubes) (λ index. ap (slice_get (cube ∷ to.cubes)) (raised_one index)) t).cube

  pub deep_value : (valuation : Valuation) (change : Change)
      → value (binders_in (scope.with_cube cube to)) valuation (changed_variable (lifted Points Points change) PointVariable [] Nil)
      ≡ value (binders_in to) (outside valuation) (changed_variable change PointVariable [] Nil)
  deep_value valuation (Renumbered number) = refl
  deep_value valuation (Replaced t) =
      (weakened_point (only Points 1) to.cubes (cube ∷ to.cubes) (λ index. ap (slice_get (cube ∷ to.cubes)) (raised_one index)) t).number valuation
      ∙ (λ i. value (binders_in to) (record { last = valuation.last; values = λ index. valuation.values (raised_one index i) }) t)

  pub same_cube : (change : Change)
      → cube_of (binders_in to) (changed_variable (lifted Terms Points change) PointVariable [] Nil)
      ≡ cube_of (binders_in to) (changed_variable change PointVariable [] Nil)
  same_cube (Renumbered number) = refl
  same_cube (Replaced t) =
      (weakened_point (only Terms 1) to.cubes to.cubes (λ index. ap (slice_get to.cubes) (raised_by_none (0 + 0) index)) t).cube

  pub same_value : (valuation : Valuation) (change : Change)
      → value (binders_in to) valuation (changed_variable (lifted Terms Points change) PointVariable [] Nil)
      ≡ value (binders_in to) valuation (changed_variable change PointVariable [] Nil)
  same_value valuation (Renumbered number) = refl
  same_value valuation (Replaced t) =
      (weakened_point (only Terms 1) to.cubes to.cubes (λ index. ap (slice_get to.cubes) (raised_by_none (0 + 0) index)) t).number valuation
      ∙ (λ i. value (binders_in to) (record { last = valuation.last; values = λ index. valuation.values (raised_by_none (0 + 0) index i) }) t)

module _ (f : Changes) (uniform : IsUniform f) where
  -- under one point variable more, a valuation carried back is the value of that variable and the rest carried back
  pub outside_carried : (depth : Depth) (to : Scope) (cube : Tree) (valuation : Valuation)
      → outside (carried f (total depth (only Points 1)) (scope.with_cube cube to) valuation) ≡ carried f depth to (outside valuation)
  outside_carried depth to cube valuation = λ i. record { last = valuation.last; values = λ index. at index i } where
    at : (index : ℕ) → value (binders_in (scope.with_cube cube to)) valuation (point_image f (total depth (only Points 1)) (suc index))
        ≡ value (binders_in to) (outside valuation) (point_image f depth index)
    at index =
        ap (λ (c : Change). value (binders_in (scope.with_cube cube to)) valuation (changed_variable c PointVariable [] Nil)) (uniform.next Points depth index)
        ∙ deep_value to cube valuation (f Points depth index)

  pub with_value_carried : (depth : Depth) (to : Scope) (cube : Tree) (numbers : List ℕ) (valuation : Valuation)
      → carried f (total depth (only Points 1)) (scope.with_cube cube to) (with_value numbers valuation) ≡ with_value numbers (carried f depth to valuation)
  with_value_carried depth to cube numbers valuation = λ i. record { last = valuation.last; values = λ index. at index i } where
    at : (index : ℕ) → value (binders_in (scope.with_cube cube to)) (with_value numbers valuation) (point_image f (total depth (only Points 1)) index)
        ≡ (with_value numbers (carried f depth to valuation)).values index
    at zero =
        ap (λ (c : Change). value (binders_in (scope.with_cube cube to)) (with_value numbers valuation) (changed_variable c PointVariable [] Nil)) (uniform.first Points depth)
    at (suc index) =
        ap (λ (c : Change). value (binders_in (scope.with_cube cube to)) (with_value numbers valuation) (changed_variable c PointVariable [] Nil)) (uniform.next Points depth index)
        ∙ deep_value to cube (with_value numbers valuation) (f Points depth index)

  same_carried : (depth : Depth) (to : Scope) (valuation : Valuation)
      → carried f (total depth (only Terms 1)) to valuation ≡ carried f depth to valuation
  same_carried depth to valuation = λ i. record { last = valuation.last; values = λ index. at index i } where
    at : (index : ℕ) → value (binders_in to) valuation (point_image f (total depth (only Terms 1)) index) ≡ value (binders_in to) valuation (point_image f depth index)
    at index =
        ap (λ (c : Change). value (binders_in to) valuation (changed_variable c PointVariable [] Nil)) (uniform.other Terms Points depth index refl)
        ∙ same_value to (At CubeOne 0 [] Nil) valuation (f Points depth index)

  module _ (stays : (depth : Depth) (index : ℕ) (t : Tree) → f Terms depth index ≡ Replaced t → StaysGood t) where
    module _ (depth : Depth) (from to : Place) (c : Carries f depth from to) where
      -- a change of place under one cube variable more,
      pub lift_cube : (cube : Tree) → IsTree sort.Cube cube → Carries f (total depth (only Points 1)) (with_cube cube from) (with_cube cube to)
      lift_cube cube is = record {
        from_cubes = AreCubes-front cube from.scope.cubes is c.from_cubes;
        to_cubes = AreCubes-front cube to.scope.cubes is c.to_cubes;
        points = points;
        terms = λ index lt. subst (λ (change : Change). IsGood (with_cube cube to) (changed_variable change TermVariable [] Nil))
            (sym (uniform.other Points Terms depth index refl)) (image (f Terms depth index) index refl (c.terms index lt));
        back = λ valuation h. subst (λ w. IsTrue (from.allows w)) (sym (outside_carried depth to.scope cube valuation))
            (c.back (outside valuation) (outside_allowed to cube valuation h));
      } where
        points : PointsGo f (total depth (only Points 1)) (scope.with_cube cube from.scope) (scope.with_cube cube to.scope)
        points zero other e =
            ap (λ (change : Change). cube_of (binders_in (scope.with_cube cube to.scope)) (changed_variable change PointVariable [] Nil)) (uniform.first Points depth) ∙ e
        points (suc index) other e =
            ap (λ (change : Change). cube_of (binders_in (scope.with_cube cube to.scope)) (changed_variable change PointVariable [] Nil)) (uniform.next Points depth index)
            ∙ deep_cube to.scope cube (f Points depth index) ∙ c.points index other e

        image : (change : Change) (index : ℕ) → f Terms depth index ≡ change → IsGood to (changed_variable change TermVariable [] Nil)
            → IsGood (with_cube cube to) (changed_variable (lifted Points Terms change) TermVariable [] Nil)
        image (Renumbered number) index e h = h
        image (Replaced t) index e h = (stays depth index t e).under_cube to cube c.to_cubes is h

      -- under one term variable more,
      pub lift_term : Carries f (total depth (only Terms 1)) (with_term from) (with_term to)
      lift_term = record {
        from_cubes = c.from_cubes;
        to_cubes = c.to_cubes;
        points = λ index cube e.
            ap (λ (change : Change). cube_of (binders_in to.scope) (changed_variable change PointVariable [] Nil)) (uniform.other Terms Points depth index refl)
            ∙ same_cube to.scope cube (f Points depth index) ∙ c.points index cube e;
        terms = terms;
        back = λ valuation h. subst (λ w. IsTrue (from.allows w)) (sym (same_carried depth to.scope valuation)) (c.back valuation (record { fits = h.fits; allowed = h.allowed }));
      } where
        image : (change : Change) (index : ℕ) → f Terms depth index ≡ change → IsGood to (changed_variable change TermVariable [] Nil)
            → IsGood (with_term to) (changed_variable (lifted Terms Terms change) TermVariable [] Nil)
        image (Renumbered number) index e h = (omega (arith, h.0), tt, tt)
        image (Replaced t) index e h = (stays depth index t e).under_term to c.to_cubes h

        terms : (index : ℕ) → index < suc from.scope.terms → IsGood (with_term to) (term_image f (total depth (only Terms 1)) index)
        terms zero lt =
            subst (λ (change : Change). IsGood (with_term to) (changed_variable change TermVariable [] Nil)) (sym (uniform.first Terms depth)) (omega arith, tt, tt)
        terms (suc index) lt =
            subst (λ (change : Change). IsGood (with_term to) (changed_variable change TermVariable [] Nil)) (sym (uniform.next Terms depth index))
            (image (f Terms depth index) index refl (c.terms index (omega (arith, lt))))

      -- and where one tope more is true
      pub lift_tope : (tope : Tree) → IsTopeOver (binders_in from.scope) tope → Carries f depth (with_tope tope from) (with_tope (changed f depth tope) to)
      lift_tope tope over = record {
        from_cubes = c.from_cubes;
        to_cubes = c.to_cubes;
        points = c.points;
        terms = λ index lt. image (f Terms depth index) index refl (c.terms index lt);
        back = back;
      } where
        image : (change : Change) (index : ℕ) → f Terms depth index ≡ change → IsGood to (changed_variable change TermVariable [] Nil)
            → IsGood (with_tope (changed f depth tope) to) (changed_variable change TermVariable [] Nil)
        image (Renumbered number) index e h = h
        image (Replaced t) index e h = (stays depth index t e).under_tope to (changed f depth tope) c.to_cubes h

        back : (valuation : Valuation) → IsAllowed (with_tope (changed f depth tope) to) valuation
            → IsTrue (from.allows (carried f depth to.scope valuation) && is_true (binders_in from.scope) (carried f depth to.scope valuation) tope)
        back valuation h =
            let there = first_so (to.allows valuation) (is_true (binders_in to.scope) valuation (changed f depth tope)) h.allowed in
            let here = second_so (to.allows valuation) (is_true (binders_in to.scope) valuation (changed f depth tope)) h.allowed in
            let old = c.back valuation (record { fits = h.fits; allowed = there }) in
            let truth = (moved_tope f depth from.scope to.scope c.points c.from_cubes tope over).truth valuation in
            both_so (from.allows (carried f depth to.scope valuation)) (is_true (binders_in from.scope) (carried f depth to.scope valuation) tope) old (sym truth ∙ here)
