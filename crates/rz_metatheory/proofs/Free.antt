-- What is well scoped has no variable from outside of its scope.
use Rattle.std.proofs.Common.{◌≡◌, ℕ, zero, suc, ◌+◌, ◌<◌, ◌≤◌, List, [], ◌∷◌, length, map, Option, Some, None, Bool, true, false, true≢false, IsTrue, ◌&&◌, refl, sym, arith}
use Rattle.std.specs.Prelude.{slice_get, option_and_then, ◌==◌, nat_le}
use Rattle.std.specs.List.{list_all}
use Rattle.std.specs.Cmp.{first_so, second_so}
use Rattle.std.proofs.lemmas.Bool.Decides.{nat_tests}
use Rattle.rz_rules.specs.declared.kinds.Sort.{Sort}
use Rattle.rz_rules.specs.declared.kinds.Sort.TheVariants as sort
use Rattle.rz_rules.specs.declared.kinds.Space.{Space}
use Rattle.rz_rules.specs.declared.kinds.Space.TheVariants.{Points, Terms}
use Rattle.rz_rules.specs.declared.kinds.Slot.{Slot}
use Rattle.rz_rules.specs.declared.kinds.Kind.{Kind}
use Rattle.rz_rules.specs.declared.kinds.Kind.TheVariants.{CubeOne, CubeTwo, Product, PointVariable, OnlyPoint, Zero, One, PointPair, PointLeft, PointRight, Top, Bottom, Conjunction, Disjunction, EqualPoints, AtMost, TermVariable, Constant, Postulate, Extension, ExtensionLambda, ExtensionApplication, RecOr, CubeEntry, TopeEntry, TermEntry}
use Rattle.rz_rules.specs.Form.{form, bound, plain, under_point}
use Rattle.rz_rules.specs.declared.kinds.Role.TheVariants.{Former}
use Rattle.rz_rules.specs.Tree.{Tree, Trees, At, Nil, And, IsTree}
use Rattle.rz_rules.specs.Substitution.{same_space, first_slot, other_slots, NoneFrom, NoneInKids}
use Rattle.rz_rules.specs.Cube.{Binders, cube_two, product, left_part, right_part}
use Rattle.rz_rules.specs.Tope.{cube_of, IsTopeOver}
use Rattle.rz_metatheory.specs.Scope.{Scope, count_in, with_cube, with_terms, binders_in, kid, IsShape, IsNodeOver, scope_in_sort, scope_in_slot, scopes_of_kids, IsWellScoped, AreWellScoped}
use Rattle.rz_metatheory.specs.Place.{place_of}
use Rattle.rz_metatheory.specs.Scope.{scope_of}
use Rattle.rz_metatheory.specs.Good.{IsGood, IsGoodContext}
use Rattle.rz_metatheory.proofs.Entries.{context_cubes}
use Rattle.rz_metatheory.proofs.Scoping.{good_scoped}
use Rattle.rz_metatheory.proofs.Values.{then_some, AreCubes, AreCubes-front, cube_of_is}

within : {X : Type 0} (list : List X) (index : ℕ) (x : X) → slice_get list index ≡ Some x → index < length list
within [] index x e = absurd cc
within (y ∷ list) zero x e = omega arith
within (y ∷ list) (suc index) x e = let rest = within list index x e in omega (arith, rest)

cube_free : (space : Space) (limit : ℕ) (t : Tree) → IsTree sort.Cube t → NoneFrom space limit t
cube_free space limit (At CubeOne number name Nil) h = tt
cube_free space limit (At CubeOne number name (And t ts)) h = absurd h.2
cube_free space limit (At CubeTwo number name Nil) h = tt
cube_free space limit (At CubeTwo number name (And t ts)) h = absurd h.2
cube_free space limit (At Product number name Nil) h = absurd h.2
cube_free space limit (At Product number name (And left Nil)) h = absurd h.2.1
cube_free space limit (At Product number name (And left (And right Nil))) h =
    let inner = limit + bound (plain sort.Cube) space in
    (cube_free space inner left h.2.0, (cube_free space inner right h.2.1.0, tt))
cube_free space limit (At Product number name (And left (And right (And t ts)))) h = absurd h.2.1.1
cube_free space limit other h = absurd (let e = h.0 in cc)

module _ (binders : Binders) (cubes : AreCubes binders.cubes) (space : Space) where
  -- a limit above all point variables, where the space is that of points
  abbrev IsAbove : ℕ → Type 0
  IsAbove limit = IsTrue (same_space space Points) → length binders.cubes ≤ limit

  above_kid : (limit : ℕ) (sort : Sort) → IsAbove limit → IsAbove (limit + bound (plain sort) space)
  above_kid limit sort above is = let low = above is in omega (arith, low)

  point_free : (limit : ℕ) → IsAbove limit → (point cube : Tree) → cube_of binders point ≡ Some cube → NoneFrom space limit point
  point_free limit above (At PointVariable index name Nil) cube e = ((λ is. omega (arith, above is, within binders.cubes index cube e)), tt)
  point_free limit above (At OnlyPoint number name Nil) cube e = tt
  point_free limit above (At Zero number name Nil) cube e = tt
  point_free limit above (At One number name Nil) cube e = tt
  point_free limit above (At PointPair number name (And s (And u Nil))) cube e =
      let left = then_some (λ a. option_and_then (λ b. Some (product a b)) (cube_of binders u)) (cube_of binders s) cube e in
      let right = then_some (λ b. Some (product left.0 b)) (cube_of binders u) cube left.2 in
      let inner = limit + bound (plain sort.Point) space in
      let deep = above_kid limit sort.Point above in
      (point_free inner deep s left.0 left.1, (point_free inner deep u right.0 right.1, tt))
  point_free limit above (At PointLeft number name (And s Nil)) cube e =
      let operand = then_some left_part (cube_of binders s) cube e in
      (point_free (limit + bound (plain sort.Point) space) (above_kid limit sort.Point above) s operand.0 operand.1, tt)
  point_free limit above (At PointRight number name (And s Nil)) cube e =
      let operand = then_some right_part (cube_of binders s) cube e in
      (point_free (limit + bound (plain sort.Point) space) (above_kid limit sort.Point above) s operand.0 operand.1, tt)
  point_free limit above other cube e = absurd cc

  tope_free : (limit : ℕ) → IsAbove limit → (tope : Tree) → IsTopeOver binders tope → NoneFrom space limit tope
  tope_free limit above (At Top number name Nil) over = tt
  tope_free limit above (At Bottom number name Nil) over = tt
  tope_free limit above (At Conjunction number name (And p (And q Nil))) over =
      let inner = limit + bound (plain sort.Tope) space in
      let deep = above_kid limit sort.Tope above in
      (tope_free inner deep p over.0, (tope_free inner deep q over.1, tt))
  tope_free limit above (At Disjunction number name (And p (And q Nil))) over =
      let inner = limit + bound (plain sort.Tope) space in
      let deep = above_kid limit sort.Tope above in
      (tope_free inner deep p over.0, (tope_free inner deep q over.1, tt))
  tope_free limit above (At EqualPoints number name (And cube (And s (And u Nil)))) over =
      let inner = limit + bound (plain sort.Point) space in
      let deep = above_kid limit sort.Point above in (
        cube_free space (limit + bound (plain sort.Cube) space) cube (cube_of_is binders.cubes cubes s cube over.0),
        (point_free inner deep s cube over.0, (point_free inner deep u cube over.1, tt)),
      )
  tope_free limit above (At AtMost number name (And s (And u Nil))) over =
      let inner = limit + bound (plain sort.Point) space in
      let deep = above_kid limit sort.Point above in
      (point_free inner deep s cube_two over.0, (point_free inner deep u cube_two over.1, tt))
  tope_free limit above other over = absurd over

-- what is known of the kids of a node: those that are no terms have no such variable, and the others are over a scope
abbrev KidsFit : Space → ℕ → List Slot → List (Option Scope) → (ℕ → Tree) → Type 0
KidsFit space limit slots [] at = Unit {0}
KidsFit space limit slots (None ∷ scopes) at =
    NoneFrom space (limit + bound (first_slot slots) space) (at 0) × KidsFit space limit (other_slots slots) scopes (λ i. at (suc i))
KidsFit space limit slots (Some scope ∷ scopes) at =
    (count_in scope space ≤ limit + bound (first_slot slots) space) × AreCubes scope.cubes × KidsFit space limit (other_slots slots) scopes (λ i. at (suc i))

-- a slot of a term, with at most one variable
abbrev is_term_sort : Sort → Bool
is_term_sort sort.Term = true
is_term_sort other = false

abbrev is_term_slot : Slot → Bool
is_term_slot slot = is_term_sort slot.sort && ((slot.points == 0) && nat_le slot.terms 1)

module _ (scope : Scope) (cubes : AreCubes scope.cubes) (space : Space) (limit : ℕ) (low : count_in scope space ≤ limit) where
  in_term : (slot_points : ℕ) → count_in (with_terms 1 scope) space ≤ limit + bound (record { sort = sort.Term; points = slot_points; terms = 1 }) space
  in_term points = by space low where
    by : (space : Space) → count_in scope space ≤ limit → count_in (with_terms 1 scope) space ≤ limit + bound (record { sort = sort.Term; points = points; terms = 1 }) space
    by Points low = omega (arith, low)
    by Terms low = omega (arith, low)

  in_cube : (cube : Tree) → count_in (with_cube cube scope) space ≤ limit + bound (record { sort = sort.Term; points = 1; terms = 0 }) space
  in_cube cube = by space low where
    by : (space : Space) → count_in scope space ≤ limit → count_in (with_cube cube scope) space ≤ limit + bound (record { sort = sort.Term; points = 1; terms = 0 }) space
    by Points low = omega (arith, low)
    by Terms low = omega (arith, low)

  above_here : (more : ℕ) → IsAbove (binders_in scope) cubes space (limit + more)
  above_here more = by space low where
    by : (space : Space) → count_in scope space ≤ limit → IsTrue (same_space space Points) → length scope.cubes ≤ limit + more
    by Points low is = omega (arith, low)
    by Terms low is = absurd (true≢false (sym is))

  above_cube : (cube : Tree) (is : IsTree sort.Cube cube) (sort : Sort)
      → IsAbove (binders_in (with_cube cube scope)) (AreCubes-front cube scope.cubes is cubes) space (limit + bound (record { sort = sort; points = 1; terms = 0 }) space)
  above_cube cube is sort = by space low where
    by : (space : Space) → count_in scope space ≤ limit → IsTrue (same_space space Points) → suc (length scope.cubes) ≤ limit + bound (record { sort = sort; points = 1; terms = 0 }) space
    by Points low is = omega (arith, low)
    by Terms low is = absurd (true≢false (sym is))

  slot_fits : (sort : Sort) (points terms : ℕ) → (is_term_sort sort && ((points == 0) && nat_le terms 1)) ≡ true
      → (rest : List Slot) (scopes : List (Option Scope)) (at : ℕ → Tree) → KidsFit space limit rest scopes (λ i. at (suc i))
      → KidsFit space limit (record { sort = sort; points = points; terms = terms } ∷ rest) (scope_in_sort scope terms sort ∷ scopes) at
  slot_fits sort.Term points zero simple rest scopes at others = (omega (arith, low), cubes, others)
  slot_fits sort.Term points (suc zero) simple rest scopes at others = (in_term points, cubes, others)
  slot_fits sort.Term points (suc (suc terms)) simple rest scopes at others = absurd (grind (arith, nat_tests))
  slot_fits other points terms simple rest scopes at others = absurd (true≢false (sym simple))

  slots_fit : (slots : List Slot) (at : ℕ → Tree) → list_all is_term_slot slots ≡ true → KidsFit space limit slots (map (scope_in_slot scope) slots) at
  slots_fit [] at simple = tt
  slots_fit (slot ∷ slots) at simple =
      slot_fits slot.sort slot.points slot.terms (first_so (is_term_slot slot) (list_all is_term_slot slots) simple) slots (map (scope_in_slot scope) slots) at
      (slots_fit slots (λ i. at (suc i)) (second_so (is_term_slot slot) (list_all is_term_slot slots) simple))

  -- the parts of a shape
  module _ (cube tope face : Tree) (shape : IsShape scope cube tope face) where
    shape_cubes : AreCubes (with_cube cube scope).cubes
    shape_cubes = AreCubes-front cube scope.cubes shape.cube_is.tree cubes

    shape_tope : NoneFrom space (limit + bound (record { sort = sort.Tope; points = 1; terms = 0 }) space) tope
    shape_tope =
        tope_free (binders_in (with_cube cube scope)) shape_cubes space (limit + bound (record { sort = sort.Tope; points = 1; terms = 0 }) space)
        (above_cube cube shape.cube_is.tree sort.Tope) tope shape.tope_is

    shape_face : NoneFrom space (limit + bound (record { sort = sort.Tope; points = 1; terms = 0 }) space) face
    shape_face =
        tope_free (binders_in (with_cube cube scope)) shape_cubes space (limit + bound (record { sort = sort.Tope; points = 1; terms = 0 }) space)
        (above_cube cube shape.cube_is.tree sort.Tope) face shape.face_is

    shape_cube : NoneFrom space (limit + bound (plain sort.Cube) space) cube
    shape_cube = cube_free space (limit + bound (plain sort.Cube) space) cube shape.cube_is.tree

  plain_tope : (tope : Tree) → IsTopeOver (binders_in scope) tope → NoneFrom space (limit + bound (plain sort.Tope) space) tope
  plain_tope tope over = tope_free (binders_in scope) cubes space (limit + bound (plain sort.Tope) space) (above_here (bound (plain sort.Tope) space)) tope over

  plain_term : count_in scope space ≤ limit + bound (plain sort.Term) space
  plain_term = omega (arith, low)

  kind_fits : (kind : Kind) (number : ℕ) (kids : Trees) → (form kind).role ≡ Former
      → IsNodeOver scope kind number kids → KidsFit space limit (form kind).kids (scopes_of_kids scope kind kids) (kid kids)
  kind_fits Constant number kids role h = absurd (let e = role in cc)
  kind_fits Postulate number kids role h = absurd (let e = role in cc)
  kind_fits Product number kids role h = absurd (let e = h in cc)
  kind_fits PointPair number kids role h = absurd (let e = h in cc)
  kind_fits PointLeft number kids role h = absurd (let e = h in cc)
  kind_fits PointRight number kids role h = absurd (let e = h in cc)
  kind_fits Conjunction number kids role h = absurd (let e = h in cc)
  kind_fits Disjunction number kids role h = absurd (let e = h in cc)
  kind_fits EqualPoints number kids role h = absurd (let e = h in cc)
  kind_fits AtMost number kids role h = absurd (let e = h in cc)
  kind_fits CubeEntry number kids role h = absurd (let e = h in cc)
  kind_fits TopeEntry number kids role h = absurd (let e = h in cc)
  kind_fits TermEntry number kids role h = absurd (let e = h in cc)
  kind_fits Extension number kids role h =
      let cube = kid kids 0 in
      let tope = kid kids 1 in
      let face = kid kids 3 in
      let on : (count_in (with_cube cube scope) space ≤ limit + bound (under_point sort.Term) space) = in_cube cube in
      let deep = shape_cubes cube tope face h in
      (shape_cube cube tope face h, (shape_tope cube tope face h, (on, deep, (shape_face cube tope face h, (on, deep, tt)))))
  kind_fits ExtensionLambda number kids role h =
      let cube = kid kids 0 in
      let tope = kid kids 1 in
      let face = kid kids 3 in
      let on : (count_in (with_cube cube scope) space ≤ limit + bound (under_point sort.Term) space) = in_cube cube in
      let deep = shape_cubes cube tope face h in
      (shape_cube cube tope face h, (shape_tope cube tope face h, (on, deep, (shape_face cube tope face h, (on, deep, (on, deep, tt))))))
  kind_fits ExtensionApplication number kids role h =
      let cube = kid kids 0 in
      let tope = kid kids 1 in
      let face = kid kids 3 in
      let on : (count_in (with_cube cube scope) space ≤ limit + bound (under_point sort.Term) space) = in_cube cube in
      let deep = shape_cubes cube tope face h.0 in
      let point = point_free (binders_in scope) cubes space (limit + bound (plain sort.Point) space) (above_here (bound (plain sort.Point) space)) (kid kids 6) cube h.1 in
      (shape_cube cube tope face h.0, (shape_tope cube tope face h.0, (on, deep, (shape_face cube tope face h.0, (on, deep, (plain_term, cubes, (point, tt)))))))
  kind_fits RecOr number kids role h =
      (plain_term, cubes, (plain_tope (kid kids 1) h.0, (plain_tope (kid kids 2) h.1, (plain_term, cubes, (plain_term, cubes, tt)))))
  kind_fits kind number kids role h = slots_fit (form kind).kids (kid kids) refl

variable_free : (space : Space) (scope : Scope) (limit : ℕ) → count_in scope space ≤ limit → (number : ℕ) → number < scope.terms
    → IsTrue (same_space space Terms) → number < limit
variable_free Points scope limit low number lt is = absurd (true≢false (sym is))
variable_free Terms scope limit low number lt is = omega (arith, low, lt)

mutual
  -- a term over a scope has no variable of a space from the number of those in scope on
  pub scoped_free : (space : Space) (scope : Scope) → AreCubes scope.cubes → (limit : ℕ) → count_in scope space ≤ limit
      → (t : Tree) → IsWellScoped scope t → NoneFrom space limit t
  scoped_free space scope cubes limit low (At PointVariable number name kids) h = absurd (let e = h.0 in cc)
  scoped_free space scope cubes limit low (At TermVariable number name Nil) h = (variable_free space scope limit low number h.0, tt)
  scoped_free space scope cubes limit low (At TermVariable number name (And t ts)) h = absurd h.1
  scoped_free space scope cubes limit low (At Constant number name kids) h = tt
  scoped_free space scope cubes limit low (At Postulate number name kids) h = tt
  scoped_free space scope cubes limit low (At kind number name kids) h =
      kids_free space limit (form kind).kids (scopes_of_kids scope kind kids) kids (kind_fits scope cubes space limit low kind number kids refl h.0) h.1

  kids_free : (space : Space) (limit : ℕ) (slots : List Slot) (scopes : List (Option Scope)) (kids : Trees)
      → KidsFit space limit slots scopes (kid kids) → AreWellScoped scopes kids → NoneInKids space limit slots kids
  kids_free space limit slots [] Nil fit h = tt
  kids_free space limit slots [] (And t ts) fit h = absurd h
  kids_free space limit slots (None ∷ scopes) Nil fit h = absurd h
  kids_free space limit slots (Some scope ∷ scopes) Nil fit h = absurd h
  kids_free space limit slots (None ∷ scopes) (And t ts) fit h = (fit.0, kids_free space limit (other_slots slots) scopes ts fit.1 h)
  kids_free space limit slots (Some scope ∷ scopes) (And t ts) fit h =
      (scoped_free space scope fit.1 (limit + bound (first_slot slots) space) fit.0 t h.0, kids_free space limit (other_slots slots) scopes ts fit.2 h.1)

-- so a derived term has none from outside of its context
pub good_free : (context term : Tree) → IsGoodContext context → IsGood (place_of context) term → (space : Space) → NoneFrom space (count_in (scope_of context) space) term
good_free context term good term_good space =
    scoped_free space (scope_of context) (context_cubes context good) (count_in (scope_of context) space) (omega arith) term (good_scoped (place_of context) term term_good)
