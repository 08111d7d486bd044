-- A change of place takes good terms to good terms.
use Rattle.std.proofs.Common.{◌≡◌, ℕ, zero, suc, List, [], ◌∷◌, Option, Some, None, map, true, Bool, ◌&&◌, refl, sym, ap, ◌∙◌, subst}
use Rattle.std.specs.Prelude.{◌||◌, ◌==◌, nat_le}
use Rattle.std.specs.List.{list_all}
use Rattle.std.specs.Cmp.{first_so, second_so}
use Rattle.rz_rules.specs.declared.kinds.Sort.{Sort}
use Rattle.rz_rules.specs.declared.kinds.Sort.TheVariants as sort
use Rattle.std.proofs.Common.{arith}
use Rattle.std.proofs.lemmas.Bool.Decides.{nat_tests}
use Rattle.rz_rules.specs.declared.kinds.Space.TheVariants.{Points, Terms}
use Rattle.rz_rules.specs.declared.kinds.Role.TheVariants.{Former}
use Rattle.rz_rules.specs.declared.kinds.Slot.{Slot}
use Rattle.rz_rules.specs.declared.kinds.Kind.{Kind}
use Rattle.rz_rules.specs.declared.kinds.Kind.TheVariants.{PointVariable, TermVariable, Constant, Postulate, Extension, ExtensionLambda, ExtensionApplication, RecOr, RecBottom}
use Rattle.rz_rules.specs.Form.{form, plain, under_point, under_term, bound}
use Rattle.rz_rules.specs.Tree.{Tree, Trees, At, Nil, And, IsTree}
use Rattle.rz_rules.specs.Substitution.{Depth, Change, Renumbered, Replaced, Changes, changed, changed_kids, changed_variable, first_slot, other_slots, only, total}
use Rattle.rz_rules.specs.Tope.{IsPointOf, IsTopeOver}
use Rattle.rz_metatheory.specs.Scope.{Scope, binders_in, kid, IsSmallCube, IsShape, IsNodeOver}
use Rattle.rz_metatheory.specs.Scope as scope
use Rattle.rz_metatheory.specs.Place.{Valuation, value, is_true, with_value, Place, with_cube, with_term, with_tope}
use Rattle.rz_metatheory.specs.Good.{IsTrueAt, IsCoveredBy, IsCovered, on_shape, on_face, place_in_sort, place_in_slot, places_of_kids, IsGood, AreGood}
use Rattle.rz_metatheory.proofs.Values.{plain_depth, plain_kid}
use Rattle.rz_metatheory.proofs.Places.{changed_cube, carried, Carries, carried_allowed, IsUniform, StaysGood, moved_point, moved_tope, with_value_carried, lift_cube, lift_term, lift_tope}

-- what a node binds at a place, as a depth
pub under_point_depth : (depth : Depth) (sort : Sort) → total depth (bound (under_point sort)) ≡ total depth (only Points 1)
under_point_depth depth sort = λ i space. at space i where
  at : (space : _) → total depth (bound (under_point sort)) space ≡ total depth (only Points 1) space
  at Points = refl
  at Terms = refl

pub under_term_depth : (depth : Depth) (sort : Sort) → total depth (bound (under_term sort)) ≡ total depth (only Terms 1)
under_term_depth depth sort = λ i space. at space i where
  at : (space : _) → total depth (bound (under_term sort)) space ≡ total depth (only Terms 1) space
  at Points = refl
  at Terms = refl

-- a kid of a changed node
abbrev slot_of : List Slot → ℕ → Slot
slot_of slots zero = first_slot slots
slot_of slots (suc place) = slot_of (other_slots slots) place

pub kid_changed : (f : Changes) (depth : Depth) (slots : List Slot) (kids : Trees) (place : ℕ)
    → kid (changed_kids f depth slots kids) place ≡ changed f (total depth (bound (slot_of slots place))) (kid kids place)
kid_changed f depth slots Nil zero = refl
kid_changed f depth slots Nil (suc place) = refl
kid_changed f depth slots (And t ts) zero = refl
kid_changed f depth slots (And t ts) (suc place) = kid_changed f depth (other_slots slots) ts place

-- a change of place at each kid that is a term
abbrev AllCarry : Changes → Depth → List Slot → List (Option Place) → List (Option Place) → Type 0
AllCarry f depth slots [] [] = Unit {0}
AllCarry f depth slots (None ∷ from) (None ∷ to) = AllCarry f depth (other_slots slots) from to
AllCarry f depth slots (Some from ∷ froms) (Some to ∷ tos) =
    Carries f (total depth (bound (first_slot slots))) from to × AllCarry f depth (other_slots slots) froms tos
AllCarry f depth slots from to = ⊥

pub carries_at : (f : Changes) (d e : Depth) (from to : Place) → d ≡ e → Carries f d from to → Carries f e from to
carries_at f d e from to p c = subst (λ (depth : Depth). Carries f depth from to) p c

-- no slot binds a point variable, and none more than one term variable
abbrev is_simple : Slot → Bool
is_simple slot = (slot.points == 0) && nat_le slot.terms 1

module _ (f : Changes) (uniform : IsUniform f) (stays : (depth : Depth) (index : ℕ) (t : Tree) → f Terms depth index ≡ Replaced t → StaysGood t) where
  module _ (depth : Depth) (from to : Place) (c : Carries f depth from to) where
    slot_carries : (sort : Sort) (points terms : ℕ) → ((points == 0) && nat_le terms 1) ≡ true
        → (rest : List Slot) (froms tos : List (Option Place)) → AllCarry f depth rest froms tos
        → AllCarry f depth (record { sort = sort; points = points; terms = terms } ∷ rest) (place_in_sort from terms sort ∷ froms) (place_in_sort to terms sort ∷ tos)
    slot_carries sort.Term zero zero simple rest froms tos others =
        (carries_at f depth (total depth (bound (plain sort.Term))) from to (sym (plain_depth depth sort.Term)) c, others)
    slot_carries sort.Term zero (suc zero) simple rest froms tos others = (
      carries_at f (total depth (only Terms 1)) (total depth (bound (under_term sort.Term))) (with_term from) (with_term to)
          (sym (under_term_depth depth sort.Term)) (lift_term f uniform stays depth from to c),
      others,
    )
    slot_carries sort.Term zero (suc (suc terms)) simple rest froms tos others = absurd (grind (arith, nat_tests))
    slot_carries sort.Term (suc points) terms simple rest froms tos others = absurd (grind (arith, nat_tests))
    slot_carries sort points terms simple rest froms tos others = others

    slots_carry : (slots : List Slot) → list_all is_simple slots ≡ true → AllCarry f depth slots (map (place_in_slot from) slots) (map (place_in_slot to) slots)
    slots_carry [] simple = tt
    slots_carry (slot ∷ slots) simple =
        slot_carries slot.sort slot.points slot.terms (first_so (is_simple slot) (list_all is_simple slots) simple) slots (map (place_in_slot from) slots) (map (place_in_slot to) slots)
        (slots_carry slots (second_so (is_simple slot) (list_all is_simple slots) simple))

    abbrev inner : Depth
    inner = total depth (only Points 1)

    abbrev now : Kind → Trees → Trees
    now kind kids = changed_kids f depth (form kind).kids kids

    -- the shape of an extension
    shape_changed : (cube tope face : Tree) → IsShape from.scope cube tope face → IsShape to.scope cube (changed f inner tope) (changed f inner face)
    shape_changed cube tope face h =
        let deep = lift_cube f uniform stays depth from to c cube h.cube_is.tree in
        let move = moved_tope f inner (scope.with_cube cube from.scope) (scope.with_cube cube to.scope) deep.points deep.from_cubes in
        record { cube_is = h.cube_is; tope_is = (move tope h.tope_is).over; face_is = (move face h.face_is).over }

    shape_carries : (cube tope : Tree) → IsTree sort.Cube cube → IsTopeOver (binders_in (scope.with_cube cube from.scope)) tope
        → Carries f inner (on_shape from cube tope) (on_shape to cube (changed f inner tope))
    shape_carries cube tope is over =
        lift_tope f uniform stays inner (with_cube cube from) (with_cube cube to) (lift_cube f uniform stays depth from to c cube is) tope over

    face_carries : (cube tope face : Tree) → IsShape from.scope cube tope face
        → Carries f inner (on_face from cube tope face) (on_face to cube (changed f inner tope) (changed f inner face))
    face_carries cube tope face h =
        lift_tope f uniform stays inner (on_shape from cube tope) (on_shape to cube (changed f inner tope))
        (shape_carries cube tope h.cube_is.tree h.tope_is) face h.face_is

    -- a shape's tope is true at a point where it was
    true_at_changed : (cube tope point : Tree) → IsTree sort.Cube cube → IsTopeOver (binders_in (scope.with_cube cube from.scope)) tope
        → IsPointOf (binders_in from.scope) cube point → IsTrueAt from cube tope point
        → IsTrueAt to cube (changed f inner tope) (changed f depth point)
    true_at_changed cube tope point is over points true_there valuation allowed =
        let deep = lift_cube f uniform stays depth from to c cube is in
        let move = moved_tope f inner (scope.with_cube cube from.scope) (scope.with_cube cube to.scope) deep.points deep.from_cubes tope over in
        let numbers = value (binders_in to.scope) valuation (changed f depth point) in
        let same : numbers ≡ value (binders_in from.scope) (carried f depth to.scope valuation) point =
        (moved_point f depth from.scope to.scope c.points point cube points).number valuation in
        let back : carried f inner (scope.with_cube cube to.scope) (with_value numbers valuation)
        ≡ with_value (value (binders_in from.scope) (carried f depth to.scope valuation) point) (carried f depth to.scope valuation) =
        with_value_carried f uniform depth to.scope cube numbers valuation
        ∙ ap (λ (ns : List ℕ). with_value ns (carried f depth to.scope valuation)) same in
        move.truth (with_value numbers valuation)
        ∙ ap (λ (w : Valuation). is_true (binders_in (scope.with_cube cube from.scope)) w tope) back
        ∙ true_there (carried f depth to.scope valuation) (carried_allowed f depth from to c valuation allowed)

    covered_changed : (p q : Tree) → IsTopeOver (binders_in from.scope) p → IsTopeOver (binders_in from.scope) q
        → IsCoveredBy from p q → IsCoveredBy to (changed f depth p) (changed f depth q)
    covered_changed p q over_p over_q covered valuation allowed =
        let move = moved_tope f depth from.scope to.scope c.points c.from_cubes in
        (λ i. (move p over_p).truth valuation i || (move q over_q).truth valuation i)
        ∙ covered (carried f depth to.scope valuation) (carried_allowed f depth from to c valuation allowed)

    -- the parts of a changed node
    plain_part : (kind : Kind) (kids : Trees) (place : ℕ) (sort : Sort) → slot_of (form kind).kids place ≡ plain sort
        → changed f depth (kid kids place) ≡ kid (now kind kids) place
    plain_part kind kids place sort e =
        sym (kid_changed f depth (form kind).kids kids place
        ∙ ap (λ (slot : Slot). changed f (total depth (bound slot)) (kid kids place)) e ∙ plain_kid f depth sort (kid kids place))

    inner_part : (kind : Kind) (kids : Trees) (place : ℕ) (sort : Sort) → slot_of (form kind).kids place ≡ under_point sort
        → changed f inner (kid kids place) ≡ kid (now kind kids) place
    inner_part kind kids place sort e =
        sym (kid_changed f depth (form kind).kids kids place
        ∙ ap (λ (slot : Slot). changed f (total depth (bound slot)) (kid kids place)) e
        ∙ ap (λ (d : Depth). changed f d (kid kids place)) (under_point_depth depth sort))

    module _ (kind : Kind) (kids : Trees) (first : slot_of (form kind).kids 0 ≡ plain sort.Cube)
        (second : slot_of (form kind).kids 1 ≡ under_point sort.Tope) (fourth : slot_of (form kind).kids 3 ≡ under_point sort.Tope)
        (h : IsShape from.scope (kid kids 0) (kid kids 1) (kid kids 3)) where
      cube_part : kid kids 0 ≡ kid (now kind kids) 0
      cube_part = sym (changed_cube f depth (kid kids 0) h.cube_is.tree) ∙ plain_part kind kids 0 sort.Cube first

      shape_over : IsShape to.scope (kid (now kind kids) 0) (kid (now kind kids) 1) (kid (now kind kids) 3)
      shape_over =
          subst (λ (t : Tree × Tree × Tree). IsShape to.scope t.0 t.1 t.2)
          (λ i. (cube_part i, inner_part kind kids 1 sort.Tope second i, inner_part kind kids 3 sort.Tope fourth i))
          (shape_changed (kid kids 0) (kid kids 1) (kid kids 3) h)

      shape_kid : Carries f (total depth (bound (under_point sort.Term))) (on_shape from (kid kids 0) (kid kids 1)) (on_shape to (kid (now kind kids) 0) (kid (now kind kids) 1))
      shape_kid =
          let at : Carries f (total depth (bound (under_point sort.Term))) (on_shape from (kid kids 0) (kid kids 1)) (on_shape to (kid kids 0) (changed f inner (kid kids 1))) =
          carries_at f inner (total depth (bound (under_point sort.Term))) (on_shape from (kid kids 0) (kid kids 1)) (on_shape to (kid kids 0) (changed f inner (kid kids 1)))
          (sym (under_point_depth depth sort.Term)) (shape_carries (kid kids 0) (kid kids 1) h.cube_is.tree h.tope_is) in
          subst (λ (t : Tree × Tree). Carries f (total depth (bound (under_point sort.Term))) (on_shape from (kid kids 0) (kid kids 1)) (on_shape to t.0 t.1))
          (λ i. (cube_part i, inner_part kind kids 1 sort.Tope second i)) at

      face_kid : Carries f (total depth (bound (under_point sort.Term))) (on_face from (kid kids 0) (kid kids 1) (kid kids 3)) (on_face to (kid (now kind kids) 0) (kid (now kind kids) 1) (kid (now kind kids) 3))
      face_kid =
          let old = on_face from (kid kids 0) (kid kids 1) (kid kids 3) in
          let new = on_face to (kid kids 0) (changed f inner (kid kids 1)) (changed f inner (kid kids 3)) in
          let at : Carries f (total depth (bound (under_point sort.Term))) old new =
          carries_at f inner (total depth (bound (under_point sort.Term))) old new (sym (under_point_depth depth sort.Term)) (face_carries (kid kids 0) (kid kids 1) (kid kids 3) h) in
          subst (λ (t : Tree × Tree × Tree). Carries f (total depth (bound (under_point sort.Term))) old (on_face to t.0 t.1 t.2))
          (λ i. (cube_part i, inner_part kind kids 1 sort.Tope second i, inner_part kind kids 3 sort.Tope fourth i)) at

    term_kid : (old new : Place) → Carries f depth old new → Carries f (total depth (bound (plain sort.Term))) old new
    term_kid old new at = carries_at f depth (total depth (bound (plain sort.Term))) old new (sym (plain_depth depth sort.Term)) at

    tope_kid : (kids : Trees) (place : ℕ) → slot_of (form RecOr).kids place ≡ plain sort.Tope → IsTopeOver (binders_in from.scope) (kid kids place)
        → Carries f (total depth (bound (plain sort.Term))) (with_tope (kid kids place) from) (with_tope (kid (now RecOr kids) place) to)
    tope_kid kids place e over =
        subst (λ t. Carries f (total depth (bound (plain sort.Term))) (with_tope (kid kids place) from) (with_tope t to)) (plain_part RecOr kids place sort.Tope e)
        (term_kid (with_tope (kid kids place) from) (with_tope (changed f depth (kid kids place)) to) (lift_tope f uniform stays depth from to c (kid kids place) over))

    node_over_changed : (kind : Kind) (number : ℕ) (kids : Trees) → (form kind).role ≡ Former
        → IsNodeOver from.scope kind number kids → IsNodeOver to.scope kind number (now kind kids)
    node_over_changed TermVariable number kids role h = absurd (let e = role in cc)
    node_over_changed Extension number kids role h = shape_over Extension kids refl refl refl h
    node_over_changed ExtensionLambda number kids role h = shape_over ExtensionLambda kids refl refl refl h
    node_over_changed ExtensionApplication number kids role h = (
      shape_over ExtensionApplication kids refl refl refl h.0,
      subst (λ (t : Tree × Tree). IsPointOf (binders_in to.scope) t.0 t.1)
          (λ i. (cube_part ExtensionApplication kids refl refl refl h.0 i, plain_part ExtensionApplication kids 6 sort.Point refl i))
          (moved_point f depth from.scope to.scope c.points (kid kids 6) (kid kids 0) h.1).cube_is,
    )
    node_over_changed RecOr number kids role h =
        let move = moved_tope f depth from.scope to.scope c.points c.from_cubes in (
          subst (IsTopeOver (binders_in to.scope)) (plain_part RecOr kids 1 sort.Tope refl) (move (kid kids 1) h.0).over,
          subst (IsTopeOver (binders_in to.scope)) (plain_part RecOr kids 2 sort.Tope refl) (move (kid kids 2) h.1).over,
        )
    node_over_changed kind number kids role h = h

    node_covered_changed : (kind : Kind) (number : ℕ) (kids : Trees) → (form kind).role ≡ Former
        → IsNodeOver from.scope kind number kids → IsCovered from kind kids → IsCovered to kind (now kind kids)
    node_covered_changed ExtensionApplication number kids role over h =
        subst (λ (t : Tree × Tree × Tree). IsTrueAt to t.0 t.1 t.2)
        (λ i. (cube_part ExtensionApplication kids refl refl refl over.0 i, inner_part ExtensionApplication kids 1 sort.Tope refl i, plain_part ExtensionApplication kids 6 sort.Point refl i))
        (true_at_changed (kid kids 0) (kid kids 1) (kid kids 6) over.0.cube_is.tree over.0.tope_is over.1 h)
    node_covered_changed RecOr number kids role over h =
        subst (λ (t : Tree × Tree). IsCoveredBy to t.0 t.1) (λ i. (plain_part RecOr kids 1 sort.Tope refl i, plain_part RecOr kids 2 sort.Tope refl i))
        (covered_changed (kid kids 1) (kid kids 2) over.0 over.1 h)
    node_covered_changed RecBottom number kids role over h = λ valuation allowed. h (carried f depth to.scope valuation) (carried_allowed f depth from to c valuation allowed)
    node_covered_changed kind number kids role over h = h

    kids_carry : (kind : Kind) (number : ℕ) (kids : Trees) → (form kind).role ≡ Former
        → IsNodeOver from.scope kind number kids → AllCarry f depth (form kind).kids (places_of_kids from kind kids) (places_of_kids to kind (now kind kids))
    kids_carry Constant number kids role over = absurd (let e = role in cc)
    kids_carry Postulate number kids role over = absurd (let e = role in cc)
    kids_carry Extension number kids role over =
        (shape_kid Extension kids refl refl refl over, (face_kid Extension kids refl refl refl over, tt))
    kids_carry ExtensionLambda number kids role over =
        let shape = shape_kid ExtensionLambda kids refl refl refl over in
        (shape, (face_kid ExtensionLambda kids refl refl refl over, (shape, tt)))
    kids_carry ExtensionApplication number kids role over =
        (shape_kid ExtensionApplication kids refl refl refl over.0, (face_kid ExtensionApplication kids refl refl refl over.0, (term_kid from to c, tt)))
    kids_carry RecOr number kids role over =
        (term_kid from to c, (tope_kid kids 1 refl over.0, (tope_kid kids 2 refl over.1, tt)))
    kids_carry kind number kids role over = slots_carry (form kind).kids refl

  named_term : (place : Place) (change : Change) (name : List ℕ) → IsGood place (changed_variable change TermVariable [] Nil)
      → IsGood place (changed_variable change TermVariable name Nil)
  named_term place (Renumbered number) name h = h
  named_term place (Replaced t) name h = h

  mutual
    pub changed_good : (depth : Depth) (from to : Place) → Carries f depth from to → (t : Tree) → IsGood from t → IsGood to (changed f depth t)
    changed_good depth from to c (At PointVariable number name kids) h = absurd (let e = h.0 in cc)
    changed_good depth from to c (At TermVariable number name Nil) h = named_term to (f Terms depth number) name (c.terms number h.0)
    changed_good depth from to c (At TermVariable number name (And t ts)) h = absurd h.2
    changed_good depth from to c (At Constant number name kids) h = h
    changed_good depth from to c (At Postulate number name kids) h = h
    changed_good depth from to c (At kind number name kids) h = (
      node_over_changed depth from to c kind number kids refl h.0,
      node_covered_changed depth from to c kind number kids refl h.0 h.1,
      kids_good depth (form kind).kids (places_of_kids from kind kids) (places_of_kids to kind (changed_kids f depth (form kind).kids kids))
          (kids_carry depth from to c kind number kids refl h.0) kids h.2,
    )

    kids_good : (depth : Depth) (slots : List Slot) (froms tos : List (Option Place)) → AllCarry f depth slots froms tos
        → (kids : Trees) → AreGood froms kids → AreGood tos (changed_kids f depth slots kids)
    kids_good depth slots [] [] all Nil h = tt
    kids_good depth slots (None ∷ froms) (None ∷ tos) all (And t ts) h = kids_good depth (other_slots slots) froms tos all ts h
    kids_good depth slots (Some from ∷ froms) (Some to ∷ tos) all (And t ts) h = (
      changed_good (total depth (bound (first_slot slots))) from to all.0 t h.0,
      kids_good depth (other_slots slots) froms tos all.1 ts h.1,
    )
    kids_good depth slots [] tos all (And t ts) h = absurd h
    kids_good depth slots (None ∷ froms) tos all Nil h = absurd h
    kids_good depth slots (Some from ∷ froms) tos all Nil h = absurd h
    kids_good depth slots froms tos all kids h = absurd all
