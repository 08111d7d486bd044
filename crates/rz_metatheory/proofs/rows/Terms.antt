-- The terms that rows build from others are good.
use Rattle.std.proofs.Common.{◌≡◌, ℕ, zero, suc, [], ◌∷◌, Some, IsTrue, refl, subst, arith}
use Rattle.std.specs.Prelude.{slice_get}
use Rattle.std.specs.Cmp.{first_so, second_so}
use Rattle.rz_rules.specs.Tope.{IsPointOf}
use Rattle.rz_metatheory.specs.Scope.{binders_in}
use Rattle.rz_metatheory.specs.Scope as scope
use Rattle.rz_metatheory.proofs.Lists.{equal_numbers}
use Rattle.rz_metatheory.proofs.Places.{both_so}
use Rattle.rz_rules.specs.declared.kinds.Kind.TheVariants as kind
use Rattle.rz_rules.specs.declared.kinds.Space.TheVariants.{Terms}
use Rattle.rz_rules.specs.Tree.{Tree, At, Nil, And}
use Rattle.rz_rules.specs.Substitution.{shift}
use Rattle.rz_rules.specs.Row.{Assignment}
use Rattle.rz_metatheory.specs.Place.{Valuation, FitsCube, value, is_true, with_value, Place, with_cube, with_term, with_tope, IsAllowed, Entails}
use Rattle.rz_metatheory.specs.Good.{IsTrueAt, on_shape, on_face, IsGood, IsGoodContext}
use Rattle.rz_metatheory.proofs.Values.{same_in, value_fits, AreCubes}
use Rattle.rz_metatheory.proofs.Entries.{context_cubes}
use Rattle.rz_metatheory.proofs.Moves.{narrowed, stays_good, shift_term_good}
use Rattle.rz_metatheory.proofs.Letters as the

-- a row's context has cubes for its cube variables
pub cubes : (L : Assignment) → IsGoodContext (the.C L) → AreCubes (the.here L).scope.cubes
cubes L context = context_cubes (the.C L) context

-- the universe, whose name has no place of its own
abbrev pub universe : Tree
universe = At kind.Universe 0 [] Nil

-- the identity of a term with a variable, and the type of motives over it
abbrev pub identity_with_variable : Tree → Tree → Tree
identity_with_variable type term =
    At kind.Identity 0 [] (And (shift Terms 0 1 type) (And (shift Terms 0 1 term) (And (At kind.TermVariable 0 [] Nil) Nil)))

abbrev pub motives : Tree → Tree → Tree
motives type term = At kind.Pi 0 [] (And (identity_with_variable type term) (And universe Nil))

pub motives_good : (place : Place) → AreCubes place.scope.cubes → (type term : Tree) → IsGood place type → IsGood place term → IsGood (with_term place) (motives type term)
motives_good place cubes type term type_good term_good =
    let t = shift_term_good place cubes type type_good in
    let x = shift_term_good place cubes term term_good in
    (refl, tt, ((refl, tt, (t, (x, ((omega arith, tt, tt), tt)))), ((refl, tt, tt), tt)))

-- a motive at a term and an identity
abbrev pub motive_at : Tree → Tree → Tree → Tree → Tree → Tree
motive_at type left motive right identity =
    At kind.Application 0 [] (And (At kind.Identity 0 [] (And type (And left (And right Nil)))) (And universe
    (And (At kind.Application 0 [] (And type (And (motives type left) (And motive (And right Nil))))) (And identity Nil))))

pub motive_at_good : (place : Place) → AreCubes place.scope.cubes → (type left motive right identity : Tree)
    → IsGood place type → IsGood place left → IsGood place motive → IsGood place right → IsGood place identity → IsGood place (motive_at type left motive right identity)
motive_at_good place cubes type left motive right identity a x m y h =
    let all = motives_good place cubes type left a x in
    (refl, tt, ((refl, tt, (a, (x, (y, tt)))), ((refl, tt, tt), ((refl, tt, (a, (all, (m, (y, tt))))), (h, tt)))))

-- ---- shapes that are equivalent, and points that are equal

-- a shape's tope is true at each point that equals one where it is
pub true_at_equal : (place : Place) (cube tope s t : Tree) → IsTrueAt place cube tope s
    → ((v : Valuation) → IsAllowed place v → IsTrue (is_true (binders_in place.scope) v (At kind.EqualPoints 0 [] (And cube (And s (And t Nil))))))
    → IsTrueAt place cube tope t
true_at_equal place cube tope s t so equal v allowed =
    let same = equal_numbers (value (binders_in place.scope) v s) (value (binders_in place.scope) v t) (equal v allowed) in
    subst (λ ns. IsTrue (is_true (binders_in (scope.with_cube cube place.scope)) (with_value ns v) tope)) same (so v allowed)

-- the valuation with the numbers of a point of a shape is allowed on the shape
pub allowed_at : (place : Place) (cube tope point : Tree) (v : Valuation) → IsAllowed place v → IsPointOf (binders_in place.scope) cube point
    → IsTrueAt place cube tope point → IsAllowed (on_shape place cube tope) (with_value (value (binders_in place.scope) v point) v)
allowed_at place cube tope point v allowed there so = record {
  fits = record { ends_differ = allowed.fits.ends_differ; each = each };
  allowed = both_so (place.allows v) (is_true (binders_in (scope.with_cube cube place.scope)) (with_value (value (binders_in place.scope) v point) v) tope) allowed.allowed (so v allowed);
} where
  each : (index : ℕ) (other : Tree) → slice_get (cube ∷ place.scope.cubes) index ≡ Some other
      → FitsCube v.last other ((with_value (value (binders_in place.scope) v point) v).values index)
  each zero other e = subst (λ c. FitsCube v.last c (value (binders_in place.scope) v point)) (same_in cube other e) (value_fits place.scope.cubes v allowed.fits point cube there)
  each (suc index) other e = allowed.fits.each index other e

-- a valuation that is allowed where a tope is true is allowed, and makes it true
pub allowed_without : (place : Place) (tope : Tree) (v : Valuation) → IsAllowed (with_tope tope place) v → IsAllowed place v
allowed_without place tope v allowed = record {
  fits = allowed.fits;
  allowed = first_so (place.allows v) (is_true (binders_in place.scope) v tope) allowed.allowed;
}

pub allowed_true : (place : Place) (tope : Tree) (v : Valuation) → IsAllowed (with_tope tope place) v → IsTrue (is_true (binders_in place.scope) v tope)
allowed_true place tope v allowed = second_so (place.allows v) (is_true (binders_in place.scope) v tope) allowed.allowed

pub allowed_with : (place : Place) (tope : Tree) (v : Valuation) → IsAllowed place v → IsTrue (is_true (binders_in place.scope) v tope) → IsAllowed (with_tope tope place) v
allowed_with place tope v allowed so = record {
  fits = allowed.fits;
  allowed = both_so (place.allows v) (is_true (binders_in place.scope) v tope) allowed.allowed so;
}

-- a term on a shape and a face of it is good on each shape and face that imply these
module _ (place : Place) (cube p p' q q' : Tree) (bound : AreCubes (on_shape place cube p).scope.cubes)
    (shape : Entails (on_shape place cube p') p) (face : Entails (on_face place cube p q') q) where
  abbrev line : Place
  line = with_cube cube place

  shape_allowed : (v : Valuation) → IsAllowed (on_shape place cube p') v → IsAllowed (on_shape place cube p) v
  shape_allowed v allowed = allowed_with line p v (allowed_without line p' v allowed) (shape v allowed)

  face_allowed : (v : Valuation) → IsAllowed (on_face place cube p' q') v → IsAllowed (on_face place cube p q) v
  face_allowed v allowed =
      let on = shape_allowed v (allowed_without (on_shape place cube p') q' v allowed) in
      allowed_with (on_shape place cube p) q v on (face v (allowed_with (on_shape place cube p) q' v on (allowed_true (on_shape place cube p') q' v allowed)))

  pub shape_narrowed : (t : Tree) → IsGood (on_shape place cube p) t → IsGood (on_shape place cube p') t
  shape_narrowed t good = narrowed (on_shape place cube p) (on_shape place cube p') bound refl (λ v allowed. (shape_allowed v allowed).allowed) t good

  pub face_narrowed : (t : Tree) → IsGood (on_face place cube p q) t → IsGood (on_face place cube p' q') t
  face_narrowed t good = narrowed (on_face place cube p q) (on_face place cube p' q') bound refl (λ v allowed. (face_allowed v allowed).allowed) t good

-- a term on a shape is good on each face of it
pub on_face_too : (place : Place) (cube tope face : Tree) → AreCubes (on_shape place cube tope).scope.cubes
    → (t : Tree) → IsGood (on_shape place cube tope) t → IsGood (on_face place cube tope face) t
on_face_too place cube tope face bound t good = (stays_good t).under_tope (on_shape place cube tope) face bound good
