-- Good trees: those that are well scoped, and whose topes are true where a rule asks it. It is what all derived judgments keep.
use Rattle.std.specs.Prelude.{ℕ, ◌||◌, Bool, IsTrue, List, [], ◌∷◌, map, Option, Some, None}
use Rattle.rz_rules.specs.declared.kinds.Sort.{Sort}
use Rattle.rz_rules.specs.declared.kinds.Sort.TheVariants as sort
use Rattle.rz_rules.specs.declared.kinds.Slot.{Slot}
use Rattle.rz_rules.specs.declared.kinds.Kind.{Kind}
use Rattle.rz_rules.specs.declared.kinds.Kind.TheVariants.{Constant, Postulate, Extension, ExtensionLambda, ExtensionApplication, RecOr, RecBottom, EmptyContext, CubeEntry, TopeEntry, TermEntry}
use Rattle.rz_rules.specs.declared.judgments.JudgmentKind.{JudgmentKind}
use Rattle.rz_rules.specs.declared.judgments.JudgmentKind.TheVariants as says
use Rattle.rz_rules.specs.Form.{form}
use Rattle.rz_rules.specs.Tree.{Tree, Trees, At, Nil, And}
use Rattle.rz_rules.specs.Tope.{IsTopeOver}
use Rattle.rz_rules.specs.Judgment.{Statement}
use Rattle.rz_metatheory.specs.Scope as scope
use Rattle.rz_metatheory.specs.Scope.{Scope, kid, IsSmallCube, IsNodeOver, binders_in}
use Rattle.rz_metatheory.specs.Place.{Valuation, value, is_true, with_value, Place, nowhere, with_cube, with_terms, with_tope, place_of, IsAllowed, Entails}

-- whether the tope of a shape is true where its variable has the numbers of a point
abbrev pub is_true_at : Scope → Valuation → Tree → Tree → Tree → Bool
is_true_at here valuation cube tope point =
    let numbers = value (binders_in here) valuation point in
    is_true (binders_in (scope.with_cube cube here)) (with_value numbers valuation) tope

-- a point is on a shape: each valuation of the place makes the shape's tope true there
abbrev pub IsTrueAt : Place → Tree → Tree → Tree → Type 0
IsTrueAt place cube tope point =
    (valuation : Valuation) → IsAllowed place valuation → IsTrue (is_true_at place.scope valuation cube tope point)

-- of two topes one is true
abbrev pub IsCoveredBy : Place → Tree → Tree → Type 0
IsCoveredBy place p q =
    (valuation : Valuation) → IsAllowed place valuation
    → IsTrue (is_true (binders_in place.scope) valuation p || is_true (binders_in place.scope) valuation q)

-- no valuation makes the topes around true
abbrev pub IsEmpty : Place → Type 0
IsEmpty place = (valuation : Valuation) → IsAllowed place valuation → ⊥

-- the tope that the typing row of a node's kind asks for is true at its place
abbrev pub IsCovered : Place → Kind → Trees → Type 0
IsCovered place ExtensionApplication kids = IsTrueAt place (kid kids 0) (kid kids 1) (kid kids 6)
IsCovered place RecOr kids = IsCoveredBy place (kid kids 1) (kid kids 2)
IsCovered place RecBottom kids = IsEmpty place
IsCovered place kind kids = Unit {0}

-- the place on a shape, and that on a face of it
abbrev pub on_shape : Place → Tree → Tree → Place
on_shape place cube tope = with_tope tope (with_cube cube place)

abbrev pub on_face : Place → Tree → Tree → Tree → Place
on_face place cube tope face = with_tope face (on_shape place cube tope)

-- the place of a kid that is a term
abbrev pub place_in_sort : Place → ℕ → Sort → Option Place
place_in_sort place terms sort.Term = Some (with_terms terms place)
place_in_sort place terms other = None

abbrev pub place_in_slot : Place → Slot → Option Place
place_in_slot place slot = place_in_sort place slot.terms slot.sort

-- the places of a node's kids that are terms
abbrev pub places_of_kids : Place → Kind → Trees → List (Option Place)
places_of_kids place Constant kids = Some nowhere ∷ Some nowhere ∷ []
places_of_kids place Postulate kids = Some nowhere ∷ []
places_of_kids place Extension kids =
    let shape = Some (on_shape place (kid kids 0) (kid kids 1)) in
    let face = Some (on_face place (kid kids 0) (kid kids 1) (kid kids 3)) in
    None ∷ None ∷ shape ∷ None ∷ face ∷ []
places_of_kids place ExtensionLambda kids =
    let shape = Some (on_shape place (kid kids 0) (kid kids 1)) in
    let face = Some (on_face place (kid kids 0) (kid kids 1) (kid kids 3)) in
    None ∷ None ∷ shape ∷ None ∷ face ∷ shape ∷ []
places_of_kids place ExtensionApplication kids =
    let shape = Some (on_shape place (kid kids 0) (kid kids 1)) in
    let face = Some (on_face place (kid kids 0) (kid kids 1) (kid kids 3)) in
    None ∷ None ∷ shape ∷ None ∷ face ∷ Some place ∷ None ∷ []
places_of_kids place RecOr kids =
    Some place ∷ None ∷ None ∷ Some (with_tope (kid kids 1) place) ∷ Some (with_tope (kid kids 2) place) ∷ []
places_of_kids place kind kids = map (place_in_slot place) (form kind).kids

-- a term is good at a place, with all its parts at theirs
abbrev mutual
  pub IsGood : Place → Tree → Type 0
  IsGood place (At kind number name kids) =
      IsNodeOver place.scope kind number kids × IsCovered place kind kids × AreGood (places_of_kids place kind kids) kids

  pub AreGood : List (Option Place) → Trees → Type 0
  AreGood [] Nil = Unit {0}
  AreGood (None ∷ places) (And first rest) = AreGood places rest
  AreGood (Some place ∷ places) (And first rest) = IsGood place first × AreGood places rest
  AreGood places kids = ⊥

-- each entry of a context is good where it stands
abbrev pub IsGoodContext : Tree → Type 0
IsGoodContext (At EmptyContext number name Nil) = Unit {0}
IsGoodContext (At CubeEntry number name (And context (And cube Nil))) = IsGoodContext context × IsSmallCube cube
IsGoodContext (At TopeEntry number name (And context (And tope Nil))) =
    IsGoodContext context × IsTopeOver (binders_in (place_of context).scope) tope
IsGoodContext (At TermEntry number name (And context (And type Nil))) = IsGoodContext context × IsGood (place_of context) type
IsGoodContext other = ⊥

-- what a judgment says is good at a place: a tope is over it and true at it, a term and its type are good
abbrev pub AreGoodParts : JudgmentKind → Place → List Tree → Type 0
AreGoodParts says.Formed place [] = Unit {0}
AreGoodParts says.Holds place (tope ∷ []) = IsTopeOver (binders_in place.scope) tope × Entails place tope
AreGoodParts says.Has place (term ∷ type ∷ []) = IsGood place term × IsGood place type
AreGoodParts says.Same place (left ∷ right ∷ type ∷ []) = IsGood place left × IsGood place right × IsGood place type
AreGoodParts kind place parts = ⊥

-- a judgment is good: its context is, and what it says is at the context's place
abbrev pub IsGoodStatement : Statement → Type 0
IsGoodStatement statement =
    IsGoodContext statement.context × AreGoodParts statement.kind (place_of statement.context) statement.parts
