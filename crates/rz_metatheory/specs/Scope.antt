-- Scoping: each index points to a binder, each tope is over its place, each point has the cube that is asked of it.
use Rattle.std.specs.Prelude.{◌≡◌, ℕ, zero, suc, ◌<◌, ◌≤◌, List, [], ◌∷◌, length, map, Option, Some, None}
use Rattle.rz_rules.specs.declared.kinds.Sort.{Sort}
use Rattle.rz_rules.specs.declared.kinds.Sort.TheVariants as sort
use Rattle.rz_rules.specs.declared.kinds.Space.{Space}
use Rattle.rz_rules.specs.declared.kinds.Space.TheVariants.{Points, Terms}
use Rattle.rz_rules.specs.declared.kinds.Slot.{Slot}
use Rattle.rz_rules.specs.declared.kinds.Kind.{Kind}
use Rattle.rz_rules.specs.declared.kinds.Kind.TheVariants.{TermVariable, Constant, Postulate, Extension, ExtensionLambda, ExtensionApplication, RecOr, EmptyContext, CubeEntry, TopeEntry, TermEntry}
use Rattle.rz_rules.specs.declared.judgments.JudgmentKind.{JudgmentKind}
use Rattle.rz_rules.specs.declared.judgments.JudgmentKind.TheVariants as says
use Rattle.rz_rules.specs.Form.{form}
use Rattle.rz_rules.specs.Tree.{Tree, Trees, At, Nil, And, IsTree, blank}
use Rattle.rz_rules.specs.Cube.{Binders, leaves, cubes_of}
use Rattle.rz_rules.specs.Tope.{IsPointOf, IsTopeOver}
use Rattle.rz_rules.specs.Judgment.{Statement}

-- what a tree may name where it stands: the cubes of the cube variables, the innermost first, and how many term variables
pub record Scope : Type 0 where
  pub cubes : List Tree
  pub terms : ℕ

-- the scope of the parts of constants and postulates
abbrev pub closed : Scope
closed = record { cubes = []; terms = 0 }

-- a scope with a cube variable more, with a term variable more, and with so many of those
abbrev pub with_cube : Tree → Scope → Scope
with_cube cube scope = record { cubes = cube ∷ scope.cubes; terms = scope.terms }

abbrev pub with_term : Scope → Scope
with_term scope = record { cubes = scope.cubes; terms = suc scope.terms }

abbrev pub with_terms : ℕ → Scope → Scope
with_terms zero scope = scope
with_terms (suc count) scope = with_term (with_terms count scope)

-- how many variables of a space are in scope
abbrev pub count_in : Scope → Space → ℕ
count_in scope Points = length scope.cubes
count_in scope Terms = scope.terms

-- what a scope binds, for points and topes
abbrev pub binders_in : Scope → Binders
binders_in scope = record { cubes = scope.cubes }

-- the scope that a context gives
abbrev pub terms_of : Tree → ℕ
terms_of (At CubeEntry number name (And context (And cube Nil))) = terms_of context
terms_of (At TopeEntry number name (And context (And tope Nil))) = terms_of context
terms_of (At TermEntry number name (And context (And type Nil))) = suc (terms_of context)
terms_of other = 0

abbrev pub scope_of : Tree → Scope
scope_of context = record { cubes = cubes_of context; terms = terms_of context }

-- the kid of a node at a place, counted from 0
abbrev pub kid : Trees → ℕ → Tree
kid Nil place = blank
kid (And first rest) zero = first
kid (And first rest) (suc place) = kid rest place

-- a cube as a context may have one
pub record IsSmallCube (cube : Tree) : Type 0 where
  pub tree : IsTree sort.Cube cube
  pub few : leaves cube ≤ 64

-- a shape and a face of it: a cube, and two topes over its points
pub record IsShape (scope : Scope) (cube tope face : Tree) : Type 0 where
  pub cube_is : IsSmallCube cube
  pub tope_is : IsTopeOver (binders_in (with_cube cube scope)) tope
  pub face_is : IsTopeOver (binders_in (with_cube cube scope)) face

-- a node is a term, and its index, cube, points and topes are over a scope
abbrev pub IsNodeOver : Scope → Kind → ℕ → Trees → Type 0
IsNodeOver scope TermVariable number kids = number < scope.terms
IsNodeOver scope Extension number kids = IsShape scope (kid kids 0) (kid kids 1) (kid kids 3)
IsNodeOver scope ExtensionLambda number kids = IsShape scope (kid kids 0) (kid kids 1) (kid kids 3)
IsNodeOver scope ExtensionApplication number kids =
    IsShape scope (kid kids 0) (kid kids 1) (kid kids 3) × IsPointOf (binders_in scope) (kid kids 0) (kid kids 6)
IsNodeOver scope RecOr number kids =
    IsTopeOver (binders_in scope) (kid kids 1) × IsTopeOver (binders_in scope) (kid kids 2)
IsNodeOver scope kind number kids = (form kind).sort ≡ sort.Term

-- the scope of a kid that is a term, by the place where it stands
abbrev pub scope_in_sort : Scope → ℕ → Sort → Option Scope
scope_in_sort scope terms sort.Term = Some (with_terms terms scope)
scope_in_sort scope terms other = None

abbrev pub scope_in_slot : Scope → Slot → Option Scope
scope_in_slot scope slot = scope_in_sort scope slot.terms slot.sort

-- the scopes of a node's kids that are terms; of a cube, a point or a tope its node tells
abbrev pub scopes_of_kids : Scope → Kind → Trees → List (Option Scope)
scopes_of_kids scope Constant kids = Some closed ∷ Some closed ∷ []
scopes_of_kids scope Postulate kids = Some closed ∷ []
scopes_of_kids scope Extension kids =
    let shape = Some (with_cube (kid kids 0) scope) in None ∷ None ∷ shape ∷ None ∷ shape ∷ []
scopes_of_kids scope ExtensionLambda kids =
    let shape = Some (with_cube (kid kids 0) scope) in None ∷ None ∷ shape ∷ None ∷ shape ∷ shape ∷ []
scopes_of_kids scope ExtensionApplication kids =
    let shape = Some (with_cube (kid kids 0) scope) in None ∷ None ∷ shape ∷ None ∷ shape ∷ Some scope ∷ None ∷ []
scopes_of_kids scope kind kids = map (scope_in_slot scope) (form kind).kids

-- a term is over a scope, with all its parts
abbrev mutual
  pub IsWellScoped : Scope → Tree → Type 0
  IsWellScoped scope (At kind number name kids) =
      IsNodeOver scope kind number kids × AreWellScoped (scopes_of_kids scope kind kids) kids

  pub AreWellScoped : List (Option Scope) → Trees → Type 0
  AreWellScoped [] Nil = Unit {0}
  AreWellScoped (None ∷ scopes) (And first rest) = AreWellScoped scopes rest
  AreWellScoped (Some scope ∷ scopes) (And first rest) = IsWellScoped scope first × AreWellScoped scopes rest
  AreWellScoped scopes kids = ⊥

-- each entry of a context is over what stands before it
abbrev pub IsWellScopedContext : Tree → Type 0
IsWellScopedContext (At EmptyContext number name Nil) = Unit {0}
IsWellScopedContext (At CubeEntry number name (And context (And cube Nil))) = IsWellScopedContext context × IsSmallCube cube
IsWellScopedContext (At TopeEntry number name (And context (And tope Nil))) =
    IsWellScopedContext context × IsTopeOver (binders_in (scope_of context)) tope
IsWellScopedContext (At TermEntry number name (And context (And type Nil))) =
    IsWellScopedContext context × IsWellScoped (scope_of context) type
IsWellScopedContext other = ⊥

-- what a judgment says is over a scope: a tope, or terms and their type
abbrev pub AreOver : JudgmentKind → Scope → List Tree → Type 0
AreOver says.Formed scope [] = Unit {0}
AreOver says.Holds scope (tope ∷ []) = IsTopeOver (binders_in scope) tope
AreOver says.Has scope (term ∷ type ∷ []) = IsWellScoped scope term × IsWellScoped scope type
AreOver says.Same scope (left ∷ right ∷ type ∷ []) =
    IsWellScoped scope left × IsWellScoped scope right × IsWellScoped scope type
AreOver kind scope parts = ⊥

-- a judgment is well scoped: its context is, and what it says is over the context
abbrev pub IsScopedStatement : Statement → Type 0
IsScopedStatement statement =
    IsWellScopedContext statement.context × AreOver statement.kind (scope_of statement.context) statement.parts
