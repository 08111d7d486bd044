-- What is good is well scoped.
use Rattle.std.proofs.Common.{◌≡◌, List, [], ◌∷◌, Option, Some, None, map, refl, subst}
use Rattle.rz_rules.specs.declared.kinds.Kind.{Kind}
use Rattle.rz_rules.specs.declared.kinds.Kind.TheVariants.{Constant, EmptyContext, CubeEntry, TopeEntry, TermEntry}
use Rattle.rz_rules.specs.declared.judgments.JudgmentKind.{JudgmentKind}
use Rattle.rz_rules.specs.declared.judgments.JudgmentKind.TheVariants as says
use Rattle.rz_rules.specs.Tree.{Tree, Trees, At, Nil, And}
use Rattle.rz_rules.specs.Judgment.{Statement}
use Rattle.rz_rules.specs.Structural.{holds}
use Rattle.rz_metatheory.specs.SmallOrders.{HasTopesOver, IsSequent}
use Rattle.rz_metatheory.specs.Scope.{Scope, scopes_of_kids, IsWellScoped, AreWellScoped, IsWellScopedContext, AreOver, IsScopedStatement}
use Rattle.rz_metatheory.specs.Place.{Place, place_of}
use Rattle.rz_metatheory.specs.Good.{places_of_kids, IsGood, AreGood, IsGoodContext, AreGoodParts, IsGoodStatement}

-- the scope of a place
abbrev scope_at : Option Place → Option Scope
scope_at None = None
scope_at (Some place) = Some place.scope

scopes_are : (place : Place) (kind : Kind) (kids : Trees) → map scope_at (places_of_kids place kind kids) ≡ scopes_of_kids place.scope kind kids
scopes_are place Constant kids = refl
scopes_are place kind kids = refl

mutual
  pub good_scoped : (place : Place) (t : Tree) → IsGood place t → IsWellScoped place.scope t
  good_scoped place (At kind number name kids) h =
      (h.0, subst (λ (scopes : List (Option Scope)). AreWellScoped scopes kids) (scopes_are place kind kids) (kids_scoped (places_of_kids place kind kids) kids h.2))

  kids_scoped : (places : List (Option Place)) (kids : Trees) → AreGood places kids → AreWellScoped (map scope_at places) kids
  kids_scoped [] Nil h = tt
  kids_scoped [] (And t ts) h = absurd h
  kids_scoped (None ∷ places) Nil h = absurd h
  kids_scoped (Some place ∷ places) Nil h = absurd h
  kids_scoped (None ∷ places) (And t ts) h = kids_scoped places ts h
  kids_scoped (Some place ∷ places) (And t ts) h = (good_scoped place t h.0, kids_scoped places ts h.1)

context_scoped : (context : Tree) → IsGoodContext context → IsWellScopedContext context
context_scoped (At EmptyContext number name Nil) h = tt
context_scoped (At CubeEntry number name (And context (And cube Nil))) h = (context_scoped context h.0, h.1)
context_scoped (At TopeEntry number name (And context (And tope Nil))) h = (context_scoped context h.0, h.1)
context_scoped (At TermEntry number name (And context (And type Nil))) h = (context_scoped context h.0, good_scoped (place_of context) type h.1)
context_scoped other h = absurd h

parts_scoped : (kind : JudgmentKind) (place : Place) (parts : List Tree) → AreGoodParts kind place parts → AreOver kind place.scope parts
parts_scoped says.Formed place [] h = tt
parts_scoped says.Holds place (tope ∷ []) h = h.0
parts_scoped says.Has place (term ∷ type ∷ []) h = (good_scoped place term h.0, good_scoped place type h.1)
parts_scoped says.Same place (left ∷ right ∷ type ∷ []) h = (good_scoped place left h.0, good_scoped place right h.1, good_scoped place type h.2)
parts_scoped kind place parts h = absurd h

pub statement_scoped : (statement : Statement) → IsGoodStatement statement → IsScopedStatement statement
statement_scoped statement h = (context_scoped statement.context h.0, parts_scoped statement.kind (place_of statement.context) statement.parts h.1)

-- in a well scoped context the topes are over what stands before them
topes_over : (context : Tree) → IsWellScopedContext context → HasTopesOver context
topes_over (At EmptyContext number name Nil) h = tt
topes_over (At CubeEntry number name (And context (And cube Nil))) h = topes_over context h.0
topes_over (At TopeEntry number name (And context (And tope Nil))) h = (topes_over context h.0, h.1)
topes_over (At TermEntry number name (And context (And type Nil))) h = topes_over context h.0
topes_over other h = absurd h

-- so small orders suffice for what is well scoped
pub scoped_sequent : (context tope : Tree) → IsScopedStatement (holds context tope) → IsSequent context tope
scoped_sequent context tope h = record { topes = topes_over context h.0; over = h.1 }
