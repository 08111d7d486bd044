-- Judgments under entries: what becomes of a good context and a good judgment where their place changes.
use Rattle.std.proofs.Common.{◌≡◌, ℕ, suc, ◌+◌, ◌<◌, List, [], ◌∷◌, map, IsTrue, sym, ap, ◌∙◌, subst, arith}
use Rattle.std.specs.Prelude.{slice_get}
use Rattle.std.specs.Cmp.{first_so}
use Rattle.std.proofs.lemmas.Bool.Decides.{nat_tests}
use Rattle.rz_rules.specs.declared.kinds.Space.TheVariants.{Points, Terms}
use Rattle.rz_rules.specs.declared.kinds.Kind.TheVariants.{EmptyContext, CubeEntry, TopeEntry, TermEntry}
use Rattle.rz_rules.specs.declared.judgments.JudgmentKind.{JudgmentKind}
use Rattle.rz_rules.specs.declared.judgments.JudgmentKind.TheVariants as says
use Rattle.rz_rules.specs.Tree.{Tree, At, Nil, And}
use Rattle.rz_rules.specs.Substitution.{Depth, Replaced, Changes, changed, none, only, total, raising}
use Rattle.rz_rules.specs.Context.{Entry, OfCube, OfTope, OfType, with_entries, depth_of, changed_entries}
use Rattle.rz_rules.specs.Cube.{cubes_of}
use Rattle.rz_rules.specs.Judgment.{Statement}
use Rattle.rz_rules.specs.Structural.{changed_statement}
use Rattle.rz_rules.proofs.SubstitutionVariables.{raised}
use Rattle.rz_metatheory.specs.Scope.{Scope, binders_in, terms_of, scope_of}
use Rattle.rz_metatheory.specs.Scope as scope
use Rattle.rz_metatheory.specs.Place.{Valuation, is_true, outside, with_cube, with_tope, allows_in, place_of}
use Rattle.rz_metatheory.specs.Good.{IsGoodContext, AreGoodParts, IsGoodStatement}
use Rattle.rz_metatheory.proofs.Values.{AreCubes, AreCubes-front}
use Rattle.rz_metatheory.proofs.Places.{changed_cube, carried, Carries, carried_allowed, IsUniform, StaysGood, moved_tope, lift_cube, lift_term, lift_tope}
use Rattle.rz_metatheory.proofs.Changing.{changed_good, carries_at}

-- a good context has cubes for its cube variables
pub context_cubes : (context : Tree) → IsGoodContext context → AreCubes (cubes_of context)
context_cubes (At CubeEntry number name (And context (And cube Nil))) good = AreCubes-front cube (cubes_of context) good.1.tree (context_cubes context good.0)
context_cubes (At TopeEntry number name (And context (And tope Nil))) good = context_cubes context good.0
context_cubes (At TermEntry number name (And context (And type Nil))) good = context_cubes context good.0
context_cubes (At EmptyContext number name Nil) good = λ index cube e. absurd cc
context_cubes other good = absurd good

-- what stands further out is good
pub outer_good : (outer : Tree) (inner : List Entry) → IsGoodContext (with_entries outer inner) → IsGoodContext outer
outer_good outer [] good = good
outer_good outer (OfCube cube ∷ inner) good = outer_good outer inner good.0
outer_good outer (OfTope tope ∷ inner) good = outer_good outer inner good.0
outer_good outer (OfType type ∷ inner) good = outer_good outer inner good.0

total_none : (depth : Depth) → depth ≡ total depth none
total_none depth = λ i space. plain space i where
  plain : (space : _) → depth space ≡ depth space + 0
  plain space = omega arith

-- a change of place outside of entries
pub record Moves (f : Changes) (before after : Tree) (inner : List Entry) : Type 0 where
  pub carries : Carries f (depth_of inner) (place_of (with_entries before inner)) (place_of (with_entries after (changed_entries f inner)))
  pub context : IsGoodContext (with_entries after (changed_entries f inner))

module _ (f : Changes) (uniform : IsUniform f) (stays : (depth : Depth) (index : ℕ) (t : Tree) → f Terms depth index ≡ Replaced t → StaysGood t)
    (before after : Tree) (outside_carries : Carries f none (place_of before) (place_of after)) (after_good : IsGoodContext after) where
  pub moved_entries : (inner : List Entry) → IsGoodContext (with_entries before inner) → Moves f before after inner
  moved_entries [] good = record { carries = outside_carries; context = after_good }
  moved_entries (OfCube cube ∷ inner) good =
      let rest = moved_entries inner good.0 in
      let depth = depth_of inner in
      let old = place_of (with_entries before inner) in
      let new = place_of (with_entries after (changed_entries f inner)) in
      let same : cube ≡ changed f depth cube = sym (changed_cube f depth cube good.1.tree) in
      record {
        carries = subst (λ c. Carries f (total depth (only Points 1)) (with_cube cube old) (with_cube c new)) same
            (lift_cube f uniform stays depth old new rest.carries cube good.1.tree);
        context = (rest.context, subst (λ c. scope.IsSmallCube c) same good.1);
      }
  moved_entries (OfTope tope ∷ inner) good =
      let rest = moved_entries inner good.0 in
      let depth = depth_of inner in
      let old = place_of (with_entries before inner) in
      let new = place_of (with_entries after (changed_entries f inner)) in
      record {
        carries = carries_at f depth (total depth none) (with_tope tope old) (with_tope (changed f depth tope) new) (total_none depth)
            (lift_tope f uniform stays depth old new rest.carries tope good.1);
        context = (rest.context, (moved_tope f depth old.scope new.scope rest.carries.points rest.carries.from_cubes tope good.1).over);
      }
  moved_entries (OfType type ∷ inner) good =
      let rest = moved_entries inner good.0 in
      let depth = depth_of inner in
      let old = place_of (with_entries before inner) in
      let new = place_of (with_entries after (changed_entries f inner)) in
      record {
        carries = lift_term f uniform stays depth old new rest.carries;
        context = (rest.context, changed_good f uniform stays depth old new rest.carries type good.1);
      }

  moved_parts : (inner : List Entry) → Moves f before after inner → (kind : JudgmentKind) (parts : List Tree)
      → AreGoodParts kind (place_of (with_entries before inner)) parts
      → AreGoodParts kind (place_of (with_entries after (changed_entries f inner))) (map (changed f (depth_of inner)) parts)
  moved_parts inner moves says.Formed [] good = tt
  moved_parts inner moves says.Holds (tope ∷ []) good =
      let old = place_of (with_entries before inner) in
      let new = place_of (with_entries after (changed_entries f inner)) in
      let move = moved_tope f (depth_of inner) old.scope new.scope moves.carries.points moves.carries.from_cubes tope good.0 in (
        move.over,
        λ valuation allowed. move.truth valuation ∙ good.1 (carried f (depth_of inner) new.scope valuation)
            (carried_allowed f (depth_of inner) old new moves.carries valuation allowed),
      )
  moved_parts inner moves says.Has (term ∷ type ∷ []) good =
      let move = changed_good f uniform stays (depth_of inner) (place_of (with_entries before inner)) (place_of (with_entries after (changed_entries f inner))) moves.carries in
      (move term good.0, move type good.1)
  moved_parts inner moves says.Same (left ∷ right ∷ type ∷ []) good =
      let move = changed_good f uniform stays (depth_of inner) (place_of (with_entries before inner)) (place_of (with_entries after (changed_entries f inner))) moves.carries in
      (move left good.0, move right good.1, move type good.2)
  moved_parts inner moves kind parts good = absurd good

  -- then a good judgment behind entries moves to a good one
  pub moved_statement : (inner : List Entry) (premise : Statement) → premise.context ≡ with_entries before inner
      → IsGoodStatement premise → IsGoodStatement (changed_statement f after inner premise)
  moved_statement inner premise e good =
      let context = subst IsGoodContext e good.0 in
      let parts = subst (λ c. AreGoodParts premise.kind (place_of c) premise.parts) e good.1 in
      let moves = moved_entries inner context in
      (moves.context, moved_parts inner moves premise.kind premise.parts parts)

-- ---- further in, past entries

-- the variables outside of entries, from behind them
pub record StandsBehind (outer : Tree) (inner : List Entry) : Type 0 where
  pub cubes : (index : ℕ) → slice_get (cubes_of (with_entries outer inner)) (index + depth_of inner Points) ≡ slice_get (cubes_of outer) index
  pub terms : terms_of (with_entries outer inner) ≡ terms_of outer + depth_of inner Terms
  pub allows : (valuation : Valuation) → IsTrue (allows_in (with_entries outer inner) valuation)
      → IsTrue (allows_in outer (record { last = valuation.last; values = λ index. valuation.values (index + depth_of inner Points) }))

more_points : (index depth : ℕ) → index + (depth + 1) ≡ suc (index + depth)
more_points index depth = omega arith

no_more : (index depth : ℕ) → index + (depth + 0) ≡ index + depth
no_more index depth = omega arith

pub stands_behind : (outer : Tree) (inner : List Entry) → StandsBehind outer inner
stands_behind outer [] = record {
  cubes = λ index. ap (slice_get (cubes_of outer)) (nothing index);
  terms = sym (nothing (terms_of outer));
  allows = λ valuation allowed. subst (λ w. IsTrue (allows_in outer w)) (λ i. record { last = valuation.last; values = λ index. valuation.values (sym (nothing index) i) }) allowed;
} where
  nothing : (index : ℕ) → index + 0 ≡ index
  nothing index = omega arith
stands_behind outer (OfCube cube ∷ inner) =
    let rest = stands_behind outer inner in record {
      cubes = λ index. ap (slice_get (cube ∷ cubes_of (with_entries outer inner))) (more_points index (depth_of inner Points)) ∙ rest.cubes index;
      terms = omega (arith, rest.terms);
      allows = λ valuation allowed. subst (λ w. IsTrue (allows_in outer w)) (λ i. record { last = valuation.last; values = λ index. valuation.values (sym (more_points index (depth_of inner Points)) i) })
          (rest.allows (outside valuation) allowed);
    }
stands_behind outer (OfTope tope ∷ inner) =
    let rest = stands_behind outer inner in record {
      cubes = λ index. ap (slice_get (cubes_of (with_entries outer inner))) (no_more index (depth_of inner Points)) ∙ rest.cubes index;
      terms = omega (arith, rest.terms);
      allows = λ valuation allowed. subst (λ w. IsTrue (allows_in outer w)) (λ i. record { last = valuation.last; values = λ index. valuation.values (sym (no_more index (depth_of inner Points)) i) })
          (rest.allows valuation (first_so (allows_in (with_entries outer inner) valuation) (is_true (binders_in (scope_of (with_entries outer inner))) valuation tope) allowed));
    }
stands_behind outer (OfType type ∷ inner) =
    let rest = stands_behind outer inner in record {
      cubes = λ index. ap (slice_get (cubes_of (with_entries outer inner))) (no_more index (depth_of inner Points)) ∙ rest.cubes index;
      terms = omega (arith, rest.terms);
      allows = λ valuation allowed. subst (λ w. IsTrue (allows_in outer w)) (λ i. record { last = valuation.last; values = λ index. valuation.values (sym (no_more index (depth_of inner Points)) i) })
          (rest.allows valuation allowed);
    }

raised_behind : (by index : ℕ) → raised (0 + 0) by index ≡ index + by
raised_behind by index = grind (arith, nat_tests)

pub past_entries : (outer : Tree) (inner : List Entry) → IsGoodContext (with_entries outer inner)
    → Carries (raising none (depth_of inner)) none (place_of outer) (place_of (with_entries outer inner))
past_entries outer inner good =
    let behind = stands_behind outer inner in record {
      from_cubes = context_cubes outer (outer_good outer inner good);
      to_cubes = context_cubes (with_entries outer inner) good;
      points = λ index cube there. ap (slice_get (cubes_of (with_entries outer inner))) (raised_behind (depth_of inner Points) index) ∙ behind.cubes index ∙ there;
      terms = λ index lt. (subst (λ m. m < terms_of (with_entries outer inner)) (sym (raised_behind (depth_of inner Terms) index)) (omega (arith, behind.terms, lt)), tt, tt);
      back = λ valuation allowed. subst (λ w. IsTrue (allows_in outer w)) (λ i. record { last = valuation.last; values = λ index. valuation.values (sym (raised_behind (depth_of inner Points) index) i) })
          (behind.allows valuation allowed.allowed);
    }
