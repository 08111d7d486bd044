-- A step asks for at most three comparisons.
use Rattle.std.proofs.Common.{◌≡◌, ℕ, zero, suc, ◌+◌, ◌<◌, ◌≤◌, Bool, true, false, List, [], ◌∷◌, Option, Some, None, ap, arith}
use Rattle.std.specs.Prelude.{if◌then◌else◌}
use Rattle.rz_rules.specs.declared.kinds.Kind.TheVariants.{Constant, Application, First, Second, IdentityInduction, ExtensionApplication, RecOr}
use Rattle.rz_rules.specs.Tree.{Tree, At, Nil, And}
use Rattle.rz_rules.specs.Structural.{universe}
use Rattle.rz_rules.specs.Same.{same_tree}
use Rattle.rz_rules.specs.Validity.{Entailment, Valid, Invalid, entailment}
use Rattle.rz_reduction.specs.Terms.{put_point}
use Rattle.rz_reduction.specs.Views.{Eliminator, Applied, FirstOf, SecondOf, Induced, AppliedAt, Introduction, Function, PairOf, ReflexivityOf, FunctionOnShape, introduction}
use Rattle.rz_reduction.specs.Piece.{Question, question, Piece, Cubes, Topes, Points, Compared, family, extension, differs, asks, entail_each_other, points_equal}
use Rattle.rz_reduction.specs.Step.{Redex, Normal, Contracts, Splits, redex, meeting, inside, or_inside, where_valid, Next, AllAgree, Compare, Disagree, PointsDisagree, next_piece, Ask, step_by_next, step_by_redex, step}

-- how many terms are compared
abbrev comparisons : List Piece → ℕ
comparisons [] = 0
comparisons (Cubes left right ∷ pieces) = comparisons pieces
comparisons (Topes C phi phi' ∷ pieces) = comparisons pieces
comparisons (Points C I s s' ∷ pieces) = comparisons pieces
comparisons (Compared q ∷ pieces) = comparisons pieces + 1

one_more : (piece : Piece) (pieces : List Piece) → comparisons pieces ≤ comparisons (piece ∷ pieces)
one_more (Cubes left right) pieces = omega arith
one_more (Topes C phi phi') pieces = omega arith
one_more (Points C I s s') pieces = omega arith
one_more (Compared q) pieces = omega arith

as_many : (piece : Piece) (more fewer : List Piece) → comparisons fewer ≤ comparisons more → comparisons (piece ∷ fewer) ≤ comparisons (piece ∷ more)
as_many (Cubes left right) more fewer le = le
as_many (Topes C phi phi') more fewer le = le
as_many (Points C I s s') more fewer le = le
as_many (Compared q) more fewer le = omega (arith, le)

-- pieces that are one tree only make fewer
asks_fewer : (pieces : List Piece) → comparisons (asks pieces) ≤ comparisons pieces
asks_fewer [] = omega arith
asks_fewer (piece ∷ pieces) = by (asks_fewer pieces) (differs piece)
  where
    by : comparisons (asks pieces) ≤ comparisons pieces
        → (x : Bool) → comparisons (if x then piece ∷ asks pieces else asks pieces) ≤ comparisons (piece ∷ pieces)
    by rest true = as_many piece pieces (asks pieces) rest
    by rest false = let more = one_more piece pieces in omega (arith, rest, more)

-- the next comparison is one of them
next_bound : (answered : ℕ) (pieces : List Piece) (q : Question) → next_piece answered pieces ≡ Compare q → answered < comparisons pieces
next_bound answered [] q e = absurd cc
next_bound answered (Cubes left right ∷ pieces) q e = by (next_bound answered pieces q) (same_tree left right) e
  where
    by : (next_piece answered pieces ≡ Compare q → answered < comparisons pieces)
        → (x : Bool) → elim x [ true ↦ next_piece answered pieces | false ↦ Disagree (Cubes left right) ] ≡ Compare q → answered < comparisons pieces
    by rest true e = rest e
    by rest false e = absurd cc
next_bound answered (Topes C phi phi' ∷ pieces) q e = by (next_bound answered pieces q) (entail_each_other C phi phi') e
  where
    by : (next_piece answered pieces ≡ Compare q → answered < comparisons pieces)
        → (x : Entailment) → elim x [ Valid ↦ next_piece answered pieces | Invalid ↦ Disagree (Topes C phi phi') | Entailment.Over count ↦ Next.Over count ] ≡ Compare q
        → answered < comparisons pieces
    by rest Valid e = rest e
    by rest Invalid e = absurd cc
    by rest (Entailment.Over count) e = absurd cc
next_bound answered (Points C I s s' ∷ pieces) q e = by (next_bound answered pieces q) (points_equal C I s s') e
  where
    by : (next_piece answered pieces ≡ Compare q → answered < comparisons pieces)
        → (x : Entailment) → elim x [ Valid ↦ next_piece answered pieces | Invalid ↦ PointsDisagree (Points C I s s') | Entailment.Over count ↦ Next.Over count ] ≡ Compare q
        → answered < comparisons pieces
    by rest Valid e = rest e
    by rest Invalid e = absurd cc
    by rest (Entailment.Over count) e = absurd cc
next_bound zero (Compared q' ∷ pieces) q e = omega arith
next_bound (suc less) (Compared q' ∷ pieces) q e = let bound = next_bound less pieces q e in omega (arith, bound)

-- a redex with three comparisons or fewer
abbrev HasFew : Redex → Type 0
HasFew Normal = Unit {0}
HasFew (Contracts pieces tree) = comparisons pieces ≤ 3
HasFew (Splits phi psi) = Unit {0}
HasFew (Redex.Over count) = Unit {0}

abbrev MayHaveFew : Option Redex → Type 0
MayHaveFew None = Unit {0}
MayHaveFew (Some redex) = HasFew redex

at_meeting : (C : Tree) (e : Eliminator) (part : Introduction) → MayHaveFew (meeting C e part)
at_meeting C (Applied A B a) (Function A' B' body) = let fewer = asks_fewer (family C A B A' B') in omega (arith, fewer)
at_meeting C (FirstOf A B) (PairOf A' B' x y) = let fewer = asks_fewer (family C A B A' B') in omega (arith, fewer)
at_meeting C (SecondOf A B) (PairOf A' B' x y) = let fewer = asks_fewer (family C A B A' B') in omega (arith, fewer)
at_meeting C (Induced A a M d b) (ReflexivityOf A' x) =
    let pieces = Compared (question C A A' universe) ∷ Compared (question C a x A) ∷ Compared (question C b x A) ∷ [] in
    let fewer = asks_fewer pieces in omega (arith, fewer)
at_meeting C (AppliedAt I psi A phi a s) (FunctionOnShape I' psi' A' phi' a' body) =
    let fewer = asks_fewer (extension C I psi A phi a I' psi' A' phi' a') in omega (arith, fewer)
at_meeting C (Applied A B a) part = tt
at_meeting C (FirstOf A B) part = tt
at_meeting C (SecondOf A B) part = tt
at_meeting C (Induced A a M d b) part = tt
at_meeting C (AppliedAt I psi A phi a s) part = tt

when_inside : (es : List Eliminator) (redex : Redex) → HasFew redex → HasFew (inside es redex)
when_inside es Normal few = tt
when_inside es (Contracts pieces tree) few = few
when_inside es (Splits phi psi) few = tt
when_inside es (Redex.Over count) few = tt

when_or_inside : (found : Option Redex) (e : Eliminator) (within : Redex) → MayHaveFew found → HasFew within → HasFew (or_inside found e within)
when_or_inside (Some redex) e within found few = found
when_or_inside None e within found few = when_inside (e ∷ []) within few

when_valid : (x : Entailment) (term : Tree) (otherwise : Redex) → HasFew otherwise → HasFew (where_valid x term otherwise)
when_valid Valid term otherwise few = omega arith
when_valid Invalid term otherwise few = few
when_valid (Entailment.Over count) term otherwise few = tt

redex_has_few : (C t : Tree) → HasFew (redex C t)
redex_has_few C (At Constant number name (And A (And b Nil))) = omega arith
redex_has_few C (At Application number name (And A (And B (And f (And a Nil))))) =
    let e = Applied A B a in when_or_inside (meeting C e (introduction f)) e (redex C f) (at_meeting C e (introduction f)) (redex_has_few C f)
redex_has_few C (At First number name (And A (And B (And p Nil)))) =
    let e = FirstOf A B in when_or_inside (meeting C e (introduction p)) e (redex C p) (at_meeting C e (introduction p)) (redex_has_few C p)
redex_has_few C (At Second number name (And A (And B (And p Nil)))) =
    let e = SecondOf A B in when_or_inside (meeting C e (introduction p)) e (redex C p) (at_meeting C e (introduction p)) (redex_has_few C p)
redex_has_few C (At IdentityInduction number name (And A (And a (And M (And d (And b (And p Nil))))))) =
    let e = Induced A a M d b in when_or_inside (meeting C e (introduction p)) e (redex C p) (at_meeting C e (introduction p)) (redex_has_few C p)
redex_has_few C (At ExtensionApplication number name (And I (And psi (And A (And phi (And a (And f (And s Nil)))))))) =
    let e = AppliedAt I psi A phi a s in
    let within = or_inside (meeting C e (introduction f)) e (redex C f) in
    when_valid (entailment C (put_point s phi)) (put_point s a) within
    (when_or_inside (meeting C e (introduction f)) e (redex C f) (at_meeting C e (introduction f)) (redex_has_few C f))
redex_has_few C (At RecOr number name (And A (And phi (And psi (And a (And b Nil)))))) =
    when_valid (entailment C phi) a (where_valid (entailment C psi) b (Splits phi psi)) (when_valid (entailment C psi) b (Splits phi psi) tt)
redex_has_few C other = tt

by_next : (next : Next) (tree : Tree) (q : Question) → step_by_next next tree ≡ Ask q → next ≡ Compare q
by_next AllAgree tree q e = absurd cc
by_next (Compare q') tree q e = let same : q' ≡ q = cc in ap Compare same
by_next (Disagree piece) tree q e = absurd cc
by_next (PointsDisagree piece) tree q e = absurd cc
by_next (Next.Over count) tree q e = absurd cc

few_asks : (redex : Redex) (answered : ℕ) (q : Question) → HasFew redex → step_by_redex redex answered ≡ Ask q → answered < 3
few_asks Normal answered q few e = absurd cc
few_asks (Contracts pieces tree) answered q few e =
    let bound = next_bound answered pieces q (by_next (next_piece answered pieces) tree q e) in omega (arith, few, bound)
few_asks (Splits phi psi) answered q few e = absurd cc
few_asks (Redex.Over count) answered q few e = absurd cc

pub at_most_three : (C t : Tree) (answered : ℕ) (q : Question) → step C t answered ≡ Ask q → answered < 3
at_most_three C t answered q e = few_asks (redex C t) answered q (redex_has_few C t) e
