-- One step of a term.
use Rattle.std.specs.Prelude.{ℕ, zero, suc, true, false, List, [], ◌∷◌, Option, Some, None}
use Rattle.rz_rules.specs.declared.kinds.Kind.TheVariants.{Constant, Application, First, Second, IdentityInduction, ExtensionApplication, RecOr}
use Rattle.rz_rules.specs.Tree.{Tree, At, Nil, And}
use Rattle.rz_rules.specs.Structural.{universe}
use Rattle.rz_rules.specs.Same.{same_tree}
use Rattle.rz_rules.specs.Validity.{Entailment, Valid, Invalid, entailment}
use Rattle.rz_reduction.specs.Terms.{put_term, put_point}
use Rattle.rz_reduction.specs.Views.{Eliminator, Applied, FirstOf, SecondOf, Induced, AppliedAt, whole, Introduction, Function, PairOf, ReflexivityOf, FunctionOnShape, introduction}
use Rattle.rz_reduction.specs.Piece.{Question, question, Piece, Cubes, Topes, Points, Compared, family, extension, asks, entail_each_other, points_equal, left_side, right_side}

-- what a term has as its next step, whatever is answered of its pieces
pub data Redex : Type 0 where
  -- none: the term is normal
  Normal : Redex
  -- a new tree, where these pieces agree
  Contracts : (pieces : List Piece) (tree : Tree) → Redex
  -- none, unless one of two topes that cover the context is taken as well
  Splits : (first second : Tree) → Redex
  -- a question of so many coordinates
  Over : (coordinates : ℕ) → Redex

-- what comes where an eliminator meets an introduction
abbrev pub meeting : Tree → Eliminator → Introduction → Option Redex
meeting C (Applied A B a) (Function A' B' body) = Some (Contracts (asks (family C A B A' B')) (put_term a body))
meeting C (FirstOf A B) (PairOf A' B' x y) = Some (Contracts (asks (family C A B A' B')) x)
meeting C (SecondOf A B) (PairOf A' B' x y) = Some (Contracts (asks (family C A B A' B')) y)
meeting C (Induced A a M d b) (ReflexivityOf A' x) =
    Some (Contracts (asks (Compared (question C A A' universe) ∷ Compared (question C a x A) ∷ Compared (question C b x A) ∷ [])) d)
meeting C (AppliedAt I psi A phi a s) (FunctionOnShape I' psi' A' phi' a' body) =
    Some (Contracts (asks (extension C I psi A phi a I' psi' A' phi' a')) (put_point s body))
meeting C e part = None

-- the step of a term as the step of what eliminators make of it: the same pieces, and the tree that comes within them
abbrev pub inside : List Eliminator → Redex → Redex
inside es Normal = Normal
inside es (Contracts pieces tree) = Contracts pieces (whole tree es)
inside es (Splits first second) = Splits first second
inside es (Redex.Over count) = Redex.Over count

-- where an eliminator meets its part, that step; else the part's own
abbrev pub or_inside : Option Redex → Eliminator → Redex → Redex
or_inside (Some redex) e within = redex
or_inside None e within = inside (e ∷ []) within

-- where a question is valid, this term comes, and nothing has to agree; where it isn't, what is said then
abbrev pub where_valid : Entailment → Tree → Redex → Redex
where_valid Valid term otherwise = Contracts [] term
where_valid Invalid term otherwise = otherwise
where_valid (Entailment.Over count) term otherwise = Redex.Over count

-- A constant is unfolded. An eliminator meets its part, or the part steps; a function on a shape is first asked for its
-- face at the point. A term by cases of two topes is the one where that tope holds.
abbrev pub redex : Tree → Tree → Redex
redex C (At Constant number name (And A (And b Nil))) = Contracts [] b
redex C (At Application number name (And A (And B (And f (And a Nil))))) =
    or_inside (meeting C (Applied A B a) (introduction f)) (Applied A B a) (redex C f)
redex C (At First number name (And A (And B (And p Nil)))) =
    or_inside (meeting C (FirstOf A B) (introduction p)) (FirstOf A B) (redex C p)
redex C (At Second number name (And A (And B (And p Nil)))) =
    or_inside (meeting C (SecondOf A B) (introduction p)) (SecondOf A B) (redex C p)
redex C (At IdentityInduction number name (And A (And a (And M (And d (And b (And p Nil))))))) =
    or_inside (meeting C (Induced A a M d b) (introduction p)) (Induced A a M d b) (redex C p)
redex C (At ExtensionApplication number name (And I (And psi (And A (And phi (And a (And f (And s Nil)))))))) =
    where_valid (entailment C (put_point s phi)) (put_point s a)
    (or_inside (meeting C (AppliedAt I psi A phi a s) (introduction f)) (AppliedAt I psi A phi a s) (redex C f))
redex C (At RecOr number name (And A (And phi (And psi (And a (And b Nil)))))) =
    where_valid (entailment C phi) a (where_valid (entailment C psi) b (Splits phi psi))
redex C other = Normal

-- what stands next in a list of pieces, where its first so many comparisons were answered Equal
pub data Next : Type 0 where
  AllAgree : Next
  Compare : (question : Question) → Next
  -- a piece of two cubes, or of two topes, and one of two points
  Disagree : (piece : Piece) → Next
  PointsDisagree : (piece : Piece) → Next
  Over : (coordinates : ℕ) → Next

abbrev pub next_piece : ℕ → List Piece → Next
next_piece answered [] = AllAgree
next_piece answered (Cubes left right ∷ pieces) =
    elim (same_tree left right) [ true ↦ next_piece answered pieces | false ↦ Disagree (Cubes left right) ]
next_piece answered (Topes C phi phi' ∷ pieces) =
    elim (entail_each_other C phi phi') [
      | Valid ↦ next_piece answered pieces
      | Invalid ↦ Disagree (Topes C phi phi')
      | Entailment.Over count ↦ Next.Over count
    ]
next_piece answered (Points C I s s' ∷ pieces) =
    elim (points_equal C I s s') [
      | Valid ↦ next_piece answered pieces
      | Invalid ↦ PointsDisagree (Points C I s s')
      | Entailment.Over count ↦ Next.Over count
    ]
next_piece answered (Compared q ∷ pieces) = elim answered [ zero ↦ Compare q | suc less ↦ next_piece less pieces ]

-- a step, where so many of its asks were answered Equal
pub data Step : Type 0 where
  New : (tree : Tree) → Step
  Ask : (question : Question) → Step
  Split : (first second : Tree) → Step
  -- the two sides of the piece that doesn't agree
  Clash : (left right : Tree) → Step
  Over : (coordinates : ℕ) → Step
  NoStep : Step

abbrev pub step_by_next : Next → Tree → Step
step_by_next AllAgree tree = New tree
step_by_next (Compare q) tree = Ask q
step_by_next (Disagree piece) tree = Clash (left_side piece) (right_side piece)
step_by_next (PointsDisagree piece) tree = Clash (left_side piece) (right_side piece)
step_by_next (Next.Over count) tree = Step.Over count

abbrev pub step_by_redex : Redex → ℕ → Step
step_by_redex Normal answered = NoStep
step_by_redex (Contracts pieces tree) answered = step_by_next (next_piece answered pieces) tree
step_by_redex (Splits first second) answered = Split first second
step_by_redex (Redex.Over count) answered = Step.Over count

abbrev pub step : Tree → Tree → ℕ → Step
step C t answered = step_by_redex (redex C t) answered
