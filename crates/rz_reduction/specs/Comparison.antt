-- When two terms of a type compare as equal, with so many comparisons inside one another.
-- The clauses, in their order: one tree, and a context that can't be (`immediate_answer`); no depth (`conversion`); the type
-- (`reach`); eta (`eta_pieces`); normal forms (`by_normal_forms`); two of one former (`former_pieces`); two stuck terms
-- (`stuck_pieces`); orders (`under_orders`). The first clause that speaks of the two terms answers, and of the pieces that it
-- compares the first that isn't Equal; points that disagree lead on to the orders.
use Rattle.std.specs.Prelude.{ℕ, zero, suc, Bool, true, false, List, [], ◌∷◌, Option, Some, None}
use Rattle.rz_rules.specs.declared.verdicts.Limit.TheVariants as limit
use Rattle.rz_rules.specs.declared.kinds.Kind.TheVariants.{TermVariable, Postulate}
use Rattle.rz_rules.specs.Tree.{Tree, At}
use Rattle.rz_rules.specs.Structural.{universe, term_variable}
use Rattle.rz_rules.specs.Same.{same_tree}
use Rattle.rz_reduction.specs.Entailment.{Orders, AllInOrder, InNoOrder, orders}
use Rattle.rz_rules.specs.Tope.{bottom, at_most, point_variable}
use Rattle.rz_rules.specs.Validity.{Entailment, Valid, Invalid, entailment}
use Rattle.rz_reduction.specs.Terms.{application, first, second, extension_application, under_cube, under_tope, under_term, put_term, raised_term, raised_family, raised_point, raised_on_shape}
use Rattle.rz_reduction.specs.Views.{Former, FunctionType, PairType, IdentityType, ReflexivityTerm, ExtensionType, OnePointType, former, Spine, spine}
use Rattle.rz_reduction.specs.Piece.{Question, question, Piece, Compared, family, extension, asks, spine_pieces}
use Rattle.rz_reduction.specs.Outcome.{Comparison, Equal, Differ, Clashes, Limited, Outcome, Agreed, Fails, PointsFail, Clashing, Stops, outcome_of}
use Rattle.rz_reduction.specs.Run.{End, Reached, Divided, Clashed, Stopped, run}

-- The clauses of one tree, and of a context whose topes can't all hold. They need no depth.
abbrev pub immediate_answer : Question → Option Comparison
immediate_answer q =
    elim (same_tree q.left q.right) [
      | true ↦ Some Equal
      | false ↦ elim (entailment q.context bottom) [
        | Valid ↦ Some Equal
        | Invalid ↦ None
        | Entailment.Over count ↦ Some (Limited limit.Coordinates)
      ]
    ]

-- what a comparison comes to before any of its parts is compared
pub data Reach : Type 0 where
  Answered : (comparison : Comparison) → Reach
  -- the two terms as given, under each of two topes that cover the context
  Under : (first second : Tree) → Reach
  -- these pieces of two terms: as given where the clause of eta speaks, else normal ones
  Parts : (left right : Tree) (pieces : List Piece) → Reach
  -- no pieces of two normal terms; the two as given are compared under the orders of a pair of coordinates that is in none,
  -- and where there is no such pair, they differ
  Undecided : (left right : Tree) → Reach

-- what is done with the tree that a run reaches; where it splits, so does the comparison
abbrev pub after_run : End → (Tree → Reach) → Reach
after_run (Reached tree) on = on tree
after_run (Divided phi psi) on = Under phi psi
after_run (Clashed left right) on = Answered (Clashes left right)
after_run (Stopped limit) on = Answered (Limited limit)

-- The clause of eta, at the type's normal form. Functions are compared at a new variable, pairs by their two parts,
-- functions on a shape at a new point of it, and two terms of the type with one term not at all.
abbrev pub eta_pieces : Question → Former → Option (List Piece)
eta_pieces q (FunctionType A B) =
    let at = λ (f : Tree). application (raised_term A) (raised_family B) (raised_term f) (term_variable 0) in
    Some (Compared (question (under_term q.context A) (at q.left) (at q.right) B) ∷ [])
eta_pieces q (PairType A B) =
    Some (Compared (question q.context (first A B q.left) (first A B q.right) A)
    ∷ Compared (question q.context (second A B q.left) (second A B q.right) (put_term (first A B q.left) B)) ∷ [])
eta_pieces q OnePointType = Some []
eta_pieces q (ExtensionType I psi A phi a) =
    let at = λ (f : Tree). extension_application I (raised_on_shape psi) (raised_on_shape A) (raised_on_shape phi) (raised_on_shape a)
    (raised_point f) (point_variable 0) in
    Some (Compared (question (under_tope (under_cube q.context I) psi) (at q.left) (at q.right) A) ∷ [])
eta_pieces q other = None

-- The clause of two terms of one former. The second parts of functions and pairs stand under the left first part.
abbrev pub former_pieces : Tree → Former → Former → Option (List Piece)
former_pieces C (FunctionType A B) (FunctionType A' B') = Some (family C A B A' B')
former_pieces C (PairType A B) (PairType A' B') = Some (family C A B A' B')
former_pieces C (IdentityType A a b) (IdentityType A' a' b') =
    Some (Compared (question C A A' universe) ∷ Compared (question C a a' A) ∷ Compared (question C b b' A) ∷ [])
former_pieces C (ReflexivityTerm A a) (ReflexivityTerm A' a') =
    Some (Compared (question C A A' universe) ∷ Compared (question C a a' A) ∷ [])
former_pieces C (ExtensionType I psi A phi a) (ExtensionType I' psi' A' phi' a') =
    Some (asks (extension C I psi A phi a I' psi' A' phi' a'))
former_pieces C one other = None

-- a head at which a term is stuck
abbrev pub is_stuck : Tree → Bool
is_stuck (At TermVariable number name kids) = true
is_stuck (At Postulate number name kids) = true
is_stuck other = false

-- The clause of two stuck terms: one head, and eliminators that agree in kind and number before any part is compared.
abbrev pub stuck_pieces : Tree → Spine → Spine → Option (List Piece)
stuck_pieces C one other =
    elim (is_stuck one.head) [
      | false ↦ None
      | true ↦ elim (same_tree one.head other.head) [ false ↦ None | true ↦ spine_pieces C one.eliminators other.eliminators ]
    ]

-- the pieces of two normal terms, by the two clauses before; where neither speaks of them, the clause of orders
abbrev pub by_parts : Tree → Tree → Tree → Reach
by_parts C a b =
    elim (former_pieces C (former a) (former b)) [
      | Some pieces ↦ Parts a b pieces
      | None ↦ elim (stuck_pieces C (spine a) (spine b)) [ Some pieces ↦ Parts a b pieces | None ↦ Undecided a b ]
    ]

-- The clause of normal forms: the left term is run and then the right one, and one tree is equal.
abbrev pub by_normal_forms : (Question → Comparison) → Question → Reach
by_normal_forms below q =
    after_run (run below q.context q.left) (λ a. after_run (run below q.context q.right) (λ b.
    elim (same_tree a b) [ true ↦ Answered Equal | false ↦ by_parts q.context a b ]))

-- The clause of the type: it is run first, also where both terms are variables.
abbrev pub reach : (Question → Comparison) → Question → Reach
reach below q =
    after_run (run below q.context q.type) (λ type. elim (eta_pieces q (former type)) [
      | Some pieces ↦ Parts q.left q.right pieces
      | None ↦ by_normal_forms below q
    ])

-- the same question where a tope holds too
abbrev pub under : Question → Tree → Question
under q phi = question (under_tope q.context phi) q.left q.right q.type

-- A split: under the first tope, and where they are equal there, under the second.
abbrev pub under_both : (Question → Comparison) → Question → Tree → Tree → Comparison
under_both below q phi psi =
    elim (below (under q phi)) [
      | Equal ↦ below (under q psi)
      | Differ ↦ Differ
      | Clashes left right ↦ Clashes left right
      | Limited limit ↦ Limited limit
    ]

-- The clause of orders: a split by the two orders of the first pair of coordinates that is in none; else the two differ.
abbrev pub under_orders : (Question → Comparison) → Question → Comparison
under_orders below q =
    elim (orders q.context) [
      | AllInOrder ↦ Differ
      | InNoOrder s u ↦ under_both below q (at_most s u) (at_most u s)
      | Orders.Over count ↦ Limited limit.Coordinates
    ]

-- Points that don't agree lead to the clause of orders too; a cube, a tope or a term that doesn't agree sets the two apart.
abbrev pub by_outcome : (Question → Comparison) → Question → Outcome → Comparison
by_outcome below q Agreed = Equal
by_outcome below q (Fails piece) = Differ
by_outcome below q (PointsFail piece) = under_orders below q
by_outcome below q (Clashing left right) = Clashes left right
by_outcome below q (Stops limit) = Limited limit

-- what the parts of a comparison come to
abbrev pub conclusion : (Question → Comparison) → Question → Reach → Comparison
conclusion below q (Answered comparison) = comparison
conclusion below q (Under phi psi) = under_both below q phi psi
conclusion below q (Parts left right pieces) = by_outcome below q (outcome_of below pieces)
conclusion below q (Undecided left right) = under_orders below q

-- Comparison with a depth: the clauses that need none; where there is none, no more; else all others, each of whose
-- comparisons, those of the asks of their runs among them, has a depth one less.
abbrev pub conversion : ℕ → Question → Comparison
conversion zero q = elim (immediate_answer q) [ Some comparison ↦ comparison | None ↦ Limited limit.Depth ]
conversion (suc depth) q =
    elim (immediate_answer q) [ Some comparison ↦ comparison | None ↦ conclusion (conversion depth) q (reach (conversion depth) q) ]

-- How deep a reading compares two terms, and how deep the asks of a run of its own are then compared. They are names, so
-- that what is said of a reading does not unfold so many comparisons.
unfoldable pub depth_of_comparison : ℕ
depth_of_comparison = 400

unfoldable pub depth_of_asks : ℕ
depth_of_asks = 399

-- the comparison and the run of a reading
abbrev pub full_comparison : Question → Comparison
full_comparison q = conversion depth_of_comparison q

abbrev pub full_run : Tree → Tree → End
full_run C t = run (conversion depth_of_asks) C t
