-- The law of depth: a greater depth changes no answer but the limit of depth.
use Rattle.std.proofs.Common.{◌≡◌, ◌≢◌, ℕ, zero, suc, ◌≤◌, Bool, true, false, List, [], ◌∷◌, ◌⊎◌, inl, inr, Option, Some, None, refl, sym, ap, ◌∙◌, subst, arith}
use Rattle.rz_rules.specs.declared.verdicts.Limit.TheVariants.{Depth, Coordinates}
use Rattle.rz_rules.specs.Tree.{Tree}
use Rattle.rz_rules.specs.Same.{same_tree}
use Rattle.rz_reduction.specs.Entailment.{Orders, AllInOrder, InNoOrder, orders}
use Rattle.rz_rules.specs.Tope.{at_most}
use Rattle.rz_rules.specs.Validity.{Entailment, Valid, Invalid}
use Rattle.rz_reduction.specs.Views.{former}
use Rattle.rz_reduction.specs.Piece.{Question, Piece, Cubes, Topes, Points, Compared, entail_each_other, points_equal}
use Rattle.rz_reduction.specs.Step.{Redex, Normal, Contracts, Splits, redex}
use Rattle.rz_reduction.specs.Outcome.{Comparison, Equal, Differ, Clashes, Limited, Outcome, Agreed, Fails, PointsFail, Clashing, Stops, outcome_of}
use Rattle.rz_reduction.specs.Run.{End, Reached, Divided, Clashed, Stopped, after_pieces, after_redex, run_for, step_limit, run}
use Rattle.rz_reduction.specs.Comparison.{immediate_answer, Reach, Answered, Under, Parts, Undecided, after_run, eta_pieces, by_normal_forms, reach, under, under_both, under_orders, by_outcome, conclusion, conversion, depth_of_comparison, depth_of_asks}

-- an answer with a lower depth says that the depth did not suffice, or it is that with a higher one
abbrev Kept : {X : Type 0} → X → X → X → Type 0
Kept {X} limit low high = (low ≡ limit) ⊎ (low ≡ high)

-- what is made of such answers, where the limit makes the limit
kept_by : {X Y : Type 0} (limit : X) (end : Y) (f g : X → Y) → f limit ≡ end → ((x : X) → Kept end (f x) (g x))
    → (x x' : X) → Kept limit x x' → Kept end (f x) (g x')
kept_by {X} {Y} limit end f g ends each x x' (inl e) = inl (ap f e ∙ ends)
kept_by {X} {Y} limit end f g ends each x x' (inr e) = subst (λ y. Kept end (f x) (g y)) e (each x)

abbrev KeepsAnswers : (Question → Comparison) → (Question → Comparison) → Type 0
KeepsAnswers low high = (q : Question) → Kept (Limited Depth) (low q) (high q)

module _ (low high : Question → Comparison) (keeps : KeepsAnswers low high) where
  -- pieces
  pieces_kept : (pieces : List Piece) → Kept (Stops Depth) (outcome_of low pieces) (outcome_of high pieces)
  pieces_kept [] = inr refl
  pieces_kept (Cubes left right ∷ pieces) = by (pieces_kept pieces) (same_tree left right)
    where
      by : Kept (Stops Depth) (outcome_of low pieces) (outcome_of high pieces) → (x : Bool) → Kept (Stops Depth)
          (elim x [ true ↦ outcome_of low pieces | false ↦ Fails (Cubes left right) ]) (elim x [ true ↦ outcome_of high pieces | false ↦ Fails (Cubes left right) ])
      by rest true = rest
      by rest false = inr refl
  pieces_kept (Topes C phi phi' ∷ pieces) = by (pieces_kept pieces) (entail_each_other C phi phi')
    where
      by : Kept (Stops Depth) (outcome_of low pieces) (outcome_of high pieces) → (x : Entailment) → Kept (Stops Depth)
          (elim x [ Valid ↦ outcome_of low pieces | Invalid ↦ Fails (Topes C phi phi') | Entailment.Over count ↦ Stops Coordinates ])
          (elim x [ Valid ↦ outcome_of high pieces | Invalid ↦ Fails (Topes C phi phi') | Entailment.Over count ↦ Stops Coordinates ])
      by rest Valid = rest
      by rest Invalid = inr refl
      by rest (Entailment.Over count) = inr refl
  pieces_kept (Points C I s s' ∷ pieces) = by (pieces_kept pieces) (points_equal C I s s')
    where
      by : Kept (Stops Depth) (outcome_of low pieces) (outcome_of high pieces) → (x : Entailment) → Kept (Stops Depth)
          (elim x [ Valid ↦ outcome_of low pieces | Invalid ↦ PointsFail (Points C I s s') | Entailment.Over count ↦ Stops Coordinates ])
          (elim x [ Valid ↦ outcome_of high pieces | Invalid ↦ PointsFail (Points C I s s') | Entailment.Over count ↦ Stops Coordinates ])
      by rest Valid = rest
      by rest Invalid = inr refl
      by rest (Entailment.Over count) = inr refl
  pieces_kept (Compared q ∷ pieces) =
      kept_by (Limited Depth) (Stops Depth) (after (outcome_of low pieces)) (after (outcome_of high pieces)) refl (each (pieces_kept pieces))
      (low q) (high q) (keeps q)
    where
      after : Outcome → Comparison → Outcome
      after on Equal = on
      after on Differ = Fails (Compared q)
      after on (Clashes left right) = Clashing left right
      after on (Limited limit) = Stops limit

      each : Kept (Stops Depth) (outcome_of low pieces) (outcome_of high pieces)
          → (x : Comparison) → Kept (Stops Depth) (after (outcome_of low pieces) x) (after (outcome_of high pieces) x)
      each rest Equal = rest
      each rest Differ = inr refl
      each rest (Clashes left right) = inr refl
      each rest (Limited limit) = inr refl

  -- runs
  after_pieces_kept : (tree : Tree) (on on' : Tree → End) → ((u : Tree) → Kept (Stopped Depth) (on u) (on' u))
      → (x : Outcome) → Kept (Stopped Depth) (after_pieces x tree on) (after_pieces x tree on')
  after_pieces_kept tree on on' further Agreed = further tree
  after_pieces_kept tree on on' further (Fails piece) = inr refl
  after_pieces_kept tree on on' further (PointsFail piece) = inr refl
  after_pieces_kept tree on on' further (Clashing left right) = inr refl
  after_pieces_kept tree on on' further (Stops limit) = inr refl

  after_redex_kept : (t : Tree) (on on' : Tree → End) → ((u : Tree) → Kept (Stopped Depth) (on u) (on' u))
      → (x : Redex) → Kept (Stopped Depth) (after_redex low t x on) (after_redex high t x on')
  after_redex_kept t on on' further Normal = inr refl
  after_redex_kept t on on' further (Contracts pieces tree) =
      kept_by (Stops Depth) (Stopped Depth) (λ x. after_pieces x tree on) (λ x. after_pieces x tree on') refl
      (after_pieces_kept tree on on' further) (outcome_of low pieces) (outcome_of high pieces) (pieces_kept pieces)
  after_redex_kept t on on' further (Splits phi psi) = inr refl
  after_redex_kept t on on' further (Redex.Over count) = inr refl

  runs_kept : (left : ℕ) (C t : Tree) → Kept (Stopped Depth) (run_for low left C t) (run_for high left C t)
  runs_kept zero C t = inr refl
  runs_kept (suc left) C t =
      after_redex_kept t (λ tree. run_for low left C tree) (λ tree. run_for high left C tree) (runs_kept left C) (redex C t)

  run_kept : (C t : Tree) → Kept (Stopped Depth) (run low C t) (run high C t)
  run_kept C t = runs_kept step_limit C t

  -- what is reached before any part is compared
  after_run_kept : (on on' : Tree → Reach) → ((t : Tree) → Kept (Answered (Limited Depth)) (on t) (on' t))
      → (x x' : End) → Kept (Stopped Depth) x x' → Kept (Answered (Limited Depth)) (after_run x on) (after_run x' on')
  after_run_kept on on' further = kept_by (Stopped Depth) (Answered (Limited Depth)) (λ x. after_run x on) (λ x. after_run x on') refl each
    where
      each : (x : End) → Kept (Answered (Limited Depth)) (after_run x on) (after_run x on')
      each (Reached tree) = further tree
      each (Divided phi psi) = inr refl
      each (Clashed left right) = inr refl
      each (Stopped limit) = inr refl

  normal_forms_kept : (q : Question) → Kept (Answered (Limited Depth)) (by_normal_forms low q) (by_normal_forms high q)
  normal_forms_kept q =
      after_run_kept _ _ (λ a. after_run_kept _ _ (λ b. inr refl)
      (run low q.context q.right) (run high q.context q.right) (run_kept q.context q.right))
      (run low q.context q.left) (run high q.context q.left) (run_kept q.context q.left)

  reach_kept : (q : Question) → Kept (Answered (Limited Depth)) (reach low q) (reach high q)
  reach_kept q =
      after_run_kept _ _ (λ type. by (eta_pieces q (former type))) (run low q.context q.type) (run high q.context q.type) (run_kept q.context q.type)
    where
      by : (x : Option (List Piece)) → Kept (Answered (Limited Depth))
          (elim x [ Some pieces ↦ Parts q.left q.right pieces | None ↦ by_normal_forms low q ])
          (elim x [ Some pieces ↦ Parts q.left q.right pieces | None ↦ by_normal_forms high q ])
      by (Some pieces) = inr refl
      by None = normal_forms_kept q

  -- splits
  under_both_kept : (q : Question) (phi psi : Tree) → Kept (Limited Depth) (under_both low q phi psi) (under_both high q phi psi)
  under_both_kept q phi psi =
      kept_by (Limited Depth) (Limited Depth) (after (low (under q psi))) (after (high (under q psi))) refl each
      (low (under q phi)) (high (under q phi)) (keeps (under q phi))
    where
      after : Comparison → Comparison → Comparison
      after second Equal = second
      after second Differ = Differ
      after second (Clashes left right) = Clashes left right
      after second (Limited limit) = Limited limit

      each : (x : Comparison) → Kept (Limited Depth) (after (low (under q psi)) x) (after (high (under q psi)) x)
      each Equal = keeps (under q psi)
      each Differ = inr refl
      each (Clashes left right) = inr refl
      each (Limited limit) = inr refl

  under_orders_kept : (q : Question) → Kept (Limited Depth) (under_orders low q) (under_orders high q)
  under_orders_kept q = by (orders q.context)
    where
      by : (x : Orders) → Kept (Limited Depth)
          (elim x [ AllInOrder ↦ Differ | InNoOrder s u ↦ under_both low q (at_most s u) (at_most u s) | Orders.Over n ↦ Limited Coordinates ])
          (elim x [ AllInOrder ↦ Differ | InNoOrder s u ↦ under_both high q (at_most s u) (at_most u s) | Orders.Over n ↦ Limited Coordinates ])
      by AllInOrder = inr refl
      by (InNoOrder s u) = under_both_kept q (at_most s u) (at_most u s)
      by (Orders.Over count) = inr refl

  outcome_kept : (q : Question) (x : Outcome) → Kept (Limited Depth) (by_outcome low q x) (by_outcome high q x)
  outcome_kept q Agreed = inr refl
  outcome_kept q (Fails piece) = inr refl
  outcome_kept q (PointsFail piece) = under_orders_kept q
  outcome_kept q (Clashing left right) = inr refl
  outcome_kept q (Stops limit) = inr refl

  conclusion_kept : (q : Question) (x : Reach) → Kept (Limited Depth) (conclusion low q x) (conclusion high q x)
  conclusion_kept q (Answered comparison) = inr refl
  conclusion_kept q (Under phi psi) = under_both_kept q phi psi
  conclusion_kept q (Parts left right pieces) =
      kept_by (Stops Depth) (Limited Depth) (by_outcome low q) (by_outcome high q) refl (outcome_kept q)
      (outcome_of low pieces) (outcome_of high pieces) (pieces_kept pieces)
  conclusion_kept q (Undecided left right) = under_orders_kept q

  compared_kept : (q : Question) (x : Option Comparison) → Kept (Limited Depth)
      (elim x [ Some comparison ↦ comparison | None ↦ conclusion low q (reach low q) ])
      (elim x [ Some comparison ↦ comparison | None ↦ conclusion high q (reach high q) ])
  compared_kept q (Some comparison) = inr refl
  compared_kept q None =
      kept_by (Answered (Limited Depth)) (Limited Depth) (conclusion low q) (conclusion high q) refl (conclusion_kept q)
      (reach low q) (reach high q) (reach_kept q)

at_no_depth : (q : Question) (other : Comparison) (x : Option Comparison) → Kept (Limited Depth)
    (elim x [ Some comparison ↦ comparison | None ↦ Limited Depth ]) (elim x [ Some comparison ↦ comparison | None ↦ other ])
at_no_depth q other (Some comparison) = inr refl
at_no_depth q other None = inl refl

conversion_kept : (low high : ℕ) → low ≤ high → KeepsAnswers (conversion low) (conversion high)
conversion_kept zero zero le q = inr refl
conversion_kept zero (suc high) le q = at_no_depth q (conclusion (conversion high) q (reach (conversion high) q)) (immediate_answer q)
conversion_kept (suc low) zero le q = absurd (omega (arith, le))
conversion_kept (suc low) (suc high) le q =
    compared_kept (conversion low) (conversion high) (conversion_kept low high (omega (arith, le))) q (immediate_answer q)

unless_limit : {X : Type 0} (limit low high : X) → Kept limit low high → low ≢ limit → high ≡ low
unless_limit {X} limit low high (inl e) other = absurd (other e)
unless_limit {X} limit low high (inr e) other = sym e

pub comparisons : (low high : ℕ) (q : Question) → low ≤ high → conversion low q ≢ Limited Depth → conversion high q ≡ conversion low q
comparisons low high q le = unless_limit (Limited Depth) (conversion low q) (conversion high q) (conversion_kept low high le q)

pub runs : (low high : ℕ) (C t : Tree) → low ≤ high → run (conversion low) C t ≢ Stopped Depth → run (conversion high) C t ≡ run (conversion low) C t
runs low high C t le =
    unless_limit (Stopped Depth) (run (conversion low) C t) (run (conversion high) C t)
    (run_kept (conversion low) (conversion high) (conversion_kept low high le) C t)

-- so does what sets two terms apart
pub reaches : (low high : ℕ) (q : Question) → low ≤ high → reach (conversion low) q ≢ Answered (Limited Depth)
    → reach (conversion high) q ≡ reach (conversion low) q
reaches low high q le =
    unless_limit (Answered (Limited Depth)) (reach (conversion low) q) (reach (conversion high) q)
    (reach_kept (conversion low) (conversion high) (conversion_kept low high le) q)

pub outcomes : (low high : ℕ) (pieces : List Piece) → low ≤ high → outcome_of (conversion low) pieces ≢ Stops Depth
    → outcome_of (conversion high) pieces ≡ outcome_of (conversion low) pieces
outcomes low high pieces le =
    unless_limit (Stops Depth) (outcome_of (conversion low) pieces) (outcome_of (conversion high) pieces)
    (pieces_kept (conversion low) (conversion high) (conversion_kept low high le) pieces)

-- a limit of depth is one at each lesser depth
limit_kept : {X : Type 0} (limit low high : X) → Kept limit low high → high ≡ limit → low ≡ limit
limit_kept {X} limit low high (inl e) at = e
limit_kept {X} limit low high (inr e) at = e ∙ at

pub limits : (low high : ℕ) (q : Question) → low ≤ high → conversion high q ≡ Limited Depth → conversion low q ≡ Limited Depth
limits low high q le = limit_kept (Limited Depth) (conversion low q) (conversion high q) (conversion_kept low high le q)

pub run_limits : (low high : ℕ) (C t : Tree) → low ≤ high → run (conversion high) C t ≡ Stopped Depth → run (conversion low) C t ≡ Stopped Depth
run_limits low high C t le =
    limit_kept (Stopped Depth) (run (conversion low) C t) (run (conversion high) C t)
    (run_kept (conversion low) (conversion high) (conversion_kept low high le) C t)

-- the asks of a run are one less deep than the comparison of a reading
pub one_deeper : depth_of_comparison ≡ suc depth_of_asks
unfolding depth_of_comparison depth_of_asks
one_deeper = refl
