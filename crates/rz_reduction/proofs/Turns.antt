-- A run from a term of which some asks are answered is told by its step.
use Rattle.std.proofs.Common.{◌≡◌, ℕ, zero, suc, ◌+◌, Bool, true, false, List, [], ◌∷◌, ◌++◌, refl, sym, ap, ◌∙◌, subst, arith}
use Rattle.rz_rules.specs.declared.verdicts.Limit.TheVariants.{Coordinates}
use Rattle.rz_rules.specs.Tree.{Tree}
use Rattle.rz_rules.specs.Same.{same_tree}
use Rattle.rz_rules.specs.Validity.{Entailment, Valid, Invalid}
use Rattle.rz_reduction.specs.Piece.{Question, Piece, Cubes, Topes, Points, Compared, entail_each_other, points_equal}
use Rattle.rz_reduction.specs.Step.{Redex, Normal, Contracts, Splits, redex, Next, AllAgree, Compare, Disagree, PointsDisagree, next_piece, step_by_next, step_by_redex, Step, New, Ask, Split, Clash, NoStep, step}
use Rattle.rz_reduction.specs.Outcome.{Comparison, Equal, Differ, Clashes, Limited, Outcome, Agreed, Fails, PointsFail, Clashing, Stops, outcome_of}
use Rattle.rz_reduction.specs.Run.{End, Reached, at_limit, after_pieces, after_redex, run_for}
use Rattle.rz_reduction.specs.Turn.{remainder, after_comparison, after_next, after_outcome, redex_left, run_from, after_ask, after_step, EndsRun, StepsTo}

pub remainder_none : (pieces : List Piece) → remainder 0 pieces ≡ pieces
remainder_none [] = refl
remainder_none (piece ∷ pieces) = refl

-- a term without a step has none, whatever is answered
no_next : (next : Next) (tree : Tree) → step_by_next next tree ≡ NoStep → ⊥
no_next AllAgree tree e = absurd cc
no_next (Compare q) tree e = absurd cc
no_next (Disagree piece) tree e = absurd cc
no_next (PointsDisagree piece) tree e = absurd cc
no_next (Next.Over count) tree e = absurd cc

no_step : (redex : Redex) (answered other : ℕ) → step_by_redex redex answered ≡ NoStep → step_by_redex redex other ≡ NoStep
no_step Normal answered other e = refl
no_step (Contracts pieces tree) answered other e = absurd (no_next (next_piece answered pieces) tree e)
no_step (Splits phi psi) answered other e = absurd cc
no_step (Redex.Over count) answered other e = absurd cc

-- where no comparison is answered, the pieces are told by the first
module _ (below : Question → Comparison) where
  by_answer : (q : Question) (answer : Comparison) (on : Outcome)
      → elim answer [ Equal ↦ on | Differ ↦ Fails (Compared q) | Clashes left right ↦ Clashing left right | Limited limit ↦ Stops limit ]
      ≡ after_comparison q answer on
  by_answer q Equal on = refl
  by_answer q Differ on = refl
  by_answer q (Clashes left right) on = refl
  by_answer q (Limited limit) on = refl

  -- a test stands before what comes then
  by_cubes : (x : Bool) (piece : Piece) (one other : Outcome) (next : Next) → one ≡ after_next below next other
      → elim x [ true ↦ one | false ↦ Fails piece ]
      ≡ after_next below (elim x [ true ↦ next | false ↦ Disagree piece ]) (elim x [ true ↦ other | false ↦ Fails piece ])
  by_cubes true piece one other next e = e
  by_cubes false piece one other next e = refl

  by_topes : (x : Entailment) (piece : Piece) (one other : Outcome) (next : Next) → one ≡ after_next below next other
      → elim x [ Valid ↦ one | Invalid ↦ Fails piece | Entailment.Over count ↦ Stops Coordinates ]
      ≡ after_next below (elim x [ Valid ↦ next | Invalid ↦ Disagree piece | Entailment.Over count ↦ Next.Over count ])
      (elim x [ Valid ↦ other | Invalid ↦ Fails piece | Entailment.Over count ↦ Stops Coordinates ])
  by_topes Valid piece one other next e = e
  by_topes Invalid piece one other next e = refl
  by_topes (Entailment.Over count) piece one other next e = refl

  by_points : (x : Entailment) (piece : Piece) (one other : Outcome) (next : Next) → one ≡ after_next below next other
      → elim x [ Valid ↦ one | Invalid ↦ PointsFail piece | Entailment.Over count ↦ Stops Coordinates ]
      ≡ after_next below (elim x [ Valid ↦ next | Invalid ↦ PointsDisagree piece | Entailment.Over count ↦ Next.Over count ])
      (elim x [ Valid ↦ other | Invalid ↦ PointsFail piece | Entailment.Over count ↦ Stops Coordinates ])
  by_points Valid piece one other next e = e
  by_points Invalid piece one other next e = refl
  by_points (Entailment.Over count) piece one other next e = refl

  -- with what is left where so many are answered
  left_of : ℕ → List Piece → Outcome
  left_of answered pieces = outcome_of below (remainder answered pieces)

  pub pieces_turn : (answered : ℕ) (pieces : List Piece)
      → outcome_of below (remainder answered pieces)
      ≡ after_next below (next_piece answered pieces) (outcome_of below (remainder (suc answered) pieces))
  pieces_turn answered [] = refl
  pieces_turn zero (Cubes left right ∷ pieces) =
      by_cubes (same_tree left right) (Cubes left right) (outcome_of below pieces) (outcome_of below (remainder 1 pieces)) (next_piece 0 pieces)
      (ap (outcome_of below) (sym (remainder_none pieces)) ∙ pieces_turn 0 pieces)
  pieces_turn (suc less) (Cubes left right ∷ pieces) =
      by_cubes (same_tree left right) (Cubes left right)
      (outcome_of below (remainder (suc less) pieces)) (outcome_of below (remainder (suc (suc less)) pieces))
      (next_piece (suc less) pieces) (pieces_turn (suc less) pieces)
  pieces_turn zero (Topes C phi phi' ∷ pieces) =
      by_topes (entail_each_other C phi phi') (Topes C phi phi') (outcome_of below pieces) (outcome_of below (remainder 1 pieces)) (next_piece 0 pieces)
      (ap (outcome_of below) (sym (remainder_none pieces)) ∙ pieces_turn 0 pieces)
  pieces_turn (suc less) (Topes C phi phi' ∷ pieces) =
      by_topes (entail_each_other C phi phi') (Topes C phi phi')
      (outcome_of below (remainder (suc less) pieces)) (outcome_of below (remainder (suc (suc less)) pieces))
      (next_piece (suc less) pieces) (pieces_turn (suc less) pieces)
  pieces_turn zero (Points C I s s' ∷ pieces) =
      by_points (points_equal C I s s') (Points C I s s') (outcome_of below pieces) (outcome_of below (remainder 1 pieces)) (next_piece 0 pieces)
      (ap (outcome_of below) (sym (remainder_none pieces)) ∙ pieces_turn 0 pieces)
  pieces_turn (suc less) (Points C I s s' ∷ pieces) =
      by_points (points_equal C I s s') (Points C I s s')
      (outcome_of below (remainder (suc less) pieces)) (outcome_of below (remainder (suc (suc less)) pieces))
      (next_piece (suc less) pieces) (pieces_turn (suc less) pieces)
  pieces_turn zero (Compared q ∷ pieces) =
      by_answer q (below q) (outcome_of below pieces)
      ∙ ap (λ ps. after_comparison q (below q) (outcome_of below ps)) (sym (remainder_none pieces))
  pieces_turn (suc less) (Compared q ∷ pieces) = pieces_turn less pieces

  ask_turn : (q : Question) (answer : Comparison) (on : Outcome) (tree : Tree) (further : Tree → End)
      → after_pieces (after_comparison q answer on) tree further ≡ after_ask q answer (after_pieces on tree further)
  ask_turn q Equal on tree further = refl
  ask_turn q Differ on tree further = refl
  ask_turn q (Clashes left right) on tree further = refl
  ask_turn q (Limited limit) on tree further = refl

  next_turn : (t tree : Tree) (next : Next) (on : Outcome) (further : Tree → End)
      → after_pieces (after_next below next on) tree further ≡ after_step below t (step_by_next next tree) further (after_pieces on tree further)
  next_turn t tree AllAgree on further = refl
  next_turn t tree (Compare q) on further = ask_turn q (below q) on tree further
  next_turn t tree (Disagree piece) on further = refl
  next_turn t tree (PointsDisagree piece) on further = refl
  next_turn t tree (Next.Over count) on further = refl

  redex_turn : (t : Tree) (redex : Redex) (answered : ℕ) (further : Tree → End)
      → after_redex below t (redex_left answered redex) further
      ≡ after_step below t (step_by_redex redex answered) further (after_redex below t (redex_left (suc answered) redex) further)
  redex_turn t Normal answered further = refl
  redex_turn t (Contracts pieces tree) answered further =
      ap (λ outcome. after_pieces outcome tree further) (pieces_turn answered pieces)
      ∙ next_turn t tree (next_piece answered pieces) (outcome_of below (remainder (suc answered) pieces)) further
  redex_turn t (Splits phi psi) answered further = refl
  redex_turn t (Redex.Over count) answered further = refl

  left_none : (redex : Redex) → redex ≡ redex_left 0 redex
  left_none Normal = refl
  left_none (Contracts pieces tree) = ap (λ ps. Contracts ps tree) (sym (remainder_none pieces))
  left_none (Splits phi psi) = refl
  left_none (Redex.Over count) = refl

  pub run_begins : (left : ℕ) (C t : Tree) → run_for below left C t ≡ run_from below left 0 C t
  run_begins zero C t = refl
  run_begins (suc left) C t = ap (λ r. after_redex below t r (λ tree. run_for below left C tree)) (left_none (redex C t))

  pub run_turn : (left answered : ℕ) (C t : Tree)
      → run_from below (suc left) answered C t
      ≡ after_step below t (step C t answered) (λ tree. run_from below left 0 C tree) (run_from below (suc left) (suc answered) C t)
  run_turn left answered C t =
      redex_turn t (redex C t) answered (λ tree. run_for below left C tree)
      ∙ ap (λ further. after_step below t (step C t answered) further (run_from below (suc left) (suc answered) C t))
      (λ i tree. run_begins left C tree i)

  -- a step that makes a new tree
  new_tree : (left answered : ℕ) (C t tree : Tree) → step C t answered ≡ New tree
      → run_from below (suc left) answered C t ≡ run_from below left 0 C tree
  new_tree left answered C t tree e =
      run_turn left answered C t
      ∙ ap (λ s. after_step below t s (λ u. run_from below left 0 C u) (run_from below (suc left) (suc answered) C t)) e

  pub run_follows : (left count answered : ℕ) (C t u : Tree) → StepsTo C (suc count) t answered u
      → run_from below (suc (left + count)) answered C t ≡ run_from below left 0 C u
  run_follows left zero answered C t u steps =
      let none : left + zero ≡ left = omega arith in
      ap (λ n. run_from below (suc n) answered C t) none ∙ new_tree left answered C t steps.0 steps.1 ∙ ap (run_from below left 0 C) steps.2
  run_follows left (suc count) answered C t u steps =
      let one_more : left + suc count ≡ suc (left + count) = omega arith in
      ap (λ n. run_from below (suc n) answered C t) one_more
      ∙ new_tree (suc (left + count)) answered C t steps.0 steps.1
      ∙ run_follows left count 0 C steps.0 u steps.2

  -- what follows a test, where it is followed by what comes behind too
  cubes_append : (x : Bool) (piece : Piece) (one on more : Outcome) → one ≡ after_outcome on more
      → elim x [ true ↦ one | false ↦ Fails piece ] ≡ after_outcome (elim x [ true ↦ on | false ↦ Fails piece ]) more
  cubes_append true piece one on more e = e
  cubes_append false piece one on more e = refl

  topes_append : (x : Entailment) (other : Outcome) (one on more : Outcome) → other ≡ after_outcome other more → one ≡ after_outcome on more
      → elim x [ Valid ↦ one | Invalid ↦ other | Entailment.Over count ↦ Stops Coordinates ]
      ≡ after_outcome (elim x [ Valid ↦ on | Invalid ↦ other | Entailment.Over count ↦ Stops Coordinates ]) more
  topes_append Valid other one on more ends e = e
  topes_append Invalid other one on more ends e = ends
  topes_append (Entailment.Over count) other one on more ends e = refl

  comparison_append : (q : Question) (x : Comparison) (one on more : Outcome) → one ≡ after_outcome on more
      → elim x [ Equal ↦ one | Differ ↦ Fails (Compared q) | Clashes left right ↦ Clashing left right | Limited limit ↦ Stops limit ]
      ≡ after_outcome
      (elim x [ Equal ↦ on | Differ ↦ Fails (Compared q) | Clashes left right ↦ Clashing left right | Limited limit ↦ Stops limit ]) more
  comparison_append q Equal one on more e = e
  comparison_append q Differ one on more e = refl
  comparison_append q (Clashes left right) one on more e = refl
  comparison_append q (Limited limit) one on more e = refl

  pub outcome-append : (pieces more : List Piece)
      → outcome_of below (pieces ++ more) ≡ after_outcome (outcome_of below pieces) (outcome_of below more)
  outcome-append [] more = refl
  outcome-append (Cubes left right ∷ pieces) more =
      cubes_append (same_tree left right) (Cubes left right) (outcome_of below (pieces ++ more)) (outcome_of below pieces) (outcome_of below more)
      (outcome-append pieces more)
  outcome-append (Topes C phi phi' ∷ pieces) more =
      topes_append (entail_each_other C phi phi') (Fails (Topes C phi phi'))
      (outcome_of below (pieces ++ more)) (outcome_of below pieces) (outcome_of below more)
      refl (outcome-append pieces more)
  outcome-append (Points C I s s' ∷ pieces) more =
      topes_append (points_equal C I s s') (PointsFail (Points C I s s')) (outcome_of below (pieces ++ more)) (outcome_of below pieces) (outcome_of below more)
      refl (outcome-append pieces more)
  outcome-append (Compared q ∷ pieces) more =
      comparison_append q (below q) (outcome_of below (pieces ++ more)) (outcome_of below pieces) (outcome_of below more) (outcome-append pieces more)

  step_ends : (s : Step) (t : Tree) (further : Tree → End) (again : End) → EndsRun s → after_step below t s further again ≡ at_limit t s
  step_ends (New tree) t further again ends = absurd ends
  step_ends (Ask q) t further again ends = absurd ends
  step_ends (Split phi psi) t further again ends = refl
  step_ends (Clash left right) t further again ends = refl
  step_ends (Step.Over count) t further again ends = refl
  step_ends NoStep t further again ends = refl

  pub run_ends : (left answered : ℕ) (C t : Tree) → EndsRun (step C t answered) → run_from below left answered C t ≡ at_limit t (step C t answered)
  run_ends zero answered C t ends = refl
  run_ends (suc left) answered C t ends =
      run_turn left answered C t
      ∙ step_ends (step C t answered) t (λ tree. run_from below left 0 C tree) (run_from below (suc left) (suc answered) C t) ends

  -- a run ends at terms that have no step
  reached_here : (C t u : Tree) (answered : ℕ) (s : Step) → step C t 0 ≡ s → at_limit t s ≡ Reached u → step C u answered ≡ NoStep
  reached_here C t u answered NoStep e end =
      let same : t ≡ u = cc in subst (λ x. step C x answered ≡ NoStep) same (no_step (redex C t) 0 answered e)
  reached_here C t u answered (New tree) e end = absurd cc
  reached_here C t u answered (Ask q) e end = absurd cc
  reached_here C t u answered (Split phi psi) e end = absurd cc
  reached_here C t u answered (Clash left right) e end = absurd cc
  reached_here C t u answered (Step.Over count) e end = absurd cc

  after_agreed : (tree u : Tree) (on : Tree → End) (outcome : Outcome) → after_pieces outcome tree on ≡ Reached u → on tree ≡ Reached u
  after_agreed tree u on Agreed e = e
  after_agreed tree u on (Fails piece) e = absurd cc
  after_agreed tree u on (PointsFail piece) e = absurd cc
  after_agreed tree u on (Clashing left right) e = absurd cc
  after_agreed tree u on (Stops limit) e = absurd cc

  reached_by : (left : ℕ) (C t u : Tree) (answered : ℕ) (r : Redex) → redex C t ≡ r
      → ((tree : Tree) → run_for below left C tree ≡ Reached u → step C u answered ≡ NoStep)
      → after_redex below t r (λ tree. run_for below left C tree) ≡ Reached u → step C u answered ≡ NoStep
  reached_by left C t u answered Normal e further end =
      let same : t ≡ u = cc in
      subst (λ x. step C x answered ≡ NoStep) same (ap (λ r. step_by_redex r answered) e)
  reached_by left C t u answered (Contracts pieces tree) e further end =
      further tree (after_agreed tree u (λ tree. run_for below left C tree) (outcome_of below pieces) end)
  reached_by left C t u answered (Splits phi psi) e further end = absurd cc
  reached_by left C t u answered (Redex.Over count) e further end = absurd cc

  pub reached_has_no_step : (left : ℕ) (C t u : Tree) (answered : ℕ) → run_for below left C t ≡ Reached u → step C u answered ≡ NoStep
  reached_has_no_step zero C t u answered end = reached_here C t u answered (step C t 0) refl end
  reached_has_no_step (suc left) C t u answered end =
      reached_by left C t u answered (redex C t) refl (λ tree. reached_has_no_step left C tree u answered) end
