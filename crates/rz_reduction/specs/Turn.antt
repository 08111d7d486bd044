-- A run from a term of which some asks are answered, as whoever drives a run finds it.
use Rattle.std.specs.Prelude.{◌≡◌, ℕ, zero, suc, List, [], ◌∷◌}
use Rattle.rz_rules.specs.declared.verdicts.Limit.TheVariants.{Coordinates}
use Rattle.rz_rules.specs.Tree.{Tree}
use Rattle.rz_reduction.specs.Piece.{Question, Piece, Cubes, Topes, Points, Compared}
use Rattle.rz_reduction.specs.Step.{Next, AllAgree, Compare, Disagree, PointsDisagree, Redex, Normal, Contracts, Splits, redex, Step, New, Ask, Split, Clash, NoStep, step}
use Rattle.rz_reduction.specs.Outcome.{Comparison, Equal, Differ, Clashes, Limited, Outcome, Agreed, Fails, PointsFail, Clashing, Stops}
use Rattle.rz_reduction.specs.Run.{End, Reached, Divided, Clashed, Stopped, at_limit, after_redex, run_for}

-- the pieces without the first so many that are compared
abbrev pub remainder : ℕ → List Piece → List Piece
remainder answered [] = []
remainder zero pieces = pieces
remainder (suc less) (Cubes left right ∷ pieces) = Cubes left right ∷ remainder (suc less) pieces
remainder (suc less) (Topes C phi phi' ∷ pieces) = Topes C phi phi' ∷ remainder (suc less) pieces
remainder (suc less) (Points C I s s' ∷ pieces) = Points C I s s' ∷ remainder (suc less) pieces
remainder (suc less) (Compared q ∷ pieces) = remainder less pieces

-- what the answer to one comparison leads to: after Equal to what comes then
abbrev pub after_comparison : Question → Comparison → Outcome → Outcome
after_comparison q Equal on = on
after_comparison q Differ on = Fails (Compared q)
after_comparison q (Clashes left right) on = Clashing left right
after_comparison q (Limited limit) on = Stops limit

-- what the next piece leads to: after an answered comparison to what comes then
abbrev pub after_next : (Question → Comparison) → Next → Outcome → Outcome
after_next below AllAgree on = Agreed
after_next below (Compare q) on = after_comparison q (below q) on
after_next below (Disagree piece) on = Fails piece
after_next below (PointsDisagree piece) on = PointsFail piece
after_next below (Next.Over count) on = Stops Coordinates

-- where pieces agree, what those behind them come to
abbrev pub after_outcome : Outcome → Outcome → Outcome
after_outcome Agreed on = on
after_outcome (Fails piece) on = Fails piece
after_outcome (PointsFail piece) on = PointsFail piece
after_outcome (Clashing left right) on = Clashing left right
after_outcome (Stops limit) on = Stops limit

-- a redex without its first so many asks
abbrev pub redex_left : ℕ → Redex → Redex
redex_left answered Normal = Normal
redex_left answered (Contracts pieces tree) = Contracts (remainder answered pieces) tree
redex_left answered (Splits first second) = Splits first second
redex_left answered (Redex.Over count) = Redex.Over count

-- a run that may make so many new trees, from a term of which so many asks are answered Equal
abbrev pub run_from : (Question → Comparison) → ℕ → ℕ → Tree → Tree → End
run_from below zero answered C t = at_limit t (step C t answered)
run_from below (suc left) answered C t = after_redex below t (redex_left answered (redex C t)) (λ tree. run_for below left C tree)

-- what the answer to an ask leads to: after Equal to what comes then
abbrev pub after_ask : Question → Comparison → End → End
after_ask q Equal on = on
after_ask q Differ on = Clashed q.left q.right
after_ask q (Clashes left right) on = Clashed left right
after_ask q (Limited limit) on = Stopped limit

-- what a step leads to: a new tree to the run from there, an answered ask to the run with one more answer
abbrev pub after_step : (Question → Comparison) → Tree → Step → (Tree → End) → End → End
after_step below t (New tree) on again = on tree
after_step below t (Ask q) on again = after_ask q (below q) again
after_step below t (Split first second) on again = Divided first second
after_step below t (Clash left right) on again = Clashed left right
after_step below t (Step.Over count) on again = Stopped Coordinates
after_step below t NoStep on again = Reached t

-- a step after which the run is at its end, whether it may make new trees or not
abbrev pub EndsRun : Step → Type 0
EndsRun (New tree) = ⊥
EndsRun (Ask q) = ⊥
EndsRun other = Unit {0}

-- so many steps make new trees, the first with so many asks answered and the others with none, and lead to a term
abbrev pub StepsTo : Tree → ℕ → Tree → ℕ → Tree → Type 0
StepsTo C zero t answered u = t ≡ u
StepsTo C (suc count) t answered u = (tree : Tree) × (step C t answered ≡ New tree) × StepsTo C count tree 0 u

-- so many new trees lead from one term to another, whichever asks were answered between
abbrev pub Reaches : Tree → ℕ → Tree → Tree → Type 0
Reaches C zero t u = t ≡ u
Reaches C (suc count) t u = (tree : Tree) × (answered : ℕ) × (step C t answered ≡ New tree) × Reaches C count tree u
