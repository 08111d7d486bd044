-- A run: steps until the term is normal or splits. The questions of its steps are answered in a given way.
use Rattle.std.specs.Prelude.{ℕ, zero, suc}
use Rattle.rz_rules.specs.declared.verdicts.Limit.{Limit}
use Rattle.rz_rules.specs.declared.verdicts.Limit.TheVariants.{Steps, Coordinates}
use Rattle.rz_rules.specs.Tree.{Tree}
use Rattle.rz_reduction.specs.Piece.{Question, left_side, right_side}
use Rattle.rz_reduction.specs.Step.{Redex, Normal, Contracts, Splits, redex, Step, New, Ask, Split, Clash, NoStep, step}
use Rattle.rz_reduction.specs.Outcome.{Comparison, Outcome, Agreed, Fails, PointsFail, Clashing, Stops, outcome_of}

pub data End : Type 0 where
  -- the term is normal
  Reached : (tree : Tree) → End
  -- it splits
  Divided : (first second : Tree) → End
  -- two annotations do not agree; these are the two sides of the piece that fails
  Clashed : (left right : Tree) → End
  Stopped : (limit : Limit) → End

-- Where no new tree may be made any more: a new tree and an ask are too many, and all else is as it is.
abbrev pub at_limit : Tree → Step → End
at_limit t (New tree) = Stopped Steps
at_limit t (Ask q) = Stopped Steps
at_limit t (Split first second) = Divided first second
at_limit t (Clash left right) = Clashed left right
at_limit t (Step.Over count) = Stopped Coordinates
at_limit t NoStep = Reached t

-- where the pieces agree, the run goes on with the new tree
abbrev pub after_pieces : Outcome → Tree → (Tree → End) → End
after_pieces Agreed tree on = on tree
after_pieces (Fails piece) tree on = Clashed (left_side piece) (right_side piece)
after_pieces (PointsFail piece) tree on = Clashed (left_side piece) (right_side piece)
after_pieces (Clashing left right) tree on = Clashed left right
after_pieces (Stops limit) tree on = Stopped limit

abbrev pub after_redex : (Question → Comparison) → Tree → Redex → (Tree → End) → End
after_redex below t Normal on = Reached t
after_redex below t (Contracts pieces tree) on = after_pieces (outcome_of below pieces) tree on
after_redex below t (Splits first second) on = Divided first second
after_redex below t (Redex.Over count) on = Stopped Coordinates

-- a run that may make so many new trees, one for each step; asks are not counted
abbrev pub run_for : (Question → Comparison) → ℕ → Tree → Tree → End
run_for below zero C t = at_limit t (step C t 0)
run_for below (suc left) C t = after_redex below t (redex C t) (λ tree. run_for below left C tree)

-- the most new trees of one run
unfoldable pub step_limit : ℕ
step_limit = 100000

-- a run; in a comparison at depth d + 1 the asks are answered at depth d
abbrev pub run : (Question → Comparison) → Tree → Tree → End
run below C t = run_for below step_limit C t
