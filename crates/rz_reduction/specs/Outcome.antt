-- What a comparison answers, and what a list of pieces comes to.
use Rattle.std.specs.Prelude.{true, false, List, [], ◌∷◌}
use Rattle.rz_rules.specs.declared.verdicts.Limit.{Limit}
use Rattle.rz_rules.specs.declared.verdicts.Limit.TheVariants.{Coordinates}
use Rattle.rz_rules.specs.Tree.{Tree}
use Rattle.rz_rules.specs.Same.{same_tree}
use Rattle.rz_rules.specs.Validity.{Entailment, Valid, Invalid}
use Rattle.rz_reduction.specs.Piece.{Question, Piece, Cubes, Topes, Points, Compared, entail_each_other, points_equal}

pub data Comparison : Type 0 where
  Equal : Comparison
  Differ : Comparison
  -- a step met two annotations that do not agree; these are the two sides of the piece that fails
  Clashes : (left right : Tree) → Comparison
  Limited : (limit : Limit) → Comparison

pub data Outcome : Type 0 where
  Agreed : Outcome
  -- a piece of cubes, topes or terms doesn't agree
  Fails : (piece : Piece) → Outcome
  -- a piece of points doesn't
  PointsFail : (piece : Piece) → Outcome
  -- a comparison clashes, or a limit is met
  Clashing : (left right : Tree) → Outcome
  Stops : (limit : Limit) → Outcome

-- the first piece that doesn't agree, where terms are compared in this way
abbrev pub outcome_of : (Question → Comparison) → List Piece → Outcome
outcome_of below [] = Agreed
outcome_of below (Cubes left right ∷ pieces) =
    elim (same_tree left right) [ true ↦ outcome_of below pieces | false ↦ Fails (Cubes left right) ]
outcome_of below (Topes C phi phi' ∷ pieces) =
    elim (entail_each_other C phi phi') [
      | Valid ↦ outcome_of below pieces
      | Invalid ↦ Fails (Topes C phi phi')
      | Entailment.Over count ↦ Stops Coordinates
    ]
outcome_of below (Points C I s s' ∷ pieces) =
    elim (points_equal C I s s') [
      | Valid ↦ outcome_of below pieces
      | Invalid ↦ PointsFail (Points C I s s')
      | Entailment.Over count ↦ Stops Coordinates
    ]
outcome_of below (Compared q ∷ pieces) =
    elim (below q) [
      | Equal ↦ outcome_of below pieces
      | Differ ↦ Fails (Compared q)
      | Clashes left right ↦ Clashing left right
      | Limited limit ↦ Stops limit
    ]
