-- Derivations: lists of lines, each of which follows from those before it.
use Rattle.std.specs.Prelude.{◌≡◌, ℕ, List, [], ◌∷◌, ◌++◌, map, Some, slice_get}
use Rattle.rz_rules.specs.Judgment.{Statement}
use Rattle.rz_rules.specs.Derivation.{Step, Follows}

-- each line follows from these judgments and the lines before it
abbrev pub FollowAfter : List Statement → List Step → Type 0
FollowAfter earlier [] = Unit {0}
FollowAfter earlier (step ∷ steps) = Follows earlier step × FollowAfter (earlier ++ step.says ∷ []) steps

abbrev pub IsDerivation : List Step → Type 0
IsDerivation steps = FollowAfter [] steps

-- some derivation has a line that says it
abbrev pub Derives : Statement → Type 0
Derives statement =
    (steps : List Step) × IsDerivation steps × (place : ℕ) × (slice_get (map (λ (step : Step). step.says) steps) place ≡ Some statement)
