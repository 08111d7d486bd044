-- Lines over the nodes of a pool, and logs of them.
use Rattle.std.specs.Prelude.{◌≡◌, ℕ, ◌<◌, ◌^◌, List, length, take, map, All, Some, slice_get}
use Rattle.rz_rules.specs.declared.nodes.Node.{Node}
use Rattle.rz_rules.specs.declared.judgments.Judgment.{Judgment}
use Rattle.rz_rules.specs.declared.judgments.Line.{Line}
use Rattle.rz_rules.specs.Tree.{trees_in}
use Rattle.rz_rules.specs.Judgment.{Statement, ids_of, statement}
use Rattle.rz_rules.specs.Derivation.{Follows, Step}
use Rattle.rz_rules.specs.File.{step_over}

-- what the lines say
abbrev pub judgments_of : List Line → List Judgment
judgments_of lines = map (λ line. line.says) lines

-- what they say of trees
abbrev pub statements_of : List Node → List Line → List Statement
statements_of nodes lines = map (statement (trees_in nodes)) (judgments_of lines)

-- a line over trees
abbrev pub step_of : List Node → Line → Step
step_of nodes line = step_over (trees_in nodes) line

-- a judgment, and each of some lines, names nodes below a bound
abbrev pub IsBelow : ℕ → Judgment → Type 0
IsBelow bound says = All (λ id. id < bound) (ids_of says)

abbrev pub AreBelow : ℕ → List Line → Type 0
AreBelow bound lines = All (λ line. IsBelow bound line.says) lines

-- a line names nodes that are there, and its number is one that a file can have
pub record IsLineOver (nodes : List Node) (line : Line) : Type 0 where
  pub live : IsBelow (length nodes) line.says
  pub number : line.number < 2 ^ 32

-- each line follows from those before it
pub record IsSoundLog (nodes : List Node) (lines : List Line) : Type 0 where
  pub over : All (IsLineOver nodes) lines
  pub follow : (step : ℕ) (line : Line) → slice_get lines step ≡ Some line
      → Follows (statements_of nodes (take step lines)) (step_of nodes line)

-- each line's premises stand before it
abbrev pub AreEarlier : List Line → Type 0
AreEarlier lines = (step : ℕ) (line : Line) → slice_get lines step ≡ Some line → All (λ premise. premise < step) line.from
