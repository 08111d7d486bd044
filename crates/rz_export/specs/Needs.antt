-- What claims need of a derivation.
use Rattle.std.specs.Prelude.{◌≡◌, ◌↔◌, ℕ, ◌<◌, List, [], length, map, Contains, Option, Some, None, slice_get}
use Rattle.std.specs.List.{concat}
use Rattle.rz_rules.specs.declared.nodes.Node.{Node}
use Rattle.rz_rules.specs.declared.judgments.Line.{Line}
use Rattle.rz_rules.specs.Judgment.{ids_of}
use Rattle.rz_rules.specs.File.{statement_at}
use Rattle.rz_drv.specs.declared.parts.Part.{Part}
use Rattle.rz_drv.specs.Part.{spelling}
use Rattle.rz_log.specs.declared.world.World.{World}
use Rattle.rz_log.specs.Log.{statements_of}
use Rattle.rz_log.specs.Reachable.{IsReachable, IsRising}
use Rattle.rz_log.specs.World.{statements_in}

-- the ids that a line names
abbrev pub names_of : Option Line → List ℕ
names_of (Some line) = ids_of line.says
names_of None = []

-- the ids that the lines of steps name, line by line
abbrev pub names_at : List Line → List ℕ → List ℕ
names_at lines steps = concat (map (λ step. names_of (slice_get lines step)) steps)

-- an id among others, or a kid of such a node, and so on
pub data IsNeeded (nodes : List Node) (named : List ℕ) : ℕ → Type 0 where
  Named : {id : ℕ} → Contains named id → IsNeeded nodes named id
  Kid : {id kid : ℕ} {node : Node} → IsNeeded nodes named id
      → slice_get nodes id ≡ Some node → Contains node.kids kid → IsNeeded nodes named kid

-- each line of a part is named by a claim, or is a premise of such a line, and so on
abbrev pub HasNoVainLine : Part → Type 0
HasNoVainLine part =
    (step : ℕ) → step < length part.lines → IsReachable part.lines (map (λ claim. claim.1) part.claims) step

-- each node of a part is named by a line, or is a kid of such a node, and so on
abbrev pub HasNoVainNode : Part → Type 0
HasNoVainNode part =
    (id : ℕ) → id < length part.nodes → IsNeeded part.nodes (concat (map (λ line. ids_of line.says) part.lines)) id

-- bytes that spell a part in which nothing is in vain
abbrev pub HasNothingInVain : List ℕ → Type 0
HasNothingInVain bytes = (part : Part) × (bytes ≡ spelling part) × HasNoVainLine part × HasNoVainNode part

-- the lines of a part say of trees, one by one, what the steps say that are claimed and those on which they rest, in their order
pub record HasTheSupport (w : World) (roots : List ℕ) (part : Part) : Type 0 where
  pub steps : List ℕ
  pub exact : (step : ℕ) → Contains steps step ↔ IsReachable w.log roots step
  pub rising : IsRising steps
  pub says : statements_of part.nodes part.lines ≡ map (statement_at (statements_in w)) steps
