-- An item by itself, whatever stands before it.
use Rattle.std.specs.Prelude.{◌≡◌, ℕ, ◌<◌, ◌^◌, List, ◌++◌, length, All}
use Rattle.rz_rules.specs.declared.nodes.Node.{Node}
use Rattle.rz_rules.specs.declared.judgments.Line.{Line}
use Rattle.rz_rules.specs.Name.{IsName}
use Rattle.rz_rules.specs.Form.{form}
use Rattle.rz_rules.specs.Tree.{IsLabelled}
use Rattle.rz_rules.specs.Judgment.{ids_of}
use Rattle.rz_rules.specs.File.{Item, NodeItem, StepItem, ClaimItem}
use Rattle.rz_drv.specs.declared.items.Item.{Item as ReadItem}
use Rattle.rz_drv.specs.declared.items.Item.TheVariants.{Node as ReadNode, Step as ReadStep, Claim as ReadClaim}

-- an item as the grammar has it
abbrev pub item_of : ReadItem → Item
item_of (ReadNode node) = NodeItem node
item_of (ReadStep line) = StepItem line
item_of (ReadClaim name step) = ClaimItem name step

-- numbers that a machine has
abbrev pub AreSmall : List ℕ → Type 0
AreSmall numbers = All (λ n. n < 2 ^ 64) numbers

-- a node has the number, the name and as many kids as its kind has
pub record IsNode (node : Node) : Type 0 where
  pub label : IsLabelled node.kind node.number node.name
  pub count : length node.kids ≡ length (form node.kind).kids
  pub small : AreSmall node.kids

-- a step's number is below 2^32
pub record IsLine (line : Line) : Type 0 where
  pub number : line.number < 2 ^ 32
  pub small : AreSmall (ids_of line.says ++ line.from)

-- a claim has a name
pub record IsClaim (name : List ℕ) (step : ℕ) : Type 0 where
  pub named : IsName name
  pub small : step < 2 ^ 64

abbrev pub IsItem : Item → Type 0
IsItem (NodeItem node) = IsNode node
IsItem (StepItem line) = IsLine line
IsItem (ClaimItem name step) = IsClaim name step
