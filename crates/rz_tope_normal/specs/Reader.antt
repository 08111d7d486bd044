-- What was read so far.
use Rattle.std.specs.Prelude.{◌≡◌, ℕ, ◌<◌, nat_eq, List, length, All, Some, IsSome, slice_get}
use Rattle.std.specs.HashMap.{get}
use Rattle.rz_rules.specs.declared.kinds.Sort.{Sort}
use Rattle.rz_rules.specs.declared.kinds.Sort.TheVariants as sort
use Rattle.rz_rules.specs.declared.coordinates.Coord.{Coord}
use Rattle.rz_rules.specs.declared.nodes.Node.{Node}
use Rattle.rz_rules.specs.Tree.{Tree, sort_of, tree_of}
use Rattle.rz_rules.specs.Cube.{Binders}
use Rattle.rz_tope_proof.specs.declared.proof.Inference.{Inference}
use Rattle.rz_tope_proof.specs.declared.parts.Part.{Part}
use Rattle.rz_tope_normal.specs.declared.reader.Reader.{Reader}
use Rattle.rz_tope_normal.specs.declared.settings.Setting.{Setting}
use Rattle.rz_tope_normal.specs.Norm.{AreNorms, IsKnown}
use Rattle.rz_tope_normal.specs.Read.{ArePartsOf, IsFine, SaysTope}

-- a tope was read: its part says it
pub record IsCachedPart (nodes : List Node) (parts : List Part) (id number : ℕ) : Type 0 where
  pub live : id < length nodes
  pub says : SaysTope nodes parts number (tree_of nodes id)

-- what is known of points and parts is so
pub record IsReader (nodes : List Node) (context : Tree) (list : List Coord) (setting : Setting) (all : List Inference) (reader : Reader) : Type 0 where
  pub norms : AreNorms nodes context setting.entries.items all reader.norms
  pub parts : ArePartsOf nodes context list setting.places all reader.parts.items
  pub topes : (id number : ℕ) → get nat_eq reader.topes id ≡ Some number → IsCachedPart nodes reader.parts.items id number

-- a tree of a sort is read: a point is known, and a tope has a part
abbrev pub IsDoneAs : Reader → ℕ → Sort → Type 0
IsDoneAs reader id sort.Point = IsKnown reader.norms id
IsDoneAs reader id sort.Tope = IsSome (get nat_eq reader.topes id)
IsDoneAs reader id other = Unit {0}

abbrev pub IsDone : List Node → Reader → ℕ → Type 0
IsDone nodes reader id = IsDoneAs reader id (sort_of (tree_of nodes id))

-- the kids of a node are
abbrev pub AreDone : List Node → Reader → ℕ → Type 0
AreDone nodes reader id = (node : Node) → slice_get nodes id ≡ Some node → All (IsDone nodes reader) node.kids

-- a tree of a sort may be read: a tope is over the binders, and what it compares is in a list
abbrev pub IsFineAs : Binders → List Coord → Sort → Tree → Type 0
IsFineAs binders list sort.Tope tree = IsFine binders list tree
IsFineAs binders list other tree = Unit {0}

-- what was read stays read, and what parts say they say still
pub record KeepsRead (old : List Node) (before : Reader) (new : List Node) (after : Reader) : Type 0 where
  pub done : (id : ℕ) → id < length old → IsDone old before id → IsDone new after id
  pub says : (number : ℕ) (tope : Tree) → SaysTope old before.parts.items number tope → SaysTope new after.parts.items number tope
