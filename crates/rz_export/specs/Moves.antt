-- Nodes, lines and claims that name others by their places in lists.
use Rattle.std.specs.Prelude.{◌≡◌, ℕ, List, map, All, Contains, Some, slice_get}
use Rattle.std.specs.List.{AllZip}
use Rattle.rz_rules.specs.declared.nodes.Node.{Node}
use Rattle.rz_rules.specs.declared.judgments.Judgment.{Judgment}
use Rattle.rz_rules.specs.declared.judgments.Line.{Line}
use Rattle.rz_rules.specs.Judgment.{ids_of, kind_of}
use Rattle.rz_export.specs.declared.claims.Claimed.{Claimed}

-- these numbers stand in the list at these places
abbrev pub ArePlaces : List ℕ → List ℕ → List ℕ → Type 0
ArePlaces list numbers places = map (slice_get list) places ≡ map (λ number. Some number) numbers

-- a node that names its kids by their places
pub record IsMovedNode (ids : List ℕ) (old new : Node) : Type 0 where
  pub kind : new.kind ≡ old.kind
  pub number : new.number ≡ old.number
  pub name : new.name ≡ old.name
  pub kids : ArePlaces ids old.kids new.kids

-- a judgment that names nodes by their places
pub record IsMovedJudgment (ids : List ℕ) (old new : Judgment) : Type 0 where
  pub kind : kind_of new ≡ kind_of old
  pub named : ArePlaces ids (ids_of old) (ids_of new)

-- a line that names nodes and premises by their places
pub record IsMovedLine (ids steps : List ℕ) (old new : Line) : Type 0 where
  pub row : new.row ≡ old.row
  pub number : new.number ≡ old.number
  pub says : IsMovedJudgment ids old.says new.says
  pub from : ArePlaces steps old.from new.from

-- a claim that names its step by its place
pub record IsMovedClaim (steps : List ℕ) (old : Claimed) (new : List ℕ × ℕ) : Type 0 where
  pub name : new.0 ≡ old.name
  pub step : slice_get steps new.1 ≡ Some old.step

-- the nodes of some ids, the lines of some steps, and claims, in their order, by places
abbrev pub AreMovedNodes : List Node → List ℕ → List Node → Type 0
AreMovedNodes nodes ids moved =
    AllZip (λ id new. (old : Node) × (slice_get nodes id ≡ Some old) × IsMovedNode ids old new) ids moved

abbrev pub AreMovedLines : List Line → List ℕ → List ℕ → List Line → Type 0
AreMovedLines lines ids steps moved =
    AllZip (λ step new. (old : Line) × (slice_get lines step ≡ Some old) × IsMovedLine ids steps old new) steps moved

abbrev pub AreMovedClaims : List ℕ → List Claimed → List (List ℕ × ℕ) → Type 0
AreMovedClaims steps claims moved = AllZip (IsMovedClaim steps) claims moved

-- kids of nodes of these ids are among them
abbrev pub AreClosed : List Node → List ℕ → Type 0
AreClosed nodes ids = (id : ℕ) (node : Node) → Contains ids id → slice_get nodes id ≡ Some node → All (Contains ids) node.kids

-- lines of these steps name these ids alone
abbrev pub NameAmong : List Line → List ℕ → List ℕ → Type 0
NameAmong lines steps ids =
    (step : ℕ) (line : Line) → Contains steps step → slice_get lines step ≡ Some line → All (Contains ids) (ids_of line.says)

-- premises of lines of these steps are among them
abbrev pub RestAmong : List Line → List ℕ → Type 0
RestAmong lines steps = (step : ℕ) (line : Line) → Contains steps step → slice_get lines step ≡ Some line → All (Contains steps) line.from
