-- Judgments that move from one context to another, over the nodes of a pool.
use Rattle.std.specs.Prelude.{◌≡◌, ℕ, ◌<◌, ◌^◌, ◌↔◌, List, length, map, Option, Some, None, All}
use Rattle.rz_rules.specs.declared.kinds.Sort.TheVariants as sort
use Rattle.rz_rules.specs.declared.kinds.Space.TheVariants.{Points, Terms}
use Rattle.rz_rules.specs.declared.rows.Scheme.{Scheme}
use Rattle.rz_rules.specs.declared.rows.Scheme.TheVariants as scheme
use Rattle.rz_rules.specs.declared.nodes.Node.{Node}
use Rattle.rz_rules.specs.declared.judgments.Judgment.{Judgment}
use Rattle.rz_rules.specs.Tree.{Tree, IsTree, tree_of, trees_in}
use Rattle.rz_rules.specs.Substitution.{Changes, IndicesBelow, none, only, raising, putting}
use Rattle.rz_rules.specs.Form.{sort_in}
use Rattle.rz_rules.specs.Context as meaning
use Rattle.rz_rules.specs.Context.{OfCube, OfTope, OfType, with_entry, with_entries, changed_entries, depth_of}
use Rattle.rz_rules.specs.Judgment.{IsStatement, Statement, statement}
use Rattle.rz_rules.specs.Structural.{has, holds}
use Rattle.rz_rules.specs.Tope.{equal_points}
use Rattle.rz_pool.specs.Counts.{depth_of as depth_of_counts}
use Rattle.rz_pool.specs.declared.entries.Entry.{Entry}
use Rattle.rz_pool.specs.declared.entries.Entry.TheVariants as entry
use Rattle.rz_pool.specs.declared.entries.Last.{Last}
use Rattle.rz_kernel_rows.specs.declared.moves.Change.{Change}
use Rattle.rz_kernel_rows.specs.declared.moves.Change.TheVariants.{Nothing, Opens, Puts}
use Rattle.rz_kernel_rows.specs.declared.moves.Extended.{Extended}
use Rattle.rz_kernel_rows.specs.Context.{IsAt, IsEntryAt, entries_over, entry_over}
use Rattle.rz_kernel_rows.specs.Line.{IsJudgmentOver}
pub use Rattle.rz_pool.specs.Entry.{with_id}

-- what becomes of the variables
abbrev pub changes_of : List Node → Change → Changes
changes_of nodes Nothing = raising none none
changes_of nodes (Opens space) = raising none (only space 1)
changes_of nodes (Puts space value) = putting space none (tree_of nodes value)

-- what takes the place of a variable is there, and has its sort
abbrev pub IsThere : List Node → Change → Type 0
IsThere nodes Nothing = Unit {0}
IsThere nodes (Opens space) = Unit {0}
IsThere nodes (Puts space value) = IsAt nodes (sort_in space) value

-- the context behind which entries were made anew, and what they bind
pub record IsExtended (old new : List Node) (changes : Changes) (outer : ℕ) (inner : List Entry) (made : Extended) : Type 0 where
  pub there : IsAt new sort.Context made.context
  pub tree : tree_of new made.context ≡ with_entries (tree_of old outer) (changed_entries changes (entries_over old inner))
  pub depth : depth_of_counts made.depth ≡ depth_of (entries_over old inner)

-- an index of that context reaches 2^32
abbrev pub IsNoContext : List Node → Changes → ℕ → List Entry → Type 0
IsNoContext old changes outer inner =
    IsTree sort.Context (with_entries (tree_of old outer) (changed_entries changes (entries_over old inner))) → ⊥

-- the ids of trees, or none where an index in one of them reaches 2^32
abbrev pub AreAnswersOf : List Node → List Tree → Option (List ℕ) → Type 0
AreAnswersOf nodes trees (Some ids) = All (λ id. id < length nodes) ids × (map (tree_of nodes) ids ≡ trees)
AreAnswersOf nodes trees None = All (IndicesBelow (2 ^ 32)) trees → ⊥

-- the judgment, or none where an index in it reaches 2^32
abbrev pub IsJudgmentFor : List Node → Statement → Option Judgment → Type 0
IsJudgmentFor nodes says (Some made) = IsJudgmentOver nodes made × (statement (trees_in nodes) made ≡ says)
IsJudgmentFor nodes says None = IsStatement says → ⊥

-- the only conclusion of a rule, or none where it has none
abbrev pub IsConclusion : List Node → (Statement → Type 0) → Option Judgment → Type 0
IsConclusion nodes Concludes (Some made) =
    IsJudgmentOver nodes made × ((says : Statement) → Concludes says ↔ (says ≡ statement (trees_in nodes) made))
IsConclusion nodes Concludes None = (says : Statement) → IsStatement says → Concludes says → ⊥

-- an entry and what stands before it are there
pub record IsEntryBefore (nodes : List Node) (at : Last) : Type 0 where
  pub before : IsAt nodes sort.Context at.before
  pub entry : IsEntryAt nodes at.entry

-- a judgment says that a term has the type of a term entry
pub record AllowsTerm (nodes : List Node) (at : Last) (allowed : Judgment) (value : ℕ) : Type 0 where
  pub there : IsAt nodes sort.Term value
  pub type : ℕ
  pub entry : at.entry ≡ entry.Term type
  pub says : statement (trees_in nodes) allowed ≡ has (tree_of nodes at.before) (tree_of nodes value) (tree_of nodes type)

abbrev pub AllowsNoTerm : List Node → Last → Judgment → Type 0
AllowsNoTerm nodes at allowed =
    (type value : Tree) → entry_over nodes at.entry ≡ OfType type
    → statement (trees_in nodes) allowed ≡ has (tree_of nodes at.before) value type → ⊥

-- a judgment says that a point equals itself in the cube of a cube entry
pub record AllowsPoint (nodes : List Node) (at : Last) (allowed : Judgment) (point : ℕ) : Type 0 where
  pub there : IsAt nodes sort.Point point
  pub cube : ℕ
  pub entry : at.entry ≡ entry.Cube cube
  pub says : statement (trees_in nodes) allowed
      ≡ holds (tree_of nodes at.before) (equal_points (tree_of nodes cube) (tree_of nodes point) (tree_of nodes point))

abbrev pub AllowsNoPoint : List Node → Last → Judgment → Type 0
AllowsNoPoint nodes at allowed =
    (cube point : Tree) → entry_over nodes at.entry ≡ OfCube cube
    → statement (trees_in nodes) allowed ≡ holds (tree_of nodes at.before) (equal_points cube point point) → ⊥

-- a judgment says that the tope of an entry holds
abbrev pub IsHeld : List Node → Last → Judgment → Type 0
IsHeld nodes at allowed =
    (tope : Tree) × (entry_over nodes at.entry ≡ OfTope tope)
    × (statement (trees_in nodes) allowed ≡ holds (tree_of nodes at.before) tope)

-- how an entry goes by a rule, where a judgment allows it, and what then becomes of the variables
abbrev pub Removes : Scheme → Tree → meaning.Entry → Statement → Changes → Type 0
Removes scheme.TermCut outer (OfType type) allowed changes =
    (value : Tree) × (allowed ≡ has outer value type) × (changes ≡ putting Terms none value)
Removes scheme.CubeCut outer (OfCube cube) allowed changes =
    (point : Tree) × (allowed ≡ holds outer (equal_points cube point point)) × (changes ≡ putting Points none point)
Removes scheme.TopeCut outer (OfTope tope) allowed changes = (allowed ≡ holds outer tope) × (changes ≡ raising none none)
Removes scheme outer entry allowed changes = ⊥

-- the rules by which an entry goes
abbrev pub IsRemoval : Scheme → Type 0
IsRemoval scheme.TermCut = Unit {0}
IsRemoval scheme.CubeCut = Unit {0}
IsRemoval scheme.TopeCut = Unit {0}
IsRemoval scheme = ⊥

-- the same by ids
pub record IsRemovedBy (nodes : List Node) (scheme : Scheme) (at : Last) (allowed : Judgment) (change : Change) : Type 0 where
  pub there : IsThere nodes change
  pub removes : Removes scheme (tree_of nodes at.before) (entry_over nodes at.entry) (statement (trees_in nodes) allowed) (changes_of nodes change)

abbrev pub IsNotRemoved : List Node → Scheme → Last → Judgment → Type 0
IsNotRemoved nodes scheme at allowed =
    (changes : Changes)
    → Removes scheme (tree_of nodes at.before) (entry_over nodes at.entry) (statement (trees_in nodes) allowed) changes → ⊥

-- an equality of points by the ids of its parts
pub record IsEqualityOf (nodes : List Node) (tope : ℕ) (parts : ℕ × ℕ × ℕ) : Type 0 where
  pub tree : tree_of nodes tope ≡ equal_points (tree_of nodes parts.0) (tree_of nodes parts.1) (tree_of nodes parts.2)
  pub cube : parts.0 < length nodes
  pub left : IsAt nodes sort.Point parts.1
  pub right : IsAt nodes sort.Point parts.2

abbrev pub IsNoEquality : Tree → Type 0
IsNoEquality tree = (cube left right : Tree) → tree ≡ equal_points cube left right → ⊥

-- the only conclusion for what is said, or none
abbrev pub IsConclusionFor : List Node → Statement → (Statement → Type 0) → Option Judgment → Type 0
IsConclusionFor nodes says Concludes (Some made) =
    IsJudgmentOver nodes made × (Concludes says ↔ (says ≡ statement (trees_in nodes) made))
IsConclusionFor nodes says Concludes None = Concludes says → ⊥

-- the only type, or none
abbrev pub IsTypeFor : List Node → (Tree → Type 0) → Option ℕ → Type 0
IsTypeFor nodes Types (Some id) = IsAt nodes sort.Term id × ((type : Tree) → Types type ↔ (type ≡ tree_of nodes id))
IsTypeFor nodes Types None = (type : Tree) → IsTree sort.Term type → Types type → ⊥
