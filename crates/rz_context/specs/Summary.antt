-- What is kept of each context of a pool.
use Rattle.std.specs.Prelude.{◌≡◌, ℕ, ◌+◌, ◌≤◌, ◌<◌, List, [], ◌∷◌, length, Some, slice_get}
use Rattle.rz_rules.specs.declared.kinds.Kind.TheVariants.{CubeEntry, TopeEntry, TermEntry}
use Rattle.rz_rules.specs.declared.nodes.Node.{Node}
use Rattle.rz_rules.specs.Tree.{Tree, At, Nil, And, tree_of}
use Rattle.rz_rules.specs.Context.{Entry, OfCube, OfTope, OfType, with_entries, depth_of}
use Rattle.rz_pool.specs.Counts.{depth_of as depth_of_counts}
use Rattle.rz_rules.specs.Cube.{cubes_of}
use Rattle.rz_pool.specs.declared.entries.Entry.{Entry as PoolEntry}
use Rattle.rz_pool.specs.declared.entries.Entry.TheVariants as entry
use Rattle.rz_pool.specs.declared.entries.Last.{Last}
use Rattle.rz_context.specs.declared.summaries.Measure.{Measure}
use Rattle.rz_context.specs.declared.summaries.Measure.TheVariants as measure
use Rattle.rz_context.specs.declared.summaries.Summary.{Summary}
use Rattle.rz_context.specs.declared.summaries.FoundEntry.{FoundEntry}
use Rattle.rz_pool.specs.Entry.{IsLast, entry_over}

-- what an entry adds to a measure of a context
abbrev pub weight : Measure → Entry → ℕ
weight measure.Entries entry = 1
weight measure.Cubes (OfCube cube) = 1
weight measure.Cubes (OfTope tope) = 0
weight measure.Cubes (OfType type) = 0
weight measure.Terms (OfCube cube) = 0
weight measure.Terms (OfTope tope) = 0
weight measure.Terms (OfType type) = 1

-- how many entries of a measure a context has
abbrev pub measured : Measure → Tree → ℕ
measured by (At CubeEntry number name (And context (And cube Nil))) = measured by context + weight by (OfCube cube)
measured by (At TopeEntry number name (And context (And tope Nil))) = measured by context + weight by (OfTope tope)
measured by (At TermEntry number name (And context (And type Nil))) = measured by context + weight by (OfType type)
measured by other = 0

-- how many of these entries a measure counts
abbrev pub counted : Measure → List Entry → ℕ
counted by [] = 0
counted by (entry ∷ further_out) = counted by further_out + weight by entry

-- a context stands at the start of another
abbrev pub IsStart : Tree → Tree → Type 0
IsStart outer context = (inner : List Entry) × (context ≡ with_entries outer inner)

-- what a summary says of the measures of a context
abbrev pub measure_in : Summary → Measure → ℕ
measure_in summary measure.Entries = summary.entries
measure_in summary measure.Cubes = summary.binds.points
measure_in summary measure.Terms = summary.binds.terms

-- what is kept of the context with this id: its measures, a context at its start, and one with its cubes
pub record IsSummary (nodes : List Node) (id : ℕ) (summary : Summary) : Type 0 where
  pub measures : (by : Measure) → measure_in summary by ≡ measured by (tree_of nodes id)
  pub cubes : cubes_of (tree_of nodes summary.scope) ≡ cubes_of (tree_of nodes id)
  pub start : IsStart (tree_of nodes summary.further_out) (tree_of nodes id)

-- the context that ends with the last cube entry, where an entry comes behind those of a context with this one
abbrev pub IsScopeWith : ℕ → PoolEntry → ℕ → ℕ → Type 0
IsScopeWith id (entry.Cube cube) before scope = scope ≡ id
IsScopeWith id (entry.Tope tope) before scope = scope ≡ before
IsScopeWith id (entry.Term type) before scope = scope ≡ before

-- a summary leads to no later context
abbrev pub IsLow : ℕ → Summary → Type 0
IsLow id summary = (summary.further_out ≤ id) × (summary.scope ≤ id)

abbrev pub AreLow : List Summary → Type 0
AreLow summaries = (id : ℕ) (summary : Summary) → slice_get summaries id ≡ Some summary → IsLow id summary

-- summaries are kept of the first nodes
pub record AreSummaries (nodes : List Node) (summaries : List Summary) : Type 0 where
  pub few : length summaries ≤ length nodes
  pub low : AreLow summaries
  pub each : (id : ℕ) (summary : Summary) → slice_get summaries id ≡ Some summary → IsSummary nodes id summary

-- a context further out than one, which has more entries of a measure than so many
pub record IsNext (nodes : List Node) (at : ℕ) (by : Measure) (before next : ℕ) : Type 0 where
  pub start : IsStart (tree_of nodes next) (tree_of nodes at)
  pub more : before < measured by (tree_of nodes next)

-- the context at the start of another whose last entry is the first with so many before it
pub record IsBehind (nodes : List Node) (context : ℕ) (by : Measure) (before : ℕ) (found : ℕ × Last) : Type 0 where
  pub low : found.0 ≤ context
  pub start : IsStart (tree_of nodes found.0) (tree_of nodes context)
  pub last : IsLast nodes found.0 found.1
  pub more : before < measured by (tree_of nodes found.0)
  pub enough : measured by (tree_of nodes found.1.before) ≤ before

-- an entry of a context that a measure counts, with so many behind it, and what is bound behind it
pub record IsFound (nodes : List Node) (context : ℕ) (by : Measure) (number : ℕ) (found : FoundEntry) : Type 0 where
  pub inner : List Entry
  pub at : ℕ
  pub last : IsLast nodes at found.last
  pub tree : tree_of nodes context ≡ with_entries (tree_of nodes at) inner
  pub behind : counted by inner ≡ number
  pub counts : weight by (entry_over nodes found.last.entry) ≡ 1
  pub depth : depth_of_counts found.depth ≡ depth_of inner
