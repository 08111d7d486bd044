-- Contexts over the nodes of a pool, and where they are cut.
use Rattle.std.specs.Prelude.{◌≡◌, ℕ, ◌<◌, List, length, All, map}
use Rattle.rz_rules.specs.declared.kinds.Sort.TheVariants as sort
use Rattle.rz_rules.specs.declared.kinds.Space.TheVariants.{Terms}
use Rattle.rz_rules.specs.declared.nodes.Node.{Node}
use Rattle.rz_rules.specs.Tree.{Tree, tree_of}
use Rattle.rz_rules.specs.Context as meaning
use Rattle.rz_rules.specs.Context.{OfCube, OfTope, OfType, with_entry, with_entries, depth_of}
use Rattle.rz_pool.specs.declared.entries.Entry.{Entry}
pub use Rattle.rz_pool.specs.Entry.{IsAt, IsEntryAt, IsLast, bound_by, entry_over, sort_in, tree_in}
use Rattle.rz_kernel_rows.specs.declared.contexts.Cut.{Cut}
use Rattle.rz_kernel_rows.specs.declared.contexts.Split.{Split}

abbrev pub entries_over : List Node → List Entry → List meaning.Entry
entries_over nodes entries = map (entry_over nodes) entries

-- a context with so many entries behind the cut
pub record IsCut (nodes : List Node) (context count : ℕ) (cut : Cut) : Type 0 where
  pub tree : tree_of nodes context ≡ with_entries (tree_of nodes cut.outer) (entries_over nodes cut.inner.items)
  pub counted : length cut.inner.items ≡ count
  pub outer : cut.outer < length nodes
  pub inner : All (IsEntryAt nodes) cut.inner.items

abbrev pub NoCut : Tree → ℕ → Type 0
NoCut tree count = (outer : Tree) (inner : List meaning.Entry) → length inner ≡ count → tree ≡ with_entries outer inner → ⊥

-- a context that is cut at an entry
pub record IsCutAt (nodes : List Node) (context : ℕ) (split : Split) : Type 0 where
  pub tree : tree_of nodes context
      ≡ with_entries (with_entry (tree_of nodes split.at.before) (entry_over nodes split.at.entry)) (entries_over nodes split.inner.items)
  pub before : IsAt nodes sort.Context split.at.before
  pub entry : IsEntryAt nodes split.at.entry
  pub inner : All (IsEntryAt nodes) split.inner.items

-- so many entries stand behind that at which it is cut
pub record IsSplit (nodes : List Node) (context number : ℕ) (split : Split) : Type 0 where
  pub cut : IsCutAt nodes context split
  pub counted : length split.inner.items ≡ number

abbrev pub NoSplit : Tree → ℕ → Type 0
NoSplit tree number =
    (outer : Tree) (entry : meaning.Entry) (inner : List meaning.Entry) → length inner ≡ number
    → tree ≡ with_entries (with_entry outer entry) inner → ⊥

-- no term entry has so many term entries behind it
abbrev pub NoTermSplit : Tree → ℕ → Type 0
NoTermSplit tree index =
    (outer : Tree) (type : Tree) (inner : List meaning.Entry) → depth_of inner Terms ≡ index
    → tree ≡ with_entries (with_entry outer (OfType type)) inner → ⊥
