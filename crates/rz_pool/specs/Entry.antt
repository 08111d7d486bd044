-- The entries of contexts over the nodes of a pool.
use Rattle.std.specs.Prelude.{◌≡◌, ℕ, ◌<◌, Bool, true, false, List, length}
use Rattle.rz_rules.specs.declared.kinds.Kind.{Kind}
use Rattle.rz_rules.specs.declared.kinds.Kind.TheVariants.{CubeEntry, TopeEntry, TermEntry}
use Rattle.rz_rules.specs.declared.kinds.Sort.{Sort}
use Rattle.rz_rules.specs.declared.kinds.Sort.TheVariants as sort
use Rattle.rz_rules.specs.declared.kinds.Space.TheVariants.{Points, Terms}
use Rattle.rz_rules.specs.declared.nodes.Node.{Node}
use Rattle.rz_rules.specs.Tree.{Tree, kind_at, sort_of, tree_of}
use Rattle.rz_rules.specs.Substitution.{Depth, only, total}
use Rattle.rz_rules.specs.Context as meaning
use Rattle.rz_rules.specs.Context.{OfCube, OfTope, OfType, with_entry}
use Rattle.rz_pool.specs.declared.entries.Entry.{Entry}
use Rattle.rz_pool.specs.declared.entries.Entry.TheVariants as entry
use Rattle.rz_pool.specs.declared.entries.Last.{Last}

-- the id in an entry, and its sort
abbrev pub tree_in : Entry → ℕ
tree_in (entry.Cube id) = id
tree_in (entry.Tope id) = id
tree_in (entry.Term id) = id

abbrev pub sort_in : Entry → Sort
sort_in (entry.Cube id) = sort.Cube
sort_in (entry.Tope id) = sort.Tope
sort_in (entry.Term id) = sort.Term

-- an id is that of a tree of a sort
abbrev pub IsAt : List Node → Sort → ℕ → Type 0
IsAt nodes sort id = (id < length nodes) × (sort_of (tree_of nodes id) ≡ sort)

abbrev pub IsEntryAt : List Node → Entry → Type 0
IsEntryAt nodes entry = IsAt nodes (sort_in entry) (tree_in entry)

-- an entry over trees
abbrev pub entry_over : List Node → Entry → meaning.Entry
entry_over nodes (entry.Cube id) = OfCube (tree_of nodes id)
entry_over nodes (entry.Tope id) = OfTope (tree_of nodes id)
entry_over nodes (entry.Term id) = OfType (tree_of nodes id)

-- variables, and the one that an entry binds
abbrev pub bound_by : Depth → Entry → Depth
bound_by depth (entry.Cube id) = total depth (only Points 1)
bound_by depth (entry.Tope id) = depth
bound_by depth (entry.Term id) = total depth (only Terms 1)

-- the last entry of the context with this id
pub record IsLast (nodes : List Node) (context : ℕ) (last : Last) : Type 0 where
  pub tree : tree_of nodes context ≡ with_entry (tree_of nodes last.before) (entry_over nodes last.entry)
  pub before : IsAt nodes sort.Context last.before
  pub entry : IsEntryAt nodes last.entry

-- a tree is no context with an entry
abbrev pub is_entry_kind : Kind → Bool
is_entry_kind CubeEntry = true
is_entry_kind TopeEntry = true
is_entry_kind TermEntry = true
is_entry_kind other = false

abbrev pub IsNoEntry : Tree → Type 0
IsNoEntry tree = is_entry_kind (kind_at tree) ≡ false

-- the kind of a context with this last entry
abbrev pub kind_of_entry : Entry → Kind
kind_of_entry (entry.Cube id) = CubeEntry
kind_of_entry (entry.Tope id) = TopeEntry
kind_of_entry (entry.Term id) = TermEntry

-- the entry with another tree
abbrev pub with_id : Entry → ℕ → Entry
with_id (entry.Cube id) new = entry.Cube new
with_id (entry.Tope id) new = entry.Tope new
with_id (entry.Term id) new = entry.Term new
