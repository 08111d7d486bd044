-- Places in contexts, behind which so many entries stand.
use Rattle.std.specs.Prelude.{◌≡◌, ℕ, ◌<◌, ◌+◌, List, length}
use Rattle.rz_rules.specs.declared.kinds.Space.{Space}
use Rattle.rz_rules.specs.declared.kinds.Space.TheVariants.{Points, Terms}
use Rattle.rz_rules.specs.Substitution.{Depth, none, only}
use Rattle.rz_rules.specs.declared.nodes.Node.{Node}
use Rattle.rz_rules.specs.Tree.{Tree, tree_of}
use Rattle.rz_rules.specs.Context.{Entry, depth_of, with_entries}
use Rattle.rz_pool.specs.Counts as counts
use Rattle.rz_pool.specs.declared.entries.Entry as scope
use Rattle.rz_pool.specs.declared.entries.Entry.TheVariants as entry
use Rattle.rz_pool.specs.Entry.{IsEntryAt, entry_over}
use Rattle.rz_lemmas.specs.declared.places.Outside.{Outside}
use Rattle.rz_lemmas.specs.declared.places.Found.{Found}

-- a context with so many entries behind what stands outside
pub record HasBehind (context : Tree) (number : ℕ) (outer : Tree) (inner : List Entry) : Type 0 where
  pub is : context ≡ with_entries outer inner
  pub count : length inner ≡ number

-- what stands outside of entries, and what these bind
pub record IsOutside (nodes : List Node) (found : Outside) (outer : Tree) (inner : List Entry) : Type 0 where
  pub live : found.context < length nodes
  pub tree : tree_of nodes found.context ≡ outer
  pub depth : (space : Space) → counts.depth_of found.depth space ≡ depth_of inner space

-- an entry, and what those behind it bind
pub record IsEntryFound (nodes : List Node) (found : Found) (entry : Entry) (inner : List Entry) : Type 0 where
  pub there : IsEntryAt nodes found.entry
  pub is : entry_over nodes found.entry ≡ entry
  pub depth : (space : Space) → counts.depth_of found.depth space ≡ depth_of inner space

-- the variable that an entry binds
abbrev pub bound_in : scope.Entry → Depth
bound_in (entry.Cube id) = only Points 1
bound_in (entry.Tope id) = none
bound_in (entry.Term id) = only Terms 1

-- a walk from the innermost entry outwards: so many entries are left
pub record IsWalking (nodes : List Node) (context number : ℕ) (found : Outside) (left : ℕ) : Type 0 where
  pub live : found.context < length nodes
  pub walked : (outer : Tree) (inner : List Entry) → HasBehind (tree_of nodes context) number outer inner
      → (rest : List Entry) × HasBehind (tree_of nodes found.context) left outer rest
      × ((space : Space) → counts.depth_of found.depth space + depth_of rest space ≡ depth_of inner space)
