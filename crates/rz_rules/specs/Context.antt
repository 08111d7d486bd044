-- Contexts as lists of entries, which can be cut and changed.
use Rattle.std.specs.Prelude.{◌≡◌, List, [], ◌∷◌}
use Rattle.rz_rules.specs.declared.kinds.Kind.TheVariants.{CubeEntry, TopeEntry, TermEntry}
use Rattle.rz_rules.specs.declared.kinds.Space.TheVariants.{Points, Terms}
use Rattle.rz_rules.specs.Tree.{Tree, At, Nil, And}
use Rattle.rz_rules.specs.Substitution.{Depth, Changes, changed, none, only, total}

-- an entry of a context: a cube variable of a cube, a tope that holds, or a term variable of a type
pub data Entry : Type 0 where
  OfCube : (cube : Tree) → Entry
  OfTope : (tope : Tree) → Entry
  OfType : (type : Tree) → Entry

-- a context with one entry more
abbrev pub with_entry : Tree → Entry → Tree
with_entry context (OfCube cube) = At CubeEntry 0 [] (And context (And cube Nil))
with_entry context (OfTope tope) = At TopeEntry 0 [] (And context (And tope Nil))
with_entry context (OfType type) = At TermEntry 0 [] (And context (And type Nil))

-- a context with these entries more; the first of the list stands innermost
abbrev pub with_entries : Tree → List Entry → Tree
with_entries context [] = context
with_entries context (entry ∷ further_out) = with_entry (with_entries context further_out) entry

-- a tree that is no context with an entry
abbrev pub HasNoEntry : Tree → Type 0
HasNoEntry tree = (outer : Tree) (entry : Entry) → tree ≡ with_entry outer entry → ⊥

-- the variable that an entry binds
abbrev pub bound_by : Entry → Depth
bound_by (OfCube cube) = only Points 1
bound_by (OfTope tope) = none
bound_by (OfType type) = only Terms 1

-- the variables that entries bind together
abbrev pub depth_of : List Entry → Depth
depth_of [] = none
depth_of (entry ∷ further_out) = total (depth_of further_out) (bound_by entry)

-- an entry at a depth, where variables change
abbrev pub changed_entry : Changes → Depth → Entry → Entry
changed_entry changes depth (OfCube cube) = OfCube (changed changes depth cube)
changed_entry changes depth (OfTope tope) = OfTope (changed changes depth tope)
changed_entry changes depth (OfType type) = OfType (changed changes depth type)

-- entries, where variables change that are bound outside of them: each entry stands behind those further out
abbrev pub changed_entries : Changes → List Entry → List Entry
changed_entries changes [] = []
changed_entries changes (entry ∷ further_out) =
    changed_entry changes (depth_of further_out) entry ∷ changed_entries changes further_out
