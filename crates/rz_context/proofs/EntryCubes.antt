-- The cubes of the entries of contexts.
use Rattle.std.proofs.Common.{◌≡◌, ℕ, suc, ◌+◌, ◌≤◌, List, [], ◌∷◌, length, Some, None, refl, sym, ap, subst, ◌∙◌, arith}
use Rattle.std.specs.Prelude.{slice_get}
use Rattle.std.proofs.lemmas.Option.{slice_get_past}
use Rattle.rz_rules.specs.declared.nodes.Node.{Node}
use Rattle.rz_rules.specs.declared.kinds.Kind.TheVariants.{CubeEntry, TopeEntry, TermEntry}
use Rattle.rz_rules.specs.Tree.{Tree, At, Nil, And, tree_of}
use Rattle.rz_rules.specs.Cube.{cubes_of}
use Rattle.rz_rules.specs.Context.{Entry, OfCube, OfTope, OfType, with_entry, with_entries}
use Rattle.rz_pool.specs.declared.entries.Entry.{Entry as PoolEntry}
use Rattle.rz_pool.specs.declared.entries.Entry.TheVariants as entry
use Rattle.rz_context.specs.declared.summaries.Measure.TheVariants as measure
use Rattle.rz_context.specs.declared.summaries.FoundEntry.{FoundEntry}
use Rattle.rz_pool.specs.Cubes.{IsCubeId}
use Rattle.rz_pool.specs.Entry.{IsEntryAt, entry_over, tree_in}
use Rattle.rz_context.specs.Summary.{IsFound, counted, measured, weight}

-- there are as many cubes as cube entries
pub count_cubes : (t : Tree) → length (cubes_of t) ≡ measured measure.Cubes t
count_cubes (At CubeEntry number name (And context (And cube Nil))) = let rest = count_cubes context in omega (arith, rest)
count_cubes (At TopeEntry number name (And context (And tope Nil))) = let rest = count_cubes context in omega (arith, rest)
count_cubes (At TermEntry number name (And context (And type Nil))) = let rest = count_cubes context in omega (arith, rest)
count_cubes other = refl

-- behind so many cube entries the cubes are those further out
pub cubes_behind : (outer : Tree) (es : List Entry) (n : ℕ) → slice_get (cubes_of (with_entries outer es)) (counted measure.Cubes es + n) ≡ slice_get (cubes_of outer) n
cubes_behind outer [] n = ap (slice_get (cubes_of outer)) (omega arith)
cubes_behind outer (OfCube cube ∷ es) n =
    ap (slice_get (cube ∷ cubes_of (with_entries outer es))) (more (counted measure.Cubes es) n) ∙ cubes_behind outer es n where
      more : (a b : ℕ) → (a + 1) + b ≡ suc (a + b)
      more a b = omega arith
cubes_behind outer (OfTope tope ∷ es) n =
    ap (slice_get (cubes_of (with_entries outer es))) (same (counted measure.Cubes es) n) ∙ cubes_behind outer es n where
      same : (a b : ℕ) → (a + 0) + b ≡ a + b
      same a b = omega arith
cubes_behind outer (OfType type ∷ es) n =
    ap (slice_get (cubes_of (with_entries outer es))) (same (counted measure.Cubes es) n) ∙ cubes_behind outer es n where
      same : (a b : ℕ) → (a + 0) + b ≡ a + b
      same a b = omega arith

-- an entry that binds a cube variable
first_cube : (nodes : List Node) (outer : Tree) (e : PoolEntry) → IsEntryAt nodes e → weight measure.Cubes (entry_over nodes e) ≡ 1
    → IsCubeId nodes (slice_get (cubes_of (with_entry outer (entry_over nodes e))) 0) (Some (tree_in e))
first_cube nodes outer (entry.Cube id) at one = record { there = at; is = refl }
first_cube nodes outer (entry.Tope id) at one = absurd (omega (arith, one))
first_cube nodes outer (entry.Term id) at one = absurd (omega (arith, one))

pub cube_found : (nodes : List Node) (context index : ℕ) (found : FoundEntry) → IsFound nodes context measure.Cubes index found
    → IsCubeId nodes (slice_get (cubes_of (tree_of nodes context)) index) (Some (tree_in found.last.entry))
cube_found nodes context index found is =
    let whole : slice_get (cubes_of (tree_of nodes context)) index ≡ slice_get (cubes_of (with_entry (tree_of nodes found.last.before) (entry_over nodes found.last.entry))) 0 =
    ap (λ (t : Tree). slice_get (cubes_of t) index) is.tree
    ∙ ap (slice_get (cubes_of (with_entries (tree_of nodes is.at) is.inner))) (behind index)
    ∙ cubes_behind (tree_of nodes is.at) is.inner 0
    ∙ ap (λ (t : Tree). slice_get (cubes_of t) 0) is.last.tree in
    subst (λ o. IsCubeId nodes o (Some (tree_in found.last.entry))) (sym whole)
    (first_cube nodes (tree_of nodes found.last.before) found.last.entry is.last.entry is.counts) where
      behind : (n : ℕ) → index ≡ counted measure.Cubes is.inner + 0
      behind n = omega (arith, is.behind)

pub no_cube_found : (nodes : List Node) (context index : ℕ) → measured measure.Cubes (tree_of nodes context) ≤ index
    → IsCubeId nodes (slice_get (cubes_of (tree_of nodes context)) index) None
no_cube_found nodes context index few = record {
  there = tt;
  is = slice_get_past (cubes_of (tree_of nodes context)) index (omega (arith, few, count_cubes (tree_of nodes context)));
}
