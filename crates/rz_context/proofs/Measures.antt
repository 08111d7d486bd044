-- The measures of contexts, and how entries are found by them.
use Rattle.std.proofs.Common.{◌≡◌, ℕ, ◌+◌, ◌-◌, ◌<◌, ◌≤◌, List, [], ◌∷◌, ◌++◌, length, true≢false, refl, sym, ap, ◌∙◌, arith}
use Rattle.rz_rules.specs.declared.kinds.Space.{Space}
use Rattle.rz_rules.specs.declared.kinds.Space.TheVariants.{Points, Terms}
use Rattle.rz_rules.specs.declared.nodes.Node.{Node}
use Rattle.rz_rules.specs.declared.kinds.Kind.TheVariants.{CubeEntry, TopeEntry, TermEntry}
use Rattle.rz_rules.specs.Tree.{Tree, At, tree_of}
use Rattle.rz_rules.specs.Substitution.{Depth}
use Rattle.rz_rules.specs.Cube.{cubes_of}
use Rattle.rz_rules.specs.Context.{Entry, OfCube, OfTope, OfType, with_entry, with_entries, bound_by as bound_by_entry, depth_of}
use Rattle.rz_rules.proofs.Contexts.{with_entries-append}
use Rattle.rz_pool.specs.Counts.{depth_of as depth_of_counts}
use Rattle.rz_pool.specs.declared.entries.Entry.{Entry as PoolEntry}
use Rattle.rz_pool.specs.declared.entries.Entry.TheVariants as entry
use Rattle.rz_pool.specs.declared.entries.Last.{Last}
use Rattle.rz_context.specs.declared.summaries.Summary.{Summary}
use Rattle.rz_pool.specs.Entry.{IsLast, IsNoEntry, bound_by, entry_over}
use Rattle.rz_context.specs.declared.summaries.Measure.{Measure}
use Rattle.rz_context.specs.declared.summaries.Measure.TheVariants as measure
use Rattle.rz_context.specs.Summary.{IsBehind, IsFound, IsScopeWith, IsStart, counted, measure_in, measured, weight}

-- a tree that is no context with an entry has none to count
pub no_entry-measured : (by : Measure) (t : Tree) → IsNoEntry t → measured by t ≡ 0
no_entry-measured by (At CubeEntry number name kids) none = absurd (true≢false none)
no_entry-measured by (At TopeEntry number name kids) none = absurd (true≢false none)
no_entry-measured by (At TermEntry number name kids) none = absurd (true≢false none)
no_entry-measured by other none = refl

-- what one entry, and what many add
pub measured-entry : (by : Measure) (outer : Tree) (e : Entry) → measured by (with_entry outer e) ≡ measured by outer + weight by e
measured-entry by outer (OfCube cube) = refl
measured-entry by outer (OfTope tope) = refl
measured-entry by outer (OfType type) = refl

pub measured-entries : (by : Measure) (outer : Tree) (es : List Entry) → measured by (with_entries outer es) ≡ counted by es + measured by outer
measured-entries by outer [] = omega arith
measured-entries by outer (e ∷ es) =
    let rest = measured-entries by outer es in
    let one = measured-entry by (with_entries outer es) e in
    omega (arith, one, rest)

-- all entries are counted, and so are those that bind a variable
pub counted-length : (es : List Entry) → counted measure.Entries es ≡ length es
counted-length [] = refl
counted-length (e ∷ es) = let rest = counted-length es in omega (arith, rest)

bound-cubes : (e : Entry) → bound_by_entry e Points ≡ weight measure.Cubes e
bound-cubes (OfCube cube) = refl
bound-cubes (OfTope tope) = refl
bound-cubes (OfType type) = refl

bound-terms : (e : Entry) → bound_by_entry e Terms ≡ weight measure.Terms e
bound-terms (OfCube cube) = refl
bound-terms (OfTope tope) = refl
bound-terms (OfType type) = refl

pub counted-cubes : (es : List Entry) → counted measure.Cubes es ≡ depth_of es Points
counted-cubes [] = refl
counted-cubes (e ∷ es) =
    let rest = counted-cubes es in
    let one = bound-cubes e in
    omega (arith, rest, one)

pub counted-terms : (es : List Entry) → counted measure.Terms es ≡ depth_of es Terms
counted-terms [] = refl
counted-terms (e ∷ es) =
    let rest = counted-terms es in
    let one = bound-terms e in
    omega (arith, rest, one)

-- an entry adds one or nothing
weight_light : (by : Measure) (e : Entry) → weight by e ≤ 1
weight_light measure.Entries e = omega arith
weight_light measure.Cubes (OfCube cube) = omega arith
weight_light measure.Cubes (OfTope tope) = omega arith
weight_light measure.Cubes (OfType type) = omega arith
weight_light measure.Terms (OfCube cube) = omega arith
weight_light measure.Terms (OfTope tope) = omega arith
weight_light measure.Terms (OfType type) = omega arith

-- a start of a start
pub start-start : (a b c : Tree) → IsStart a b → IsStart b c → IsStart a c
start-start a b c first second =
    (second.0 ++ first.0, second.1 ∙ ap (λ (t : Tree). with_entries t second.0) first.1 ∙ sym (with_entries-append a second.0 first.0))

pub start-same : (a : Tree) → IsStart a a
start-same a = ([], refl)

pub start-entry : (outer : Tree) (e : Entry) → IsStart outer (with_entry outer e)
start-entry outer e = (e ∷ [], refl)

-- a start has no more entries
pub measured-start : (by : Measure) (a b : Tree) (start : IsStart a b) → measured by b ≡ counted by start.0 + measured by a
measured-start by a b start = ap (measured by) start.1 ∙ measured-entries by a start.0

-- what an entry of a pool binds
bound-points : (nodes : List Node) (d : Depth) (e : PoolEntry) → bound_by d e Points ≡ d Points + weight measure.Cubes (entry_over nodes e)
bound-points nodes d (entry.Cube id) = refl
bound-points nodes d (entry.Tope id) = omega arith
bound-points nodes d (entry.Term id) = refl

bound-types : (nodes : List Node) (d : Depth) (e : PoolEntry) → bound_by d e Terms ≡ d Terms + weight measure.Terms (entry_over nodes e)
bound-types nodes d (entry.Cube id) = refl
bound-types nodes d (entry.Tope id) = omega arith
bound-types nodes d (entry.Term id) = refl

-- the measures of a context with one entry more
pub measures-more : (nodes : List Node) (id : ℕ) (last : Last) (before after : Summary) → IsLast nodes id last
    → ((by : Measure) → measure_in before by ≡ measured by (tree_of nodes last.before)) → after.entries ≡ before.entries + 1
    → depth_of_counts after.binds ≡ bound_by (depth_of_counts before.binds) last.entry → (by : Measure) → measure_in after by ≡ measured by (tree_of nodes id)
measures-more nodes id last before after is known more deeper by = by_measure by where
  whole : (m : Measure) → measured m (tree_of nodes id) ≡ measure_in before m + weight m (entry_over nodes last.entry)
  whole m =
      let one = measured-entry m (tree_of nodes last.before) (entry_over nodes last.entry) in
      let all = ap (measured m) is.tree in
      let old = known m in
      omega (arith, one, all, old)

  by_measure : (m : Measure) → measure_in after m ≡ measured m (tree_of nodes id)
  by_measure measure.Entries = let all = whole measure.Entries in omega (arith, all, more)
  by_measure measure.Cubes =
      let all = whole measure.Cubes in
      let deep : after.binds.points ≡ before.binds.points + weight measure.Cubes (entry_over nodes last.entry) =
      ap (λ (d : Depth). d Points) deeper ∙ bound-points nodes (depth_of_counts before.binds) last.entry in
      deep ∙ sym all
  by_measure measure.Terms =
      let all = whole measure.Terms in
      let deep : after.binds.terms ≡ before.binds.terms + weight measure.Terms (entry_over nodes last.entry) =
      ap (λ (d : Depth). d Terms) deeper ∙ bound-types nodes (depth_of_counts before.binds) last.entry in
      deep ∙ sym all

-- the entry behind which so many stand, where it is the first with so many before it
pub found_at : (nodes : List Node) (context : ℕ) (by : Measure) (number at : ℕ) (last : Last) (whole outer : Summary) → ((m : Measure) → measure_in whole m ≡ measured m (tree_of nodes context))
    → ((m : Measure) → measure_in outer m ≡ measured m (tree_of nodes at)) → (count : ℕ) → count ≡ measured by (tree_of nodes context) → number < count
    → IsBehind nodes context by (count - number - 1) (at, last)
    → IsFound nodes context by number (record { last = last; depth = record { points = whole.binds.points - outer.binds.points; terms = whole.binds.terms - outer.binds.terms } })
found_at nodes context by number at last whole outer whole_is outer_is count count_is more behind = record {
  inner = inner;
  at = at;
  last = behind.last;
  tree = behind.start.1;
  behind = omega (arith, total, one, behind.more, behind.enough, more, light, count_is);
  counts = omega (arith, one, behind.more, behind.enough, light);
  depth = λ i space. deep space i;
} where
  inner : List Entry
  inner = behind.start.0

  total : measured by (tree_of nodes context) ≡ counted by inner + measured by (tree_of nodes at)
  total = measured-start by (tree_of nodes at) (tree_of nodes context) behind.start

  one : measured by (tree_of nodes at) ≡ measured by (tree_of nodes last.before) + weight by (entry_over nodes last.entry)
  one = ap (measured by) behind.last.tree ∙ measured-entry by (tree_of nodes last.before) (entry_over nodes last.entry)

  light : weight by (entry_over nodes last.entry) ≤ 1
  light = weight_light by (entry_over nodes last.entry)

  deep : (space : Space) → depth_of_counts (record { points = whole.binds.points - outer.binds.points; terms = whole.binds.terms - outer.binds.terms }) space ≡ depth_of inner space
  deep Points =
      let all = measured-start measure.Cubes (tree_of nodes at) (tree_of nodes context) behind.start in
      let from = whole_is measure.Cubes in
      let to = outer_is measure.Cubes in
      let bound = counted-cubes inner in
      omega (arith, all, from, to, bound)
  deep Terms =
      let all = measured-start measure.Terms (tree_of nodes at) (tree_of nodes context) behind.start in
      let from = whole_is measure.Terms in
      let to = outer_is measure.Terms in
      let bound = counted-terms inner in
      omega (arith, all, from, to, bound)

-- the cubes of a context with one entry more
pub cubes_with : (nodes : List Node) (id : ℕ) (last : Last) (before scope : ℕ) → IsLast nodes id last → cubes_of (tree_of nodes before) ≡ cubes_of (tree_of nodes last.before)
    → IsScopeWith id last.entry before scope → cubes_of (tree_of nodes scope) ≡ cubes_of (tree_of nodes id)
cubes_with nodes id last before scope is known found = by last.entry refl found where
  by : (e : PoolEntry) → last.entry ≡ e → IsScopeWith id e before scope → cubes_of (tree_of nodes scope) ≡ cubes_of (tree_of nodes id)
  by (entry.Cube cube) e here = ap (λ (n : ℕ). cubes_of (tree_of nodes n)) here
  by (entry.Tope tope) e here =
      ap (λ (n : ℕ). cubes_of (tree_of nodes n)) here ∙ known
      ∙ sym (ap cubes_of is.tree ∙ ap (λ (x : PoolEntry). cubes_of (with_entry (tree_of nodes last.before) (entry_over nodes x))) e)
  by (entry.Term type) e here =
      ap (λ (n : ℕ). cubes_of (tree_of nodes n)) here ∙ known
      ∙ sym (ap cubes_of is.tree ∙ ap (λ (x : PoolEntry). cubes_of (with_entry (tree_of nodes last.before) (entry_over nodes x))) e)
