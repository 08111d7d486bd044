-- Entries that are made anew behind a cut, from the outermost to the innermost.
use Rattle.std.proofs.Common.{◌≡◌, ℕ, ◌<◌, ◌^◌, List, [], ◌∷◌, ◌++◌, length, map, All, refl, sym, ap, subst, ◌∙◌, arith, append_assoc}
use Rattle.std.proofs.lemmas.List.{map-append}
use Rattle.rz_kernel_rows.proofs.Lists.{All-among}
use Rattle.std.proofs.lemmas.List.Elements.{All-head, All-tail}
use Rattle.rz_rules.specs.declared.kinds.Sort.{Sort}
use Rattle.rz_rules.specs.declared.kinds.Sort.TheVariants as sort
use Rattle.rz_rules.specs.declared.nodes.Node.{Node}
use Rattle.rz_rules.specs.Tree.{Tree, IsTree, sort_of, tree_of}
use Rattle.rz_rules.specs.Substitution.{Changes, Depth, IndicesBelow, changed, none, putting}
use Rattle.rz_rules.specs.Context.{OfCube, OfTope, OfType, with_entry, with_entries, changed_entry, changed_entries, depth_of}
use Rattle.rz_rules.proofs.Contexts.{IsTree-outer, changed_entries-append, with_entries-append}
use Rattle.rz_pool.specs.Counts.{depth_of as depth_of_counts}
use Rattle.rz_pool.specs.declared.counts.Counts.{Counts}
use Rattle.rz_pool.specs.Pool.{Grows, IsPool}
use Rattle.rz_pool.proofs.Nodes.{Grows-trans, KeepsTrees-Grows, length-Grows}
use Rattle.rz_rule_text.proofs.Stacks.{IndicesBelow-IsTree}
use Rattle.rz_pool.specs.declared.entries.Entry.{Entry}
use Rattle.rz_pool.specs.declared.entries.Entry.TheVariants as entry
use Rattle.rz_kernel_rows.specs.declared.moves.Change.{Change}
use Rattle.rz_kernel_rows.specs.declared.moves.Change.TheVariants.{Nothing, Opens, Puts}
use Rattle.rz_kernel_rows.specs.Context.{IsAt, IsEntryAt, bound_by, entries_over, entry_over, sort_in, tree_in}
use Rattle.rz_kernel_rows.specs.Move.{IsNoContext, IsThere, changes_of, with_id}
use Rattle.rz_kernel_rows.proofs.Entries.{bound_is}

-- ---- growth of the pool

module _ (old new : List Node) (grows : Grows old new) where
  same_tree : (id : ℕ) → id < length old → tree_of new id ≡ tree_of old id
  same_tree id low = KeepsTrees-Grows old new grows id low

  pub IsAt-Grows : (s : Sort) (id : ℕ) → IsAt old s id → IsAt new s id
  IsAt-Grows s id at = (omega (arith, at.0, length-Grows old new grows), ap sort_of (same_tree id at.0) ∙ at.1)

  pub IsEntryAt-Grows : (e : Entry) → IsEntryAt old e → IsEntryAt new e
  IsEntryAt-Grows e at = IsAt-Grows (sort_in e) (tree_in e) at

  pub entry_over-Grows : (e : Entry) → IsEntryAt old e → entry_over new e ≡ entry_over old e
  entry_over-Grows (entry.Cube id) at = ap OfCube (same_tree id at.0)
  entry_over-Grows (entry.Tope id) at = ap OfTope (same_tree id at.0)
  entry_over-Grows (entry.Term id) at = ap OfType (same_tree id at.0)

  pub IsThere-Grows : (change : Change) → IsThere old change → IsThere new change
  IsThere-Grows Nothing there = tt
  IsThere-Grows (Opens space) there = tt
  IsThere-Grows (Puts space value) there = IsAt-Grows _ value there

  pub changes_of-Grows : (change : Change) → IsThere old change → changes_of new change ≡ changes_of old change
  changes_of-Grows Nothing there = refl
  changes_of-Grows (Opens space) there = refl
  changes_of-Grows (Puts space value) there = ap (putting space none) (same_tree value there.0)

  -- what becomes of a tree
  pub same_change : (change : Change) → IsThere old change → (depth : Depth) (id : ℕ) → id < length old → changed (changes_of new change) depth (tree_of new id) ≡ changed (changes_of old change) depth (tree_of old id)
  same_change change there depth id low = λ i. changed (changes_of-Grows change there i) depth (same_tree id low i)

  pub same_changes : (change : Change) → IsThere old change → (depth : Depth) (ids : List ℕ) → All (λ id. id < length old) ids
      → map (changed (changes_of new change) depth) (map (tree_of new) ids) ≡ map (changed (changes_of old change) depth) (map (tree_of old) ids)
  same_changes change there depth [] low = refl
  same_changes change there depth (id ∷ ids) low =
      λ i. same_change change there depth id (All-head (λ id. id < length old) id ids low) i ∷ same_changes change there depth ids (All-tail (λ id. id < length old) id ids low) i

-- ---- an entry with another tree

pub with_id-at : (nodes : List Node) (e : Entry) (id : ℕ) → IsAt nodes (sort_in e) id → IsEntryAt nodes (with_id e id)
with_id-at nodes (entry.Cube other) id at = at
with_id-at nodes (entry.Tope other) id at = at
with_id-at nodes (entry.Term other) id at = at

pub with_id-over : (old new : List Node) (e : Entry) (id : ℕ) (changes : Changes) (depth : Depth) → tree_of new id ≡ changed changes depth (tree_of old (tree_in e))
    → entry_over new (with_id e id) ≡ changed_entry changes depth (entry_over old e)
with_id-over old new (entry.Cube other) id changes depth is = ap OfCube is
with_id-over old new (entry.Tope other) id changes depth is = ap OfTope is
with_id-over old new (entry.Term other) id changes depth is = ap OfType is

-- the tree of an entry in a context
tree_in_context : (outer : Tree) (e : Entry) (nodes : List Node) (changes : Changes) (depth : Depth) → IsTree sort.Context (with_entry outer (changed_entry changes depth (entry_over nodes e)))
    → IndicesBelow (2 ^ 32) (changed changes depth (tree_of nodes (tree_in e)))
tree_in_context outer (entry.Cube id) nodes changes depth h = IndicesBelow-IsTree _ _ h.2.1.0
tree_in_context outer (entry.Tope id) nodes changes depth h = IndicesBelow-IsTree _ _ h.2.1.0
tree_in_context outer (entry.Term id) nodes changes depth h = IndicesBelow-IsTree _ _ h.2.1.0

-- ---- some of the entries are made anew

pub record IsExtending (old now : List Node) (change : Change) (outer : ℕ) (inner left : List Entry) (context : ℕ) (depth : Counts) : Type 0 where
  pub made : List Entry
  pub whole : inner ≡ left ++ made
  pub grows : Grows old now
  pub pool : IsPool now
  pub there : IsAt now sort.Context context
  pub tree : tree_of now context ≡ with_entries (tree_of old outer) (changed_entries (changes_of old change) (entries_over old made))
  pub depth_is : depth_of_counts depth ≡ depth_of (entries_over old made)

module _ (old now : List Node) (change : Change) (outer : ℕ) (inner others : List Entry) (e : Entry) (context : ℕ) (depth : Counts)
    (live : All (IsEntryAt old) inner) (is : IsExtending old now change outer inner (others ++ e ∷ []) context depth) where
  split : inner ≡ others ++ e ∷ is.made
  split = is.whole ∙ append_assoc others (e ∷ []) is.made

  pub entry_live : IsEntryAt old e
  entry_live = All-among (IsEntryAt old) others e is.made (subst (All (IsEntryAt old)) split live)

  pub same_answer : IsThere old change → changed (changes_of now change) (depth_of_counts depth) (tree_of now (tree_in e)) ≡ changed (changes_of old change) (depth_of (entries_over old is.made)) (tree_of old (tree_in e))
  same_answer there = λ i. changed (changes_of-Grows old now is.grows change there i) (is.depth_is i) (same_tree old now is.grows (tree_in e) entry_live.0 i)

  -- where the tree of an entry has an index that is too large, so has the context
  pub no_context : IsThere old change → (IndicesBelow (2 ^ 32) (changed (changes_of now change) (depth_of_counts depth) (tree_of now (tree_in e))) → ⊥) → IsNoContext old (changes_of old change) outer inner
  no_context there high whole =
      let changes = changes_of old change in
      let behind = changed_entries-append changes (entries_over old others) (entry_over old e ∷ entries_over old is.made) in
      let all : changed_entries changes (entries_over old inner) ≡ behind.0 ++ changed_entries changes (entry_over old e ∷ entries_over old is.made) =
      ap (λ (es : List Entry). changed_entries changes (entries_over old es)) split
      ∙ ap (changed_entries changes) (map-append (entry_over old) others (e ∷ is.made)) ∙ behind.1 in
      let context_is = subst (IsTree sort.Context) (ap (with_entries (tree_of old outer)) all
      ∙ with_entries-append (tree_of old outer) behind.0 (changed_entries changes (entry_over old e ∷ entries_over old is.made))) whole in
      let here = IsTree-outer (with_entries (tree_of old outer) (changed_entries changes (entry_over old e ∷ entries_over old is.made))) behind.0 context_is in
      let below = tree_in_context (with_entries (tree_of old outer) (changed_entries changes (entries_over old is.made))) e old changes (depth_of (entries_over old is.made)) here in
      high (subst (IndicesBelow (2 ^ 32)) (sym (same_answer there)) below)

  -- the entry is made anew
  pub extended_more : IsThere old change → (mid new : List Node) (tree : ℕ) → tree_of mid tree ≡ changed (changes_of now change) (depth_of_counts depth) (tree_of now (tree_in e))
      → Grows now mid → Grows mid new → IsPool new → (longer : ℕ) → tree_of new longer ≡ with_entry (tree_of mid context) (entry_over mid (with_id e tree)) → IsAt new sort.Context longer
      → (deep : Counts) → depth_of_counts deep ≡ bound_by (depth_of_counts depth) e → IsExtending old new change outer inner others longer deep
  extended_more there mid new tree answer first second pool longer tree_is at deep depth_now = record {
    made = e ∷ is.made;
    whole = split;
    grows = Grows-trans old now new is.grows (Grows-trans now mid new first second);
    pool = pool;
    there = at;
    tree = tree_is ∙ (λ i. with_entry (context_is i) (entry_is i));
    depth_is = depth_now ∙ ap (λ (d : Depth). bound_by d e) is.depth_is ∙ bound_is old (depth_of (entries_over old is.made)) e;
  } where
    context_is : tree_of mid context ≡ with_entries (tree_of old outer) (changed_entries (changes_of old change) (entries_over old is.made))
    context_is = same_tree now mid first context is.there.0 ∙ is.tree

    entry_is : entry_over mid (with_id e tree) ≡ changed_entry (changes_of old change) (depth_of (entries_over old is.made)) (entry_over old e)
    entry_is = with_id-over old mid e tree (changes_of old change) (depth_of (entries_over old is.made)) (answer ∙ same_answer there)
