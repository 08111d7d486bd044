-- Entries that are found by a measure.
use Rattle.std.proofs.Common.{◌≡◌, ℕ, ◌≤◌, List, refl, ap, ◌∙◌, arith}
use Rattle.rz_rules.specs.declared.nodes.Node.{Node}
use Rattle.rz_rules.specs.Tree.{Tree, tree_of}
use Rattle.rz_rules.specs.Context.{OfType, with_entries, with_entry}
use Rattle.rz_pool.specs.declared.entries.Entry.{Entry}
use Rattle.rz_pool.specs.declared.entries.Entry.TheVariants as entry
use Rattle.rz_context.specs.declared.summaries.FoundEntry.{FoundEntry}
use Rattle.rz_context.specs.declared.summaries.Measure.{Measure}
use Rattle.rz_context.specs.declared.summaries.Measure.TheVariants as measure
use Rattle.rz_context.specs.Summary.{IsFound, measured, weight}
use Rattle.rz_context.proofs.Measures.{counted-length, counted-terms, measured-entries, measured-entry}
use Rattle.rz_kernel_rows.specs.Context.{NoSplit, NoTermSplit, entry_over}

-- the context is cut at the entry
pub found_cut : (nodes : List Node) (context number : ℕ) (by : Measure) (found : FoundEntry) (is : IsFound nodes context by number found)
    → tree_of nodes context ≡ with_entries (with_entry (tree_of nodes found.last.before) (entry_over nodes found.last.entry)) is.inner
found_cut nodes context number by found is = is.tree ∙ ap (λ (t : Tree). with_entries t is.inner) is.last.tree

-- a context of few entries has none with so many behind it
pub few_entries : (tree : Tree) (number : ℕ) → measured measure.Entries tree ≤ number → NoSplit tree number
few_entries tree number few outer e inner n is =
    let whole = ap (measured measure.Entries) is ∙ measured-entries measure.Entries (with_entry outer e) inner in
    let one = measured-entry measure.Entries outer e in
    let behind = counted-length inner in
    omega (arith, whole, one, behind, n, few)

pub few_terms : (tree : Tree) (index : ℕ) → measured measure.Terms tree ≤ index → NoTermSplit tree index
few_terms tree index few outer type inner n is =
    let whole = ap (measured measure.Terms) is ∙ measured-entries measure.Terms (with_entry outer (OfType type)) inner in
    let one = measured-entry measure.Terms outer (OfType type) in
    let behind = counted-terms inner in
    omega (arith, whole, one, behind, n, few)

-- the entry that counts as one of a term variable is one
pub term_entry : (nodes : List Node) (e : Entry) → weight measure.Terms (entry_over nodes e) ≡ 1 → (type : ℕ) × (e ≡ entry.Term type)
term_entry nodes (entry.Cube id) one = absurd (omega (arith, one))
term_entry nodes (entry.Tope id) one = absurd (omega (arith, one))
term_entry nodes (entry.Term id) one = (id, refl)
