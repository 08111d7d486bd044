-- Contexts of a pool, and where they are cut.
use Rattle.std.proofs.Common.{◌≡◌, ℕ, ◌+◌, ◌<◌, ◌≤◌, List, [], ◌∷◌, ◌++◌, length, refl, sym, ap, ◌∙◌, arith}
use Rattle.std.proofs.lemmas.List.{length-map, map-append, length-append}
use Rattle.rz_rules.specs.declared.kinds.Space.TheVariants.{Terms}
use Rattle.rz_rules.specs.declared.nodes.Node.{Node}
use Rattle.rz_rules.specs.Tree.{Tree, tree_of}
use Rattle.rz_rules.specs.declared.kinds.Space.{Space}
use Rattle.rz_rules.specs.Substitution.{Depth, none, total}
use Rattle.rz_rules.specs.Context as meaning
use Rattle.rz_rules.specs.Context.{HasNoEntry, OfCube, OfTope, OfType, with_entry, with_entries, bound_by, depth_of}
use Rattle.rz_rules.proofs.Contexts.{among, at_most, depth_of-append, with_entries-append}
use Rattle.rz_pool.specs.declared.entries.Entry.{Entry}
use Rattle.rz_pool.specs.declared.entries.Entry.TheVariants as entry
use Rattle.rz_pool.specs.declared.entries.Last.{Last}
use Rattle.rz_kernel_rows.specs.Context.{IsLast, NoCut, NoSplit, NoTermSplit, bound_by as bound_here, entries_over, entry_over}

module _ (nodes : List Node) (context outer : ℕ) (inner : List Entry) (is : tree_of nodes context ≡ with_entries (tree_of nodes outer) (entries_over nodes inner)) where
  -- one entry more behind the cut
  pub cut_more : (last : Last) → IsLast nodes outer last → tree_of nodes context ≡ with_entries (tree_of nodes last.before) (entries_over nodes (inner ++ last.entry ∷ []))
  cut_more last at =
      let more : entries_over nodes (inner ++ last.entry ∷ []) ≡ entries_over nodes inner ++ entry_over nodes last.entry ∷ [] = map-append (entry_over nodes) inner (last.entry ∷ []) in
      is ∙ ap (λ (t : Tree). with_entries t (entries_over nodes inner)) at.tree
      ∙ sym (with_entries-append (tree_of nodes last.before) (entries_over nodes inner) (entry_over nodes last.entry ∷ []))
      ∙ sym (ap (with_entries (tree_of nodes last.before)) more)

  -- where no entry is left
  pub no_cut : (count : ℕ) → HasNoEntry (tree_of nodes outer) → length inner < count → NoCut (tree_of nodes context) count
  no_cut count none few other entries n e =
      let most = at_most (tree_of nodes outer) other (entries_over nodes inner) entries none (sym is ∙ e) in
      omega (arith, most, n, few, length-map inner (entry_over nodes))

  pub no_split : (count : ℕ) → HasNoEntry (tree_of nodes outer) → length inner ≡ count → NoSplit (tree_of nodes context) count
  no_split count none n other entry entries m e =
      let all = among (tree_of nodes outer) other entry (entries_over nodes inner) entries none (sym is ∙ e) in
      omega (arith, n, m, length-map inner (entry_over nodes), ap length all.1, length-append entries (entry ∷ all.0))

  pub no_term_split : (index : ℕ) → HasNoEntry (tree_of nodes outer) → depth_of (entries_over nodes inner) Terms ≤ index → NoTermSplit (tree_of nodes context) index
  no_term_split index none few other type entries m e =
      let all = among (tree_of nodes outer) other (OfType type) (entries_over nodes inner) entries none (sym is ∙ e) in
      let whole : depth_of (entries_over nodes inner) Terms ≡ depth_of entries Terms + (depth_of all.0 Terms + 1) =
      ap (λ (es : List meaning.Entry). depth_of es Terms) all.1 ∙ depth_of-append entries (OfType type ∷ all.0) Terms in
      omega (arith, whole, m, few)

pub counted : (nodes : List Node) (inner : List Entry) (n : ℕ) → length inner ≡ n → length (entries_over nodes inner) ≡ n
counted nodes inner n is = length-map inner (entry_over nodes) ∙ is

-- what an entry binds
pub bound_is : (nodes : List Node) (depth : Depth) (e : Entry) → bound_here depth e ≡ total depth (bound_by (entry_over nodes e))
bound_is nodes depth (entry.Cube id) = refl
bound_is nodes depth (entry.Tope id) = λ i space. plain space i where
  plain : (space : Space) → depth space ≡ total depth none space
  plain space = omega arith
bound_is nodes depth (entry.Term id) = refl

-- no such cut, so no such split
pub no_cut-split : (tree : Tree) (count : ℕ) → NoCut tree count → NoSplit tree count
no_cut-split tree count none outer entry inner n e = none (with_entry outer entry) inner n e

-- how many term entries there are with one entry more
pub terms_more : (nodes : List Node) (inner : List Entry) (last : Entry) → depth_of (entries_over nodes (inner ++ last ∷ [])) Terms
    ≡ depth_of (entries_over nodes inner) Terms + bound_by (entry_over nodes last) Terms
terms_more nodes inner last =
    ap (λ (es : List meaning.Entry). depth_of es Terms) (map-append (entry_over nodes) inner (last ∷ []))
    ∙ depth_of-append (entries_over nodes inner) (entry_over nodes last ∷ []) Terms ∙ omega arith

-- whether an entry binds a term variable
pub term_bound : (nodes : List Node) (e : Entry) (id : ℕ) → e ≡ entry.Term id → bound_by (entry_over nodes e) Terms ≡ 1
term_bound nodes e id is = ap (λ (x : Entry). bound_by (entry_over nodes x) Terms) is

pub no_term_bound : (nodes : List Node) (e : Entry) → ((id : ℕ) → e ≡ entry.Term id → ⊥) → bound_by (entry_over nodes e) Terms ≡ 0
no_term_bound nodes (entry.Cube id) none = refl
no_term_bound nodes (entry.Tope id) none = refl
no_term_bound nodes (entry.Term id) none = absurd (none id refl)
