-- A walk along the entries of a context.
use Rattle.std.proofs.Common.{◌≡◌, ℕ, ◌+◌, ◌-◌, ◌<◌, List, [], ◌∷◌, length, refl, sym, ap, ◌∙◌, arith}
use Rattle.rz_rules.specs.declared.kinds.Space.{Space}
use Rattle.rz_rules.specs.declared.kinds.Space.TheVariants.{Points, Terms}
use Rattle.rz_rules.specs.declared.nodes.Node.{Node}
use Rattle.rz_rules.specs.Tree.{Tree, tree_of}
use Rattle.rz_rules.specs.Substitution.{Depth}
use Rattle.rz_rules.specs.Context.{Entry, HasNoEntry, depth_of, with_entries, with_entry}
use Rattle.rz_rules.specs.Context as context
use Rattle.rz_rules.proofs.Contexts.{with_entry-same}
use Rattle.rz_pool.specs.Counts as counts
use Rattle.rz_pool.specs.declared.counts.Counts.{Counts}
use Rattle.rz_pool.specs.declared.entries.Last.{Last}
use Rattle.rz_pool.specs.declared.entries.Entry.TheVariants as entry
use Rattle.rz_pool.specs.declared.entries.Entry as scope
use Rattle.rz_pool.specs.Entry.{IsLast, bound_by, entry_over}
use Rattle.rz_lemmas.specs.declared.places.Outside.{Outside}
use Rattle.rz_lemmas.specs.Behind.{HasBehind, IsOutside, IsWalking}

-- what an entry binds over ids and over trees
bound_over : (nodes : List Node) (depth : Depth) (one : scope.Entry) (space : Space) → bound_by depth one space ≡ depth space + context.bound_by (entry_over nodes one) space
bound_over nodes depth (entry.Cube id) Points = refl
bound_over nodes depth (entry.Cube id) Terms = refl
bound_over nodes depth (entry.Tope id) space = omega arith
bound_over nodes depth (entry.Term id) Points = refl
bound_over nodes depth (entry.Term id) Terms = refl

-- where entries are left there is a last one
pub has_entry : (nodes : List Node) (start number : ℕ) (found : Outside) (left : ℕ) → IsWalking nodes start number found left → 0 < left
    → (outer : Tree) (inner : List Entry) → HasBehind (tree_of nodes start) number outer inner → HasNoEntry (tree_of nodes found.context) → ⊥
has_entry nodes start number found left walking some outer inner behind none =
    by (walking.walked outer inner behind).0 (walking.walked outer inner behind).1 where
      by : (rest : List Entry) → HasBehind (tree_of nodes found.context) left outer rest → ⊥
      by [] h = omega (arith, h.count, some)
      by (last ∷ rest) h = none (with_entries outer rest) last h.is

-- one entry further out
pub walk_on : (nodes : List Node) (start number : ℕ) (found : Outside) (left : ℕ) → IsWalking nodes start number found left → 0 < left
    → (last : Last) → IsLast nodes found.context last → (depth : Counts) → counts.depth_of depth ≡ bound_by (counts.depth_of found.depth) last.entry
    → IsWalking nodes start number (record { context = last.before; depth = depth }) (left - 1)
walk_on nodes start number found left walking some last is depth sum = record {
  live = is.before.0;
  walked = λ outer inner behind.
      let before = walking.walked outer inner behind in
      by outer inner before.0 before.1 before.2;
} where
  by : (outer : Tree) (inner rest : List Entry) → HasBehind (tree_of nodes found.context) left outer rest
      → ((space : Space) → counts.depth_of found.depth space + depth_of rest space ≡ depth_of inner space)
      → (more : List Entry) × HasBehind (tree_of nodes last.before) (left - 1) outer more × ((space : Space) → counts.depth_of depth space + depth_of more space ≡ depth_of inner space)
  by outer inner [] h sums = absurd (omega (arith, h.count, some))
  by outer inner (one ∷ rest) h sums =
      let same = with_entry-same (tree_of nodes last.before) (with_entries outer rest) (entry_over nodes last.entry) one (sym is.tree ∙ h.is) in (
        rest,
        record { is = same.0; count = omega (arith, h.count) },
        λ space. omega (
          arith,
          sums space,
          ap (λ (d : Depth). d space) sum,
          bound_over nodes (counts.depth_of found.depth) last.entry space,
          ap (λ (e : Entry). context.bound_by e space) same.1,
        ),
      )

pub walk_end : (nodes : List Node) (start number : ℕ) (found : Outside) (left : ℕ) → IsWalking nodes start number found left → left ≡ 0
    → (outer : Tree) (inner : List Entry) → HasBehind (tree_of nodes start) number outer inner → IsOutside nodes found outer inner
walk_end nodes start number found left walking none outer inner behind =
    by (walking.walked outer inner behind).0 (walking.walked outer inner behind).1 (walking.walked outer inner behind).2 where
      by : (rest : List Entry) → HasBehind (tree_of nodes found.context) left outer rest
          → ((space : Space) → counts.depth_of found.depth space + depth_of rest space ≡ depth_of inner space) → IsOutside nodes found outer inner
      by [] h sums = record { live = walking.live; tree = h.is; depth = λ space. omega (arith, sums space) }
      by (one ∷ rest) h sums = absurd (omega (arith, h.count, none))

pub walk_start : (nodes : List Node) (start number : ℕ) (depth : Counts) → start < length nodes → ((space : Space) → counts.depth_of depth space ≡ 0)
    → IsWalking nodes start number (record { context = start; depth = depth }) number
walk_start nodes start number depth live zeros = record {
  live = live;
  walked = λ outer inner behind. (inner, behind, λ space. omega (arith, zeros space));
}
