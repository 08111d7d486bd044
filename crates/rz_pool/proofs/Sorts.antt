-- The sorts of the trees of ids and of the places for them, one by one.
use Rattle.std.proofs.Common.{◌≡◌, ℕ, zero, suc, ◌+◌, ◌<◌, List, [], ◌∷◌, ◌++◌, length, get_or, take, map, sym, ap, ◌∙◌, arith}
use Rattle.std.proofs.lemmas.List.{take_more, map-append}
use Rattle.rz_rules.specs.declared.kinds.Sort.{Sort}
use Rattle.rz_rules.specs.declared.kinds.Slot.{Slot}
use Rattle.rz_rules.specs.declared.nodes.Node.{Node}
use Rattle.rz_rules.specs.Tree.{sort_of, tree_of}

abbrev pub sorts_of_ids : List Node → List ℕ → List Sort
sorts_of_ids ns ids = map sort_of (map (tree_of ns) ids)

abbrev pub sorts_of_slots : List Slot → List Sort
sorts_of_slots slots = map (λ slot. slot.sort) slots

-- one of them
pub sort_at : (ns : List Node) (ids : List ℕ) (slots : List Slot) (i : ℕ) (d : Slot) → i < length ids
    → sorts_of_ids ns ids ≡ sorts_of_slots slots → sort_of (tree_of ns (get_or ids i 0)) ≡ (get_or slots i d).sort
sort_at ns [] slots i d l e = absurd (omega arith)
sort_at ns (id ∷ ids) [] i d l e = absurd cc
sort_at ns (id ∷ ids) (slot ∷ slots) zero d l e = cc
sort_at ns (id ∷ ids) (slot ∷ slots) (suc i) d l e =
    let rest : sorts_of_ids ns ids ≡ sorts_of_slots slots = cc in
    sort_at ns ids slots i d (omega arith) rest

-- and one more
pub sorts_more : (ns : List Node) (ids : List ℕ) (slots : List Slot) (i : ℕ) (d : Slot) → i < length ids → i < length slots
    → sorts_of_ids ns (take i ids) ≡ sorts_of_slots (take i slots) → sort_of (tree_of ns (get_or ids i 0)) ≡ (get_or slots i d).sort
    → sorts_of_ids ns (take (i + 1) ids) ≡ sorts_of_slots (take (i + 1) slots)
sorts_more ns ids slots i d l m before here =
    ap (sorts_of_ids ns) (take_more ids i 0 l)
    ∙ ap (map sort_of) (map-append (tree_of ns) (take i ids) (get_or ids i 0 ∷ []))
    ∙ map-append sort_of (map (tree_of ns) (take i ids)) (tree_of ns (get_or ids i 0) ∷ [])
    ∙ (λ j. before j ++ here j ∷ [])
    ∙ sym (map-append (λ (slot : Slot). slot.sort) (take i slots) (get_or slots i d ∷ []))
    ∙ ap sorts_of_slots (sym (take_more slots i d m))
