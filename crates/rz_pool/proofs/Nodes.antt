-- Nodes that are kept once each: one more, and fewer.
use Rattle.std.proofs.Common.{◌≡◌, ℕ, ◌<◌, ◌≤◌, List, [], ◌∷◌, ◌++◌, Some, length, get_or, take, drop, map, All, Contains, slice_get, refl, sym, ap, subst, ◌∙◌, inl, inr, append_assoc, arith}
use Rattle.std.proofs.lemmas.List.{length_push, length-append, get_or_append_left, get_or_push, length-take, append-nil, take-append-drop}
use Rattle.std.proofs.lemmas.List.Elements.{All-head, All-tail}
use Rattle.std.proofs.lemmas.Option.{slice_get_within, slice_get-get_or, get_or_from_slice_get}
use Rattle.std.proofs.lemmas.Bool.{cases_lt}
use Rattle.rz_rules.specs.declared.nodes.Node.{Node}
use Rattle.rz_rules.specs.Tree.{Tree, trees_of, sort_of, tree_at, tree_over, trees_in, tree_of}
use Rattle.rz_rules.proofs.Equal.{same_fields}
use Rattle.rz_rules.proofs.Trees.{trees_of_injective, trees_in_push, length-trees_in, tree_at_last, trees_of-append, tree_of-append, tree_of_node}
use Rattle.rz_pool.specs.Pool.{ShareTrees, IsPool, Grows, KeepsTrees, Makes}
use Rattle.rz_rules.specs.Tree.{HasForm, HaveForms}

-- the tree of an id is that of its node
pub tree_of_place : (ns : List Node) → HaveForms ns → (i : ℕ) (n : Node) → slice_get ns i ≡ Some n → tree_of ns i ≡ tree_over (trees_in ns) n
tree_of_place ns forms i n at =
    tree_of_node ns (λ j e l k d m. (forms j (get_or ns j e) (slice_get-get_or ns j e l)).kids k d m) i n (slice_get_within ns i n at)
    ∙ ap (tree_over (trees_in ns)) (get_or_from_slice_get ns i n n at)

-- a node's form doesn't depend on the nodes from its bound on
module _ (ns ms : List Node) (bound : ℕ) (n : Node) (le : bound ≤ length ns) where
  kid_trees : All (λ id. id < bound) n.kids → map sort_of (map (tree_of (ns ++ ms)) n.kids) ≡ map sort_of (map (tree_of ns) n.kids)
  kid_trees low = ap (map sort_of) (trees_of-append ns ms n.kids (λ k d l. omega (arith, low k d l)))

  pub HasForm-append : HasForm (trees_in ns) bound n → HasForm (trees_in (ns ++ ms)) bound n
  HasForm-append h = record { kids = h.kids; sorts = kid_trees h.kids ∙ h.sorts; label = h.label }

  pub HasForm-front : HasForm (trees_in (ns ++ ms)) bound n → HasForm (trees_in ns) bound n
  HasForm-front h = record { kids = h.kids; sorts = sym (kid_trees h.kids) ∙ h.sorts; label = h.label }

-- what stands at a place of a front
pub slice_get-front : {X : Type 0} (ns ms : List X) (i : ℕ) (n : X) → i < length ns → slice_get (ns ++ ms) i ≡ Some n → slice_get ns i ≡ Some n
slice_get-front ns ms i n l at =
    slice_get-get_or ns i n l ∙ ap Some (sym (get_or_append_left ns ms n i l) ∙ get_or_from_slice_get (ns ++ ms) i n n at)

pub slice_get-append : {X : Type 0} (ns ms : List X) (i : ℕ) (n : X) → slice_get ns i ≡ Some n → slice_get (ns ++ ms) i ≡ Some n
slice_get-append ns ms i n at =
    let l : i < length ns = slice_get_within ns i n at in
    slice_get-get_or (ns ++ ms) i n (omega (arith, length-append ns ms))
    ∙ ap Some (get_or_append_left ns ms n i l ∙ get_or_from_slice_get ns i n n at)

-- places that have the same trees are the same
same_places : (ns : List Node) → ShareTrees ns → (is js : List ℕ) → All (λ i. i < length ns) is → All (λ j. j < length ns) js
    → map (tree_of ns) is ≡ map (tree_of ns) js → is ≡ js
same_places ns shared [] [] hi hj e = refl
same_places ns shared [] (j ∷ js) hi hj e = absurd cc
same_places ns shared (i ∷ is) [] hi hj e = absurd cc
same_places ns shared (i ∷ is) (j ∷ js) hi hj e =
    let P : ℕ → Type 0 = λ i. i < length ns in
    let trees : tree_of ns i ≡ tree_of ns j = cc in
    let others : map (tree_of ns) is ≡ map (tree_of ns) js = cc in
    let first : i ≡ j = shared i j (All-head P i is hi) (All-head P j js hj) trees in
    let rest : is ≡ js = same_places ns shared is js (All-tail P i is hi) (All-tail P j js hj) others in
    cc

-- nodes over shared trees that have one tree are one
pub same_nodes : (ns : List Node) → ShareTrees ns → (m n : Node) → All (λ i. i < length ns) m.kids → All (λ i. i < length ns) n.kids
    → tree_over (trees_in ns) m ≡ tree_over (trees_in ns) n → m ≡ n
same_nodes ns shared m n hm hn e =
    let kind : m.kind ≡ n.kind = cc in
    let number : m.number ≡ n.number = cc in
    let name : m.name ≡ n.name = cc in
    let kids : trees_of (map (tree_of ns) m.kids) ≡ trees_of (map (tree_of ns) n.kids) = cc in
    let same : m.kids ≡ n.kids = same_places ns shared m.kids n.kids hm hn (trees_of_injective _ _ kids) in
    same_fields m n kind number name same

-- one node more
module _ (ns : List Node) (n : Node) (pool : IsPool ns) (fine : HasForm (trees_in ns) (length ns) n) where
  HaveForms-push : HaveForms (ns ++ n ∷ [])
  HaveForms-push id node at =
      elim (cases_lt id (length ns)) [
        | inl l ↦ HasForm-append ns (n ∷ []) id node (omega arith) (pool.forms id node (slice_get-front ns (n ∷ []) id node l at))
        | inr le ↦
            let within : id < length (ns ++ n ∷ []) = slice_get_within (ns ++ n ∷ []) id node at in
            let last : length ns ≡ id = omega (arith, length_push ns n) in
            let here : n ≡ node = sym (get_or_push ns n node id last) ∙ get_or_from_slice_get (ns ++ n ∷ []) id node node at in
            subst (HasForm (trees_in (ns ++ n ∷ [])) id) here
            (subst (λ (k : ℕ). HasForm (trees_in (ns ++ n ∷ [])) k n) last (HasForm-append ns (n ∷ []) (length ns) n (omega arith) fine))
      ]

  ts : List Tree
  ts = trees_in ns

  pub tree_of_last : tree_of (ns ++ n ∷ []) (length ns) ≡ tree_over (trees_in ns) n
  tree_of_last = ap (λ (trees : List Tree). tree_at trees (length ns)) (trees_in_push ns n) ∙ tree_at_last (trees_in ns) (tree_over (trees_in ns) n) (length ns) (length-trees_in ns)

  fresh : ¬ (Contains ns n) → (j : ℕ) → j < length ns → tree_of ns j ≡ tree_over (trees_in ns) n → ⊥
  fresh new j l e =
      let m = get_or ns j n in
      let at : slice_get ns j ≡ Some m = slice_get-get_or ns j n l in
      let low : All (λ i. i < length ns) m.kids = λ k d o. omega (arith, (pool.forms j m at).kids k d o) in
      new (j, l, same_nodes ns pool.shared m n low fine.kids (sym (tree_of_place ns pool.forms j m at) ∙ e))

  ShareTrees-push : ¬ (Contains ns n) → ShareTrees (ns ++ n ∷ [])
  ShareTrees-push new i j li lj e =
      elim (cases_lt i (length ns)) [
        | inl l ↦ elim (cases_lt j (length ns)) [
          | inl m ↦ pool.shared i j l m (sym (tree_of-append ns (n ∷ []) i l) ∙ (e ∙ tree_of-append ns (n ∷ []) j m))
          | inr m ↦
              let last : j ≡ length ns = omega (arith, length_push ns n) in
              absurd (fresh new i l (sym (tree_of-append ns (n ∷ []) i l) ∙ (e ∙ (ap (tree_of (ns ++ n ∷ [])) last ∙ tree_of_last))))
        ]
        | inr l ↦ elim (cases_lt j (length ns)) [
          | inl m ↦
              let last : i ≡ length ns = omega (arith, length_push ns n) in
              absurd (fresh new j m (sym (tree_of-append ns (n ∷ []) j m) ∙ (sym e ∙ (ap (tree_of (ns ++ n ∷ [])) last ∙ tree_of_last))))
          | inr m ↦ omega (arith, length_push ns n)
        ]
      ]

  pub IsPool-push : ¬ (Contains ns n) → IsPool (ns ++ n ∷ [])
  IsPool-push new = record { forms = HaveForms-push; shared = ShareTrees-push new }

-- fewer nodes
pub IsPool-front : (ns ms : List Node) → IsPool (ns ++ ms) → IsPool ns
IsPool-front ns ms pool = record { forms = forms; shared = shared } where
  forms : HaveForms ns
  forms id node at =
      HasForm-front ns ms id node (omega (arith, slice_get_within ns id node at)) (pool.forms id node (slice_get-append ns ms id node at))

  shared : ShareTrees ns
  shared i j li lj e =
      pool.shared i j (omega (arith, length-append ns ms)) (omega (arith, length-append ns ms)) (tree_of-append ns ms i li ∙ (e ∙ sym (tree_of-append ns ms j lj)))

pub IsPool-take : (ns : List Node) (k : ℕ) → IsPool ns → IsPool (take k ns)
IsPool-take ns k pool = IsPool-front (take k ns) (drop k ns) (subst IsPool (sym (take-append-drop k ns)) pool)

-- growth
pub Grows-same : (old new : List Node) → new ≡ old → Grows old new
Grows-same old new e = record { added = []; is = e ∙ sym (append-nil old) }

pub Grows-trans : (a b c : List Node) → Grows a b → Grows b c → Grows a c
Grows-trans a b c ab bc = record {
  added = ab.added ++ bc.added;
  is = bc.is ∙ (ap (λ (ns : List Node). ns ++ bc.added) ab.is ∙ append_assoc a ab.added bc.added);
}

pub length-Grows : (old new : List Node) → Grows old new → length old ≤ length new
length-Grows old new grows = omega (arith, ap length grows.is, length-append old grows.added)

pub KeepsTrees-Grows : (old new : List Node) → Grows old new → KeepsTrees (length old) old new
KeepsTrees-Grows old new grows id l = ap (λ (ns : List Node). tree_of ns id) grows.is ∙ tree_of-append old grows.added id l

pub KeepsTrees-take : (ns : List Node) (k bound : ℕ) → bound ≤ k → bound ≤ length ns → KeepsTrees bound ns (take k ns)
KeepsTrees-take ns k bound below within id l =
    sym (tree_of-append (take k ns) (drop k ns) id (omega (arith, length-take k ns)))
    ∙ ap (λ (ms : List Node). tree_of ms id) (take-append-drop k ns)

-- what making a node does
module _ (ns : List Node) (n : Node) (new : List Node) (id : ℕ) (pool : IsPool ns) (fine : HasForm (trees_in ns) (length ns) n) (makes : Makes ns n new id) where
  pub IsPool-Makes : IsPool new
  IsPool-Makes = elim makes [
    | inl there ↦ subst IsPool (sym there.0) pool
    | inr last ↦ subst IsPool (sym last.0) (IsPool-push ns n pool fine last.2)
  ]

  pub tree_of-Makes : tree_of new id ≡ tree_over (trees_in ns) n
  tree_of-Makes = elim makes [
    | inl there ↦ ap (λ (ms : List Node). tree_of ms id) there.0 ∙ tree_of_place ns pool.forms id n there.1
    | inr last ↦ ap (λ (ms : List Node). tree_of ms id) last.0 ∙ (ap (tree_of (ns ++ n ∷ [])) last.1 ∙ tree_of_last ns n pool fine)
  ]

  pub Grows-Makes : Grows ns new
  Grows-Makes = elim makes [
    | inl there ↦ Grows-same ns new there.0
    | inr last ↦ record { added = n ∷ []; is = last.0 }
  ]

  pub within-Makes : id < length new
  within-Makes = elim makes [
    | inl there ↦ omega (arith, slice_get_within ns id n there.1, ap length there.0)
    | inr last ↦ omega (arith, last.1, ap length last.0, length_push ns n)
  ]
