-- The trees that nodes stand for: each id has one tree, which later nodes don't change.
use Rattle.std.proofs.Common.{◌≡◌, ℕ, zero, suc, ◌+◌, ◌<◌, List, [], ◌∷◌, ◌++◌, length, get_or, map, All, refl, sym, ap, ◌∙◌, arith}
use Rattle.std.proofs.lemmas.List.{length_push, get_or_append_left, get_or_push}
use Rattle.std.proofs.lemmas.List.Elements.{All-head, All-tail, All-cons, All-nil}
use Rattle.rz_rules.specs.declared.nodes.Node.{Node}
use Rattle.rz_rules.specs.Tree.{Tree, Trees, At, Nil, And, trees_of, blank, tree_at, tree_over, trees_after, trees_in, tree_of}

-- the kids as a list
list_of : Trees → List Tree
list_of Nil = []
list_of (And t ts) = t ∷ list_of ts

list_of-trees_of : (ts : List Tree) → list_of (trees_of ts) ≡ ts
unfolding list_of
list_of-trees_of [] = refl
list_of-trees_of (t ∷ ts) = ap (λ us. t ∷ us) (list_of-trees_of ts)

pub trees_of_injective : (ts us : List Tree) → trees_of ts ≡ trees_of us → ts ≡ us
trees_of_injective ts us e = sym (list_of-trees_of ts) ∙ ap list_of e ∙ list_of-trees_of us

-- nodes in two parts
pub trees_after-append : (ts : List Tree) (ns ms : List Node) → trees_after ts (ns ++ ms) ≡ trees_after (trees_after ts ns) ms
trees_after-append ts [] ms = refl
trees_after-append ts (n ∷ ns) ms = trees_after-append (ts ++ tree_over ts n ∷ []) ns ms

-- one node more
pub trees_in_push : (ns : List Node) (n : Node) → trees_in (ns ++ n ∷ []) ≡ trees_in ns ++ tree_over (trees_in ns) n ∷ []
trees_in_push ns n = trees_after-append [] ns (n ∷ [])

pub length-trees_after : (ts : List Tree) (ns : List Node) → length (trees_after ts ns) ≡ length ts + length ns
length-trees_after ts [] = omega arith
length-trees_after ts (n ∷ ns) = length-trees_after (ts ++ tree_over ts n ∷ []) ns ∙ omega (arith, length_push ts (tree_over ts n))

pub length-trees_in : (ns : List Node) → length (trees_in ns) ≡ length ns
length-trees_in ns = length-trees_after [] ns ∙ omega arith

-- a tree that stands keeps its place
pub tree_at_push : (ts : List Tree) (t : Tree) (i : ℕ) → i < length ts → tree_at (ts ++ t ∷ []) i ≡ tree_at ts i
tree_at_push ts t i lt = get_or_append_left ts (t ∷ []) blank i lt

pub tree_at_last : (ts : List Tree) (t : Tree) (i : ℕ) → length ts ≡ i → tree_at (ts ++ t ∷ []) i ≡ t
tree_at_last ts t i e = get_or_push ts t blank i e

-- so do the trees of ids that are there
pub trees_at_push : (ts : List Tree) (t : Tree) (ids : List ℕ) → All (λ id. id < length ts) ids → map (tree_at (ts ++ t ∷ [])) ids ≡ map (tree_at ts) ids
trees_at_push ts t [] h = refl
trees_at_push ts t (id ∷ ids) h =
    let first : tree_at (ts ++ t ∷ []) id ≡ tree_at ts id = tree_at_push ts t id (All-head (λ id. id < length ts) id ids h) in
    let rest = trees_at_push ts t ids (All-tail (λ id. id < length ts) id ids h) in
    cc

pub trees_at_after : (ts : List Tree) (ns : List Node) (ids : List ℕ) → All (λ id. id < length ts) ids → map (tree_at (trees_after ts ns)) ids ≡ map (tree_at ts) ids
trees_at_after ts [] ids h = refl
trees_at_after ts (n ∷ ns) ids h =
    trees_at_after (ts ++ tree_over ts n ∷ []) ns ids (λ k d lt. omega (arith, h k d lt, length_push ts (tree_over ts n)))
    ∙ trees_at_push ts (tree_over ts n) ids h

pub tree_at_after : (ts : List Tree) (ns : List Node) (i : ℕ) → i < length ts → tree_at (trees_after ts ns) i ≡ tree_at ts i
tree_at_after ts ns i lt =
    let e : tree_at (trees_after ts ns) i ∷ [] ≡ tree_at ts i ∷ [] = trees_at_after ts ns (i ∷ []) (All-cons (λ id. id < length ts) i [] lt (All-nil (λ id. id < length ts))) in
    cc

-- whatever nodes come after, an id keeps its tree
pub trees_of-append : (ns ms : List Node) (ids : List ℕ) → All (λ id. id < length ns) ids → map (tree_of (ns ++ ms)) ids ≡ map (tree_of ns) ids
trees_of-append ns ms ids h =
    ap (λ (ts : List Tree). map (tree_at ts) ids) (trees_after-append [] ns ms)
    ∙ trees_at_after (trees_in ns) ms ids (λ k d lt. omega (arith, h k d lt, length-trees_in ns))

pub tree_of-append : (ns ms : List Node) (i : ℕ) → i < length ns → tree_of (ns ++ ms) i ≡ tree_of ns i
tree_of-append ns ms i lt =
    ap (λ (ts : List Tree). tree_at ts i) (trees_after-append [] ns ms) ∙ tree_at_after (trees_in ns) ms i (omega (arith, length-trees_in ns))

-- and a node whose kids are there keeps its tree
pub tree_over-append : (ns ms : List Node) (n : Node) → All (λ id. id < length ns) n.kids → tree_over (trees_in (ns ++ ms)) n ≡ tree_over (trees_in ns) n
tree_over-append ns ms n h = ap (λ (kids : List Tree). At n.kind n.number n.name (trees_of kids)) (trees_of-append ns ms n.kids h)

-- the tree of an id is that of its node
at_place_after : (ts : List Tree) (ns : List Node) (i : ℕ) (d : Node) → i < length ns
    → ((j : ℕ) (e : Node) → j < length ns → All (λ kid. kid < length ts + j) (get_or ns j e).kids)
    → tree_at (trees_after ts ns) (length ts + i) ≡ tree_over (trees_after ts ns) (get_or ns i d)
at_place_after ts [] i d lt h = absurd (omega arith)
at_place_after ts (n ∷ ns) zero d lt h =
    let more = ts ++ tree_over ts n ∷ [] in
    let low : All (λ kid. kid < length ts) n.kids = λ k e l. omega (arith, h 0 n (omega arith) k e l) in
    let here : tree_at (trees_after more ns) (length ts + 0) ≡ tree_over ts n =
    tree_at_after more ns (length ts + 0) (omega (arith, length_push ts (tree_over ts n))) ∙ tree_at_last ts (tree_over ts n) (length ts + 0) (omega arith) in
    let there : tree_over (trees_after more ns) n ≡ tree_over ts n =
    ap (λ (kids : List Tree). At n.kind n.number n.name (trees_of kids)) (trees_at_after ts (n ∷ ns) n.kids low) in
    here ∙ sym there
at_place_after ts (n ∷ ns) (suc i) d lt h =
    let more = ts ++ tree_over ts n ∷ [] in
    let step : length more + i ≡ length ts + suc i = omega (arith, length_push ts (tree_over ts n)) in
    let rest = at_place_after more ns i d (omega arith) (λ j e l k e' l'. omega (arith, h (suc j) e (omega arith) k e' l', length_push ts (tree_over ts n))) in
    sym (ap (tree_at (trees_after more ns)) step) ∙ rest

pub tree_of_node : (ns : List Node) → ((j : ℕ) (e : Node) → j < length ns → All (λ kid. kid < j) (get_or ns j e).kids)
    → (i : ℕ) (d : Node) → i < length ns → tree_of ns i ≡ tree_over (trees_in ns) (get_or ns i d)
tree_of_node ns low i d lt =
    let none : 0 + i ≡ i = omega arith in
    sym (ap (tree_at (trees_in ns)) none) ∙ at_place_after [] ns i d lt (λ j e l k e' l'. omega (arith, low j e l k e' l'))
