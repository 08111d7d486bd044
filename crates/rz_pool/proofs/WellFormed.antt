-- What a pool has is trees: each has the form of its kind throughout.
use Rattle.std.proofs.Common.{◌≡◌, ℕ, zero, suc, ◌<◌, List, [], ◌∷◌, length, get_or, map, All, Some, refl, sym, subst, arith}
use Rattle.std.specs.Prelude.{slice_get}
use Rattle.std.proofs.lemmas.List.Elements.{All-head, All-tail}
use Rattle.std.proofs.lemmas.Option.{slice_get-get_or}
use Rattle.rz_rules.specs.declared.kinds.Kind.TheVariants.{EmptyContext}
use Rattle.rz_rules.specs.declared.kinds.Sort.{Sort}
use Rattle.rz_rules.specs.declared.nodes.Node.{Node}
use Rattle.rz_rules.specs.Form.{kid_sorts}
use Rattle.rz_rules.specs.Tree.{IsTree, AreTrees, HaveForms, HasForm, sort_of, tree_of, tree_over, trees_in, trees_of}
use Rattle.rz_pool.proofs.Nodes.{tree_of_place}

-- trees below a bound are trees of their sorts
abbrev AreTreesBelow : List Node → ℕ → Type 0
AreTreesBelow ns bound = (id : ℕ) → id < bound → IsTree (sort_of (tree_of ns id)) (tree_of ns id)

kids_are : (ns : List Node) (bound : ℕ) → AreTreesBelow ns bound → (sorts : List Sort) (kids : List ℕ) → All (λ id. id < bound) kids
    → map sort_of (map (tree_of ns) kids) ≡ sorts → AreTrees sorts (trees_of (map (tree_of ns) kids))
kids_are ns bound below [] [] low e = tt
kids_are ns bound below [] (kid ∷ kids) low e = absurd cc
kids_are ns bound below (sort ∷ sorts) [] low e = absurd cc
kids_are ns bound below (sort ∷ sorts) (kid ∷ kids) low e =
    let P : ℕ → Type 0 = λ id. id < bound in
    let here : sort_of (tree_of ns kid) ≡ sort = cc in
    let others : map sort_of (map (tree_of ns) kids) ≡ sorts = cc in
    (subst (λ s. IsTree s (tree_of ns kid)) here (below kid (All-head P kid kids low)), kids_are ns bound below sorts kids (All-tail P kid kids low) others)

node_is : (ns : List Node) (id : ℕ) (node : Node) → HasForm (trees_in ns) id node → AreTreesBelow ns id → IsTree (sort_of (tree_over (trees_in ns) node)) (tree_over (trees_in ns) node)
node_is ns id node form below = (refl, form.label, kids_are ns id below (kid_sorts node.kind) node.kids form.kids form.sorts)

trees_are : (ns : List Node) → HaveForms ns → (count : ℕ) → AreTreesBelow ns count → count < length ns → IsTree (sort_of (tree_of ns count)) (tree_of ns count)
trees_are ns forms count below l =
    let none : Node = record { kind = EmptyContext; number = 0; name = []; kids = [] } in
    let node : Node = get_or ns count none in
    let at : slice_get ns count ≡ Some node = slice_get-get_or ns count none l in
    let is : tree_of ns count ≡ tree_over (trees_in ns) node = tree_of_place ns forms count node at in
    subst (λ t. IsTree (sort_of t) t) (sym is) (node_is ns count node (forms count node at) below)

all_below : (ns : List Node) → HaveForms ns → (count : ℕ) → (id : ℕ) → id < count → id < length ns → IsTree (sort_of (tree_of ns id)) (tree_of ns id)
all_below ns forms zero id lt l = absurd (omega arith)
all_below ns forms (suc count) id lt l =
    trees_are ns forms id (λ k below. all_below ns forms count k (omega arith) (omega arith)) l

-- the tree of an id is one of its sort
pub tree_of-is : (ns : List Node) → HaveForms ns → (id : ℕ) → id < length ns → IsTree (sort_of (tree_of ns id)) (tree_of ns id)
tree_of-is ns forms id l = all_below ns forms (length ns) id l l
