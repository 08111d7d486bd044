-- Nodes of known kinds as trees.
use Rattle.std.proofs.Common.{◌≡◌, ℕ, List, [], ◌∷◌, length, map, ap, ◌∙◌}
use Rattle.rz_rules.specs.declared.kinds.Kind.{Kind}
use Rattle.rz_rules.specs.declared.kinds.Role.TheVariants.{Former}
use Rattle.rz_rules.specs.declared.nodes.Node.{Node}
use Rattle.std.proofs.lemmas.List.{nil_from_length}
use Rattle.rz_cube.proofs.NodeTrees.{kids_as}
use Rattle.rz_rules.specs.Form.{form, is_named, is_numbered}
use Rattle.rz_rules.specs.Tree.{Tree, At, Nil, And, HasForm, IsTree, sort_of, trees_of, tree_of, tree_over, trees_in}

-- a node that is neither variable nor declared has neither number nor name
pub former_tree : (nodes : List Node) (id : ℕ) (n : Node) → tree_of nodes id ≡ tree_over (trees_in nodes) n → HasForm (trees_in nodes) id n
    → (kind : Kind) → n.kind ≡ kind → (form kind).role ≡ Former → (kids : List ℕ) → n.kids ≡ kids
    → tree_of nodes id ≡ At kind 0 [] (trees_of (map (tree_of nodes) kids))
former_tree nodes id n tree fine kind k role kids are =
    let number : n.number ≡ 0 = fine.label.unnumbered (ap (λ (x : Kind). is_numbered (form x).role) k ∙ ap is_numbered role) in
    let name : n.name ≡ [] = fine.label.unnamed (ap (λ (x : Kind). is_named (form x).role) k ∙ ap is_named role) in
    tree ∙ (λ i. At (k i) (number i) (name i) (trees_of (map (tree_of nodes) (are i))))

pub entry_tree : (nodes : List Node) (id : ℕ) (n : Node) → tree_of nodes id ≡ tree_over (trees_in nodes) n → HasForm (trees_in nodes) id n
    → (kind : Kind) → n.kind ≡ kind → (form kind).role ≡ Former → (s u : ℕ) → n.kids ≡ s ∷ u ∷ []
    → tree_of nodes id ≡ At kind 0 [] (And (tree_of nodes s) (And (tree_of nodes u) Nil))
entry_tree nodes id n tree fine kind k role s u are = former_tree nodes id n tree fine kind k role (s ∷ u ∷ []) are

pub bare_tree : (nodes : List Node) (id : ℕ) (n : Node) → tree_of nodes id ≡ tree_over (trees_in nodes) n → HasForm (trees_in nodes) id n
    → (kind : Kind) → n.kind ≡ kind → (form kind).role ≡ Former → length (form kind).kids ≡ 0 → tree_of nodes id ≡ At kind 0 [] Nil
bare_tree nodes id n tree fine kind k role none =
    former_tree nodes id n tree fine kind k role [] (nil_from_length n.kids (kids_as nodes id n kind fine k ∙ none))

-- the sort of a tree
pub sort_is : (s : _) (t : Tree) → IsTree s t → sort_of t ≡ s
sort_is s (At kind number name kids) h = h.0
