-- Nodes of a pool by their parts.
use Rattle.std.proofs.Common.{◌≡◌, ℕ, List, length, map, sym, ap, ◌∙◌}
use Rattle.std.proofs.lemmas.List.{length-map}
use Rattle.rz_rules.specs.declared.kinds.Kind.{Kind}
use Rattle.rz_rules.specs.declared.nodes.Node.{Node}
use Rattle.rz_rules.specs.Form.{form}
use Rattle.rz_rules.specs.Tree.{Tree, At, trees_of, sort_of, tree_of, tree_over, trees_in}
use Rattle.rz_rules.specs.Tree.{HasForm}

-- a node has as many kids as its kind has places
pub kid_count : (ns : List Node) (bound : ℕ) (n : Node) → HasForm (trees_in ns) bound n → length n.kids ≡ length (form n.kind).kids
kid_count ns bound n fine =
    sym (length-map n.kids (tree_of ns)) ∙ sym (length-map (map (tree_of ns) n.kids) sort_of) ∙ ap length fine.sorts ∙ length-map (form n.kind).kids (λ slot. slot.sort)

-- the same, where the kind is known
pub kids_as : (ns : List Node) (bound : ℕ) (n : Node) (kind : Kind) → HasForm (trees_in ns) bound n → n.kind ≡ kind → length n.kids ≡ length (form kind).kids
kids_as ns bound n kind fine is = kid_count ns bound n fine ∙ ap (λ (k : Kind). length (form k).kids) is

-- a node with these parts
abbrev pub tree_with : (ℕ → Tree) → Kind → ℕ → List ℕ → List ℕ → Tree
tree_with at kind number name kids = At kind number name (trees_of (map at kids))

-- the tree of a node of a known kind, with known kids
pub tree_as : (ns : List Node) (i : ℕ) (n : Node) (kind : Kind) (kids : List ℕ) → tree_of ns i ≡ tree_over (trees_in ns) n → n.kind ≡ kind → n.kids ≡ kids
    → tree_of ns i ≡ tree_with (tree_of ns) kind n.number n.name kids
tree_as ns i n kind kids is kind_is kids_are = is ∙ (λ j. tree_with (tree_of ns) (kind_is j) n.number n.name (kids_are j))
