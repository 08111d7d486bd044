-- Trees, of all sorts alike, and the trees that nodes stand for.
use Rattle.std.specs.Prelude.{◌≡◌, ℕ, ◌<◌, ◌^◌, true, false, List, [], ◌∷◌, ◌++◌, Some, All, map, slice_get}
use Rattle.std.specs.List.{slice_index_or}
use Rattle.rz_rules.specs.declared.kinds.Sort.{Sort}
use Rattle.rz_rules.specs.declared.kinds.Kind.{Kind}
use Rattle.rz_rules.specs.declared.kinds.Kind.TheVariants.{EmptyContext}
use Rattle.rz_rules.specs.declared.nodes.Node.{Node}
use Rattle.rz_rules.specs.Name.{IsName}
use Rattle.rz_rules.specs.Form.{form, kid_sorts, is_numbered, is_named}

-- a node of a kind, with its number, its name and its kids
mutual
  pub data Tree : Type 0 where
    At : (kind : Kind) (number : ℕ) (name : List ℕ) (kids : Trees) → Tree

  pub data Trees : Type 0 where
    Nil : Trees
    And : (first : Tree) (rest : Trees) → Trees

abbrev pub trees_of : List Tree → Trees
trees_of [] = Nil
trees_of (t ∷ ts) = And t (trees_of ts)

abbrev pub sort_of : Tree → Sort
sort_of (At kind number name kids) = (form kind).sort

abbrev pub kind_at : Tree → Kind
kind_at (At kind number name kids) = kind

-- a variable has its index, a constant or a postulate its name, and no other node has either
pub record IsLabelled (kind : Kind) (number : ℕ) (name : List ℕ) : Type 0 where
  pub small : number < 2 ^ 32
  pub unnumbered : is_numbered (form kind).role ≡ false → number ≡ 0
  pub unnamed : is_named (form kind).role ≡ false → name ≡ []
  pub named : is_named (form kind).role ≡ true → IsName name

-- a tree of a sort: each of its nodes has the form of its kind
abbrev mutual
  pub IsTree : Sort → Tree → Type 0
  IsTree sort (At kind number name kids) =
      ((form kind).sort ≡ sort) × IsLabelled kind number name × AreTrees (kid_sorts kind) kids

  pub AreTrees : List Sort → Trees → Type 0
  AreTrees [] Nil = Unit {0}
  AreTrees (sort ∷ sorts) (And first rest) = IsTree sort first × AreTrees sorts rest
  AreTrees sorts kids = ⊥

-- the tree that stands for an id that none has
abbrev pub blank : Tree
blank = At EmptyContext 0 [] Nil

-- the tree of an id
abbrev pub tree_at : List Tree → ℕ → Tree
tree_at trees id = slice_index_or trees id blank

-- the tree of a node whose kids are among these trees
abbrev pub tree_over : List Tree → Node → Tree
tree_over trees node = At node.kind node.number node.name (trees_of (map (tree_at trees) node.kids))

-- a node has the form of its kind: kids below a bound, among these trees and of the kind's sorts
pub record HasForm (trees : List Tree) (bound : ℕ) (node : Node) : Type 0 where
  pub kids : All (λ id. id < bound) node.kids
  pub sorts : map sort_of (map (tree_at trees) node.kids) ≡ kid_sorts node.kind
  pub label : IsLabelled node.kind node.number node.name

-- the trees of nodes whose kids are ids of trees that stand before them
abbrev pub trees_after : List Tree → List Node → List Tree
trees_after trees [] = trees
trees_after trees (node ∷ nodes) = trees_after (trees ++ tree_over trees node ∷ []) nodes

abbrev pub trees_in : List Node → List Tree
trees_in nodes = trees_after [] nodes

-- the tree that an id stands for, where the nodes are named by their places
abbrev pub tree_of : List Node → ℕ → Tree
tree_of nodes id = tree_at (trees_in nodes) id

-- each node has the form of its kind, over the nodes before it
abbrev pub HaveForms : List Node → Type 0
HaveForms nodes = (id : ℕ) (node : Node) → slice_get nodes id ≡ Some node → HasForm (trees_in nodes) id node
