-- The parts of points, and the equations between them.
use Rattle.std.proofs.Common.{◌≡◌, ℕ, ◌<◌, List, [], ◌∷◌, length, map, All, Some, sym, ap, subst, ◌∙◌, arith}
use Rattle.std.specs.Prelude.{slice_get}
use Rattle.std.proofs.lemmas.Option.{slice_get_within}
use Rattle.std.proofs.lemmas.List.Elements.{All-nil, All-cons, All-head}
use Rattle.rz_rules.specs.declared.kinds.Kind.{Kind}
use Rattle.rz_rules.specs.declared.nodes.Node.{Node}
use Rattle.rz_rules.specs.Tree.{At, Nil, And, trees_of, tree_of, tree_over, trees_in}
use Rattle.rz_rules.proofs.Trees.{trees_of_injective}
use Rattle.rz_pool.specs.Pool.{Grows, IsPool}
use Rattle.rz_pool.proofs.Nodes.{tree_of_place}
use Rattle.rz_rules.specs.Tope.{left, pair, right}
use Rattle.rz_rules.specs.Cube.{product}
use Rattle.rz_tope_normal.specs.declared.norms.Norms.{Norms}
use Rattle.rz_tope_normal.specs.declared.parts.Parts.{Parts}
use Rattle.rz_tope_normal.specs.Norm.{IsKnown, KnowsKids}
use Rattle.rz_tope_normal.specs.Equation.{ArePartsAt, IsProductAt}
use Rattle.rz_tope_normal.proofs.Staying.{live_stays, tree_stays}

-- the kid of a node whose tree has one, which is another id's
kid_of : (nodes : List Node) → IsPool nodes → (side : Kind) (id x : ℕ) → x < length nodes → tree_of nodes id ≡ At side 0 []
    (And (tree_of nodes x) Nil)
    → (node : Node) → slice_get nodes id ≡ Some node → node.kids ≡ x ∷ []
kid_of nodes pool side id x lx tree node at =
    let e : tree_over (trees_in nodes) node ≡ At side 0 [] (And (tree_of nodes x) Nil) = sym (tree_of_place nodes pool.forms id node at) ∙ tree in
    let kids : trees_of (map (tree_of nodes) node.kids) ≡ trees_of (tree_of nodes x ∷ []) = cc in
    one node.kids (pool.forms id node at).kids (trees_of_injective (map (tree_of nodes) node.kids) (tree_of nodes x ∷ []) kids) where
      one : (kids : List ℕ) → All (λ kid. kid < id) kids → map (tree_of nodes) kids ≡ tree_of nodes x ∷ [] → kids ≡ x ∷ []
      one [] low e = absurd cc
      one (kid ∷ []) low e =
          let same : tree_of nodes kid ≡ tree_of nodes x = cc in
          let within : id < length nodes = slice_get_within nodes id node at in
          ap (λ (k : ℕ). k ∷ []) (pool.shared kid x (omega (arith, All-head (λ k. k < id) kid [] low, within)) lx same)
      one (kid ∷ other ∷ kids) low e = absurd cc

pub knows_kid : (nodes : List Node) → IsPool nodes → (norms : Norms) (side : Kind) (id x : ℕ) → x < length nodes → tree_of nodes id ≡ At side 0 []
    (And (tree_of nodes x) Nil)
    → IsKnown norms x → KnowsKids nodes norms id
knows_kid nodes pool norms side id x lx tree known node at =
    subst (λ (kids : List ℕ). All (IsKnown norms) kids) (sym (kid_of nodes pool side id x lx tree node at))
    (All-cons (IsKnown norms) x [] known (All-nil (IsKnown norms)))

-- what is known of the parts of a point stays
pub parts_stay : (old new : List Node) → Grows old new → (before after : Norms) → ((q : ℕ) → IsKnown before q → IsKnown after q) → (point : ℕ) → point
    < length old
    → (parts : Parts) → ArePartsAt old before point parts → ArePartsAt new after point parts
parts_stay old new grows before after kept point live parts is =
    let same = tree_stays old new grows point live in
    record {
      left_live = live_stays old new grows parts.left is.left_live;
      right_live = live_stays old new grows parts.right is.right_live;
      pair_live = live_stays old new grows parts.pair is.pair_live;
      left_is = tree_stays old new grows parts.left is.left_live ∙ is.left_is ∙ ap left (sym same);
      right_is = tree_stays old new grows parts.right is.right_live ∙ is.right_is ∙ ap right (sym same);
      pair_is = tree_stays old new grows parts.pair is.pair_live ∙ is.pair_is ∙ (λ i. pair (left (sym same i)) (right (sym same i)));
      left_known = kept parts.left is.left_known;
      right_known = kept parts.right is.right_known;
    }

pub product_stays : (old new : List Node) → Grows old new → (cube : ℕ) (cubes : ℕ × ℕ) → IsProductAt old cube cubes → IsProductAt new cube cubes
product_stays old new grows cube cubes is = record {
  live = live_stays old new grows cube is.live;
  left_live = live_stays old new grows cubes.0 is.left_live;
  right_live = live_stays old new grows cubes.1 is.right_live;
  tree = tree_stays old new grows cube is.live ∙ is.tree
      ∙ (λ i. product (sym (tree_stays old new grows cubes.0 is.left_live) i) (sym (tree_stays old new grows cubes.1 is.right_live) i));
}
