-- The leaves of cubes.
use Rattle.std.proofs.Common.{◌≡◌, ℕ, ◌+◌, ◌<◌, ◌≤◌, List, [], ◌∷◌, ◌++◌, length, All, ap, arith}
use Rattle.std.proofs.lemmas.List.{length_push}
use Rattle.std.proofs.lemmas.List.Elements.{All-push}
use Rattle.rz_rules.specs.declared.kinds.Kind.TheVariants.{Product}
use Rattle.rz_rules.specs.declared.nodes.Node.{Node}
use Rattle.rz_rules.specs.Tree.{Tree, At, Nil, And, tree_of}
use Rattle.rz_rules.specs.Cube.{leaves}
use Rattle.rz_pool.specs.Cubes.{IsProductOf, IsNoProduct}
use Rattle.rz_kernel_rows.specs.Leaves.{leaves_of, IsStep}

-- a cube has a leaf
pub leaves_some : (t : Tree) → 1 ≤ leaves t
leaves_some (At Product number name (And left (And right Nil))) = omega (arith, leaves_some left, leaves_some right)
leaves_some other = omega arith

pub leaves_of-some : (ns : List Node) (ids : List ℕ) → length ids ≤ leaves_of ns ids
leaves_of-some ns [] = omega arith
leaves_of-some ns (id ∷ ids) = omega (arith, leaves_of-some ns ids, leaves_some (tree_of ns id))

pub leaves_of-push : (ns : List Node) (ids : List ℕ) (id : ℕ) → leaves_of ns (ids ++ id ∷ []) ≡ leaves_of ns ids + leaves (tree_of ns id)
leaves_of-push ns [] id = omega arith
leaves_of-push ns (i ∷ ids) id = omega (arith, leaves_of-push ns ids id)

pub product_step : (ns : List Node) (rest : List ℕ) (id left right count : ℕ) → All (λ i. i < length ns) rest → IsProductOf ns id (left, right)
    → IsStep ns (rest ++ id ∷ []) count ((rest ++ right ∷ []) ++ left ∷ []) count
product_step ns rest id left right count low parts =
    let whole : leaves (tree_of ns id) ≡ leaves (tree_of ns left) + leaves (tree_of ns right) = ap leaves parts.tree in
    let before = leaves_of-push ns rest id in
    let one = leaves_of-push ns rest right in
    let two = leaves_of-push ns (rest ++ right ∷ []) left in
    record {
      low = All-push (λ i. i < length ns) (rest ++ right ∷ []) left (All-push (λ i. i < length ns) rest right low parts.right.0) parts.left.0;
      all = omega (arith, whole, before, one, two);
      less = omega (arith, whole, before, one, two, length_push rest id, length_push rest right, length_push (rest ++ right ∷ []) left);
    }

pub leaf_step : (ns : List Node) (rest : List ℕ) (id count : ℕ) → All (λ i. i < length ns) rest → IsNoProduct (tree_of ns id)
    → IsStep ns (rest ++ id ∷ []) count rest (count + 1)
leaf_step ns rest id count low none =
    let before = leaves_of-push ns rest id in
    record {
      low = low;
      all = omega (arith, none.leaf, before);
      less = omega (arith, none.leaf, before, length_push rest id);
    }
