-- The paths of cubes by their ids.
use Rattle.std.proofs.Common.{◌≡◌, ℕ, Bool, true, false, cond, List, [], ◌∷◌, ◌++◌, length, map, Option, Some, None, nat_eq, refl, ap, subst, ◌∙◌, arith}
use Rattle.std.specs.Prelude.{option_and_then}
use Rattle.std.specs.Cmp.{unsigned_Decides}
use Rattle.std.proofs.lemmas.List.{length-map, length-append}
use Rattle.rz_rules.specs.declared.kinds.Kind.TheVariants.{CubeTwo, Product}
use Rattle.rz_rules.specs.declared.coordinates.TheConstants.{LEFT, RIGHT}
use Rattle.rz_rules.specs.declared.nodes.Node.{Node}
use Rattle.rz_rules.specs.Tree.{Tree, HasForm, At, Nil, And, tree_of, tree_over, trees_in}
use Rattle.rz_rules.specs.Cube.{left_part}
use Rattle.rz_rules.specs.Coordinate.{paths, width, left_width}
use Rattle.rz_cube.specs.Point.{HasPaths}
use Rattle.rz_cube.proofs.NodeTrees.{tree_as}
use Rattle.rz_cube.proofs.CachedPoints.{childless}

-- a cube has a path for each leaf that is the directed interval
pub length-paths : (cube : Tree) → length (paths cube) ≡ width cube
length-paths (At CubeTwo number name Nil) = refl
length-paths (At Product number name (And left (And right Nil))) =
    length-append (map (λ path. LEFT ∷ path) (paths left)) (map (λ path. RIGHT ∷ path) (paths right))
    ∙ omega (arith, length-map (paths left) (λ (path : List ℕ). LEFT ∷ path), length-map (paths right) (λ (path : List ℕ). RIGHT ∷ path), length-paths left, length-paths right)
length-paths other = refl

-- the width of the left part of a cube
pub width_of_part : (cube : Option Tree) (left : Tree) → option_and_then left_part cube ≡ Some left → length (paths left) ≡ left_width cube
width_of_part None left e = absurd cc
width_of_part (Some (At Product number name (And first (And second Nil)))) left e =
    let same : left ≡ first = cc in
    ap (λ part. length (paths part)) same ∙ length-paths first
width_of_part (Some other) left e = absurd cc

pub width_of_none : (cube : Option Tree) → option_and_then left_part cube ≡ None → left_width cube ≡ 0
width_of_none None e = refl
width_of_none (Some (At Product number name (And first (And second Nil)))) e = absurd cc
width_of_none (Some other) e = refl

module _ (ns : List Node) (id : ℕ) (n : Node) (is : tree_of ns id ≡ tree_over (trees_in ns) n) (fine : HasForm (trees_in ns) id n) where
  pub interval_paths : n.kind ≡ CubeTwo → paths (tree_of ns id) ≡ [] ∷ []
  interval_paths k = ap paths (childless ns id n is fine CubeTwo k refl)

  pub parts_paths : (left right : ℕ) → n.kind ≡ Product → n.kids ≡ left ∷ right ∷ []
      → paths (tree_of ns id) ≡ map (λ path. LEFT ∷ path) (paths (tree_of ns left)) ++ map (λ path. RIGHT ∷ path) (paths (tree_of ns right))
  parts_paths left right k are = ap paths (tree_as ns id n Product (left ∷ right ∷ []) is k are)

-- a table in which one more cube has its paths
module _ (ns : List Node) (id : ℕ) (list : List (List ℕ)) (is : list ≡ paths (tree_of ns id)) (before after : ℕ → Option (List (List ℕ)))
    (noted : (q : ℕ) → after q ≡ cond (nat_eq id q) (Some list) (before q)) where
  pub paths_here : HasPaths ns after id
  paths_here = noted id ∙ ap (λ b. cond b (Some list) (before id)) ((unsigned_Decides id id).1 refl) ∙ ap (λ (paths : List (List ℕ)). Some paths) is

  pub paths_others : (q : ℕ) → HasPaths ns before q → HasPaths ns after q
  paths_others q old = by (nat_eq id q) refl where
    by : (b : Bool) → nat_eq id q ≡ b → HasPaths ns after q
    by true e = subst (HasPaths ns after) ((unsigned_Decides id q).0 e) paths_here
    by false e = noted q ∙ ap (λ b. cond b (Some list) (before q)) e ∙ old
