-- Sorts of points and topes, and nodes that are made of them.
use Rattle.std.proofs.Common.{◌≡◌, ℕ, ◌<◌, List, [], ◌∷◌, length, refl, subst, arith}
use Rattle.std.proofs.lemmas.List.Elements.{All-nil, All-cons}
use Rattle.rz_rules.specs.declared.kinds.Kind.{Kind}
use Rattle.rz_rules.specs.declared.kinds.Kind.TheVariants.{PointVariable, OnlyPoint, Zero, One, PointPair, PointLeft, PointRight, Top, Bottom, Conjunction, Disjunction, EqualPoints, AtMost, CubeEntry, TopeEntry, TermEntry}
use Rattle.rz_rules.specs.declared.kinds.Role.TheVariants.{Former}
use Rattle.rz_rules.specs.declared.kinds.Sort.{Sort}
use Rattle.rz_rules.specs.declared.kinds.Sort.TheVariants as sort
use Rattle.rz_rules.specs.declared.nodes.Node.{Node}
use Rattle.rz_rules.specs.Form.{form, kid_sorts}
use Rattle.rz_rules.specs.Tree.{Tree, At, Nil, And, HasForm, IsTree, sort_of, tree_of, trees_in}
use Rattle.rz_rules.specs.Cube.{Binders, binders_of, cube_two, cubes_of}
use Rattle.rz_rules.specs.Tope.{IsPointOf, IsTopeOver, at_most}
use Rattle.rz_pool.specs.Pool.{IsPool}
use Rattle.rz_pool.proofs.WellFormed.{tree_of-is}
use Rattle.rz_tope_proof.specs.declared.proof.Claim.{Claim}
use Rattle.rz_tope_proof.specs.declared.proof.Claim.TheVariants as claim
use Rattle.rz_tope_proof.specs.Claim.{IsClaim, tope_of}
use Rattle.rz_metatheory.proofs.Values.{AreCubes, AreCubes-front, cube_of_is, former_label}

-- what is a tope over something is of the sort of topes, and what has a cube of that of points
pub over_sort : (binders : Binders) (t : Tree) → IsTopeOver binders t → sort_of t ≡ sort.Tope
over_sort binders (At Top number name Nil) over = refl
over_sort binders (At Bottom number name Nil) over = refl
over_sort binders (At Conjunction number name (And p (And q Nil))) over = refl
over_sort binders (At Disjunction number name (And p (And q Nil))) over = refl
over_sort binders (At EqualPoints number name (And cube (And s (And u Nil)))) over = refl
over_sort binders (At AtMost number name (And s (And u Nil))) over = refl
over_sort binders other over = absurd over

pub point_sort : (binders : Binders) (s cube : Tree) → IsPointOf binders cube s → sort_of s ≡ sort.Point
point_sort binders (At PointVariable index name Nil) cube is = refl
point_sort binders (At OnlyPoint number name Nil) cube is = refl
point_sort binders (At Zero number name Nil) cube is = refl
point_sort binders (At One number name Nil) cube is = refl
point_sort binders (At PointPair number name (And s (And u Nil))) cube is = refl
point_sort binders (At PointLeft number name (And s Nil)) cube is = refl
point_sort binders (At PointRight number name (And s Nil)) cube is = refl
point_sort binders other cube is = absurd cc

-- the cubes that a context binds are cubes
pub cubes_are : (context : Tree) → IsTree sort.Context context → AreCubes (cubes_of context)
cubes_are (At CubeEntry number name (And context (And cube Nil))) is =
    AreCubes-front cube (cubes_of context) is.2.1.0 (cubes_are context is.2.0)
cubes_are (At TopeEntry number name (And context (And tope Nil))) is = cubes_are context is.2.0
cubes_are (At TermEntry number name (And context (And type Nil))) is = cubes_are context is.2.0
cubes_are other is = λ index cube e. absurd cc

-- the tree of a sort has it
pub has_sort : (t : Tree) (of : Sort) → IsTree of t → sort_of t ≡ of
has_sort (At kind number name kids) of is = is.0

pub cube_sort : (context s cube : Tree) → IsTree sort.Context context → IsPointOf (binders_of context) cube s → sort_of cube ≡ sort.Cube
cube_sort context s cube is point = has_sort cube sort.Cube (cube_of_is (cubes_of context) (cubes_are context is) s cube point)

-- points of nodes, and comparisons of them
point_is : (nodes : List Node) → IsPool nodes → (binders : Binders) (s : ℕ) (cube : Tree) → s < length nodes → IsPointOf binders cube (tree_of nodes s)
    → IsTree sort.Point (tree_of nodes s)
point_is nodes is binders s cube live over =
    subst (λ o. IsTree o (tree_of nodes s)) (point_sort binders (tree_of nodes s) cube over) (tree_of-is nodes is.forms s live)

compared_is : (nodes : List Node) → IsPool nodes → (binders : Binders) (s u : ℕ) → s < length nodes → u < length nodes
    → IsPointOf binders cube_two (tree_of nodes s) → IsPointOf binders cube_two (tree_of nodes u)
    → IsTree sort.Tope (at_most (tree_of nodes s) (tree_of nodes u))
compared_is nodes is binders s u s_live u_live s_over u_over = (
  refl,
  former_label AtMost refl,
  (
    point_is nodes is binders s cube_two s_live s_over,
    (point_is nodes is binders u cube_two u_live u_over, tt),
  ),
)

-- nodes of no kid, of two and of three
module _ (nodes : List Node) (kind : Kind) (former : (form kind).role ≡ Former) where
  pub none_formed : [] ≡ kid_sorts kind → HasForm (trees_in nodes) (length nodes) (record { kind = kind; number = 0; name = []; kids = [] })
  none_formed sorts = record {
    kids = All-nil (λ id. id < length nodes);
    sorts = sorts;
    label = former_label kind former;
  }

  pub two_formed : (i j : ℕ) → i < length nodes → j < length nodes
      → sort_of (tree_of nodes i) ∷ sort_of (tree_of nodes j) ∷ [] ≡ kid_sorts kind
      → HasForm (trees_in nodes) (length nodes) (record { kind = kind; number = 0; name = []; kids = i ∷ j ∷ [] })
  two_formed i j first second sorts = record {
    kids = All-cons (λ id. id < length nodes) i (j ∷ []) first (All-cons (λ id. id < length nodes) j [] second (All-nil (λ id. id < length nodes)));
    sorts = sorts;
    label = former_label kind former;
  }

  pub three_formed : (h i j : ℕ) → h < length nodes → i < length nodes → j < length nodes
      → sort_of (tree_of nodes h) ∷ sort_of (tree_of nodes i) ∷ sort_of (tree_of nodes j) ∷ [] ≡ kid_sorts kind
      → HasForm (trees_in nodes) (length nodes) (record { kind = kind; number = 0; name = []; kids = h ∷ i ∷ j ∷ [] })
  three_formed h i j zeroth first second sorts = record {
    kids = All-cons (λ id. id < length nodes) h (i ∷ j ∷ []) zeroth
        (All-cons (λ id. id < length nodes) i (j ∷ []) first (All-cons (λ id. id < length nodes) j [] second (All-nil (λ id. id < length nodes))));
    sorts = sorts;
    label = former_label kind former;
  }

-- lists of equal sorts
pub two_sorts : (a b c d : Sort) → a ≡ c → b ≡ d → a ∷ b ∷ [] ≡ c ∷ d ∷ []
two_sorts a b c d e f = cc

pub three_sorts : (a b c x y z : Sort) → a ≡ x → b ≡ y → c ≡ z → a ∷ b ∷ c ∷ [] ≡ x ∷ y ∷ z ∷ []
three_sorts a b c x y z e f g = cc

-- the tope of a claim is a tree of its sort
pub claim_tope : (nodes : List Node) → IsPool nodes → (context : Tree) → IsTree sort.Context context → (says : Claim) → IsClaim nodes context says
    → IsTree sort.Tope (tope_of nodes says)
claim_tope nodes is context formed (claim.Tope t) so =
    subst (λ s. IsTree s (tree_of nodes t)) (over_sort (binders_of context) (tree_of nodes t) so.over) (tree_of-is nodes is.forms t (so.live 0 0 (omega arith)))
claim_tope nodes is context formed claim.Bottom so = (refl, former_label Bottom refl, tt)
claim_tope nodes is context formed (claim.AtMost s u) so =
    compared_is nodes is (binders_of context) s u (so.live 0 0 (omega arith)) (so.live 1 0 (omega arith)) so.over.0 so.over.1
claim_tope nodes is context formed (claim.Either s u) so = (
  refl,
  former_label Disjunction refl,
  (
    compared_is nodes is (binders_of context) s u (so.live 0 0 (omega arith)) (so.live 1 0 (omega arith)) so.over.0.0 so.over.0.1,
    (
      compared_is nodes is (binders_of context) u s (so.live 1 0 (omega arith)) (so.live 0 0 (omega arith)) so.over.1.0 so.over.1.1,
      tt,
    ),
  ),
)
claim_tope nodes is context formed (claim.Equal cube s u) so = (
  refl,
  former_label EqualPoints refl,
  (
    subst (λ o. IsTree o (tree_of nodes cube)) (cube_sort context (tree_of nodes s) (tree_of nodes cube) formed so.over.0)
        (tree_of-is nodes is.forms cube (so.live 0 0 (omega arith))),
    (
      point_is nodes is (binders_of context) s (tree_of nodes cube) (so.live 1 0 (omega arith)) so.over.0,
      (
        point_is nodes is (binders_of context) u (tree_of nodes cube) (so.live 2 0 (omega arith)) so.over.1,
        tt,
      ),
    ),
  ),
)
