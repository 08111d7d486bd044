-- Points and topes by their nodes.
use Rattle.std.proofs.Common.{◌≡◌, ℕ, ◌<◌, Bool, true, false, true≢false, List, [], ◌∷◌, inl, inr, ◌⊎◌, length, map, All, Option, Some, None, refl, sym, ap, subst, ◌∙◌, arith}
use Rattle.std.specs.Prelude.{slice_get, option_map, option_and_then, ◌↔◌}
use Rattle.std.proofs.lemmas.List.{nil_from_length, length-map}
use Rattle.rz_rules.specs.declared.kinds.Kind.{Kind}
use Rattle.rz_rules.specs.declared.kinds.Kind.TheVariants.{CubeTwo, PointVariable, OnlyPoint, Zero, One, PointPair, PointLeft, PointRight, Top, Bottom, Conjunction, Disjunction, EqualPoints, AtMost}
use Rattle.rz_rules.specs.declared.nodes.Node.{Node}
use Rattle.rz_rules.specs.Form.{form, is_named, is_numbered}
use Rattle.rz_rules.specs.Tree.{Tree, At, Nil, HasForm, trees_of, sort_of, tree_of, tree_over, trees_in}
use Rattle.rz_rules.specs.Cube.{Binders, binders_of, cube_one, cube_two, product, left_part, right_part}
use Rattle.rz_rules.specs.Tope.{cube_of, IsTopeOver, IsPointOf}
use Rattle.rz_pool.specs.Pool.{ShareTrees}
use Rattle.rz_context.specs.declared.knowledge.Knowledge.{Knowledge}
use Rattle.rz_context.specs.declared.knowledge.Cached.{Cached}
use Rattle.rz_pool.specs.Cubes.{IsCubeId}
use Rattle.rz_context.specs.Knowledge.{IsKnown, Caches, cached_in, view_of}

-- ---- nodes

-- a node has as many kids as its kind has summaries
kid_count : (ns : List Node) (bound : ℕ) (n : Node) → HasForm (trees_in ns) bound n → length n.kids ≡ length (form n.kind).kids
kid_count ns bound n fine =
    sym (length-map n.kids (tree_of ns)) ∙ sym (length-map (map (tree_of ns) n.kids) sort_of) ∙ ap length fine.sorts ∙ length-map (form n.kind).kids (λ slot. slot.sort)

pub kids_as : (ns : List Node) (bound : ℕ) (n : Node) (kind : Kind) → HasForm (trees_in ns) bound n → n.kind ≡ kind → length n.kids ≡ length (form kind).kids
kids_as ns bound n kind fine is = kid_count ns bound n fine ∙ ap (λ (k : Kind). length (form k).kids) is

-- a node with these parts
abbrev tree_with : (ℕ → Tree) → Kind → ℕ → List ℕ → List ℕ → Tree
tree_with at kind number name kids = At kind number name (trees_of (map at kids))

-- the tree of a node of a known kind, with known kids
tree_as : (ns : List Node) (i : ℕ) (n : Node) (kind : Kind) (kids : List ℕ) → tree_of ns i ≡ tree_over (trees_in ns) n → n.kind ≡ kind → n.kids ≡ kids
    → tree_of ns i ≡ tree_with (tree_of ns) kind n.number n.name kids
tree_as ns i n kind kids is kind_is kids_are = is ∙ (λ j. tree_with (tree_of ns) (kind_is j) n.number n.name (kids_are j))

-- what holds of all kids of a node that has so many
pub all_one : (P : ℕ → Type 0) (a : ℕ) (ids : List ℕ) → ids ≡ a ∷ [] → All P ids → P a
all_one P a ids are h = subst (λ (xs : List ℕ). All P xs) are h 0 0 (omega arith)

pub all_two : (P : ℕ → Type 0) (a b : ℕ) (ids : List ℕ) → ids ≡ a ∷ b ∷ [] → All P ids → P a × P b
all_two P a b ids are h =
    let all = subst (λ (xs : List ℕ). All P xs) are h in
    (all 0 0 (omega arith), all 1 0 (omega arith))

pub all_three : (P : ℕ → Type 0) (a b c : ℕ) (ids : List ℕ) → ids ≡ a ∷ b ∷ c ∷ [] → All P ids → P a × P b × P c
all_three P a b c ids are h =
    let all = subst (λ (xs : List ℕ). All P xs) are h in
    (all 0 0 (omega arith), all 1 0 (omega arith), all 2 0 (omega arith))

-- the directed interval and no other cube
pub interval : (ns : List Node) (id : ℕ) (n : Node) → tree_of ns id ≡ tree_over (trees_in ns) n → HasForm (trees_in ns) id n → n.kind ≡ CubeTwo → tree_of ns id ≡ cube_two
interval ns id n is fine k =
    let number : n.number ≡ 0 = fine.label.unnumbered (ap (λ (k : Kind). is_numbered (form k).role) k) in
    let name : n.name ≡ [] = fine.label.unnamed (ap (λ (k : Kind). is_named (form k).role) k) in
    tree_as ns id n CubeTwo [] is k (nil_from_length n.kids (kids_as ns id n CubeTwo fine k)) ∙ (λ i. At CubeTwo (number i) (name i) Nil)

module _ (ns : List Node) (cubes : Binders) (id : ℕ) (n : Node) (is : tree_of ns id ≡ tree_over (trees_in ns) n) (fine : HasForm (trees_in ns) id n) where
  childless : (kind : Kind) → n.kind ≡ kind → length (form kind).kids ≡ 0 → tree_of ns id ≡ tree_with (tree_of ns) kind n.number n.name []
  childless kind k none = tree_as ns id n kind [] is k (nil_from_length n.kids (kids_as ns id n kind fine k ∙ none))

  pub variable_cube : n.kind ≡ PointVariable → cube_of cubes (tree_of ns id) ≡ slice_get cubes.cubes n.number
  variable_cube k = ap (cube_of cubes) (childless PointVariable k refl)

  pub only_cube : n.kind ≡ OnlyPoint → cube_of cubes (tree_of ns id) ≡ Some cube_one
  only_cube k = ap (cube_of cubes) (childless OnlyPoint k refl)

  pub end_cube : (n.kind ≡ Zero) ⊎ (n.kind ≡ One) → cube_of cubes (tree_of ns id) ≡ Some cube_two
  end_cube k = elim k [
    | inl zero ↦ ap (cube_of cubes) (childless Zero zero refl)
    | inr one ↦ ap (cube_of cubes) (childless One one refl)
  ]

  pub pair_cube : (s u : ℕ) → n.kind ≡ PointPair → n.kids ≡ s ∷ u ∷ [] → cube_of cubes (tree_of ns id)
      ≡ option_and_then (λ l. option_and_then (λ r. Some (product l r)) (cube_of cubes (tree_of ns u))) (cube_of cubes (tree_of ns s))
  pair_cube s u k are = ap (cube_of cubes) (tree_as ns id n PointPair (s ∷ u ∷ []) is k are)

  pub left_cube : (s : ℕ) → n.kind ≡ PointLeft → n.kids ≡ s ∷ [] → cube_of cubes (tree_of ns id) ≡ option_and_then left_part (cube_of cubes (tree_of ns s))
  left_cube s k are = ap (cube_of cubes) (tree_as ns id n PointLeft (s ∷ []) is k are)

  pub right_cube : (s : ℕ) → n.kind ≡ PointRight → n.kids ≡ s ∷ [] → cube_of cubes (tree_of ns id) ≡ option_and_then right_part (cube_of cubes (tree_of ns s))
  right_cube s k are = ap (cube_of cubes) (tree_as ns id n PointRight (s ∷ []) is k are)

  pub always_over : (n.kind ≡ Top) ⊎ (n.kind ≡ Bottom) → IsTopeOver cubes (tree_of ns id)
  always_over k = elim k [
    | inl top ↦ subst (IsTopeOver cubes) (sym (childless Top top refl)) tt
    | inr bottom ↦ subst (IsTopeOver cubes) (sym (childless Bottom bottom refl)) tt
  ]

  pub parts_over : (p q : ℕ) → (n.kind ≡ Conjunction) ⊎ (n.kind ≡ Disjunction) → n.kids ≡ p ∷ q ∷ [] → IsTopeOver cubes (tree_of ns id) ≡ (IsTopeOver cubes (tree_of ns p) × IsTopeOver cubes (tree_of ns q))
  parts_over p q k are = elim k [
    | inl both ↦ ap (IsTopeOver cubes) (tree_as ns id n Conjunction (p ∷ q ∷ []) is both are)
    | inr one ↦ ap (IsTopeOver cubes) (tree_as ns id n Disjunction (p ∷ q ∷ []) is one are)
  ]

  pub equal_over : (cube s u : ℕ) → n.kind ≡ EqualPoints → n.kids ≡ cube ∷ s ∷ u ∷ []
      → IsTopeOver cubes (tree_of ns id) ≡ (IsPointOf cubes (tree_of ns cube) (tree_of ns s) × IsPointOf cubes (tree_of ns cube) (tree_of ns u))
  equal_over cube s u k are = ap (IsTopeOver cubes) (tree_as ns id n EqualPoints (cube ∷ s ∷ u ∷ []) is k are)

  pub at_most_over : (s u : ℕ) → n.kind ≡ AtMost → n.kids ≡ s ∷ u ∷ []
      → IsTopeOver cubes (tree_of ns id) ≡ (IsPointOf cubes cube_two (tree_of ns s) × IsPointOf cubes cube_two (tree_of ns u))
  at_most_over s u k are = ap (IsTopeOver cubes) (tree_as ns id n AtMost (s ∷ u ∷ []) is k are)

-- ---- what is known of the kids

-- what is known of a view, where something is cached
pub view_cube : (nodes : List Node) (known : Knowledge) (context id : ℕ) → IsKnown nodes known → Caches known context id → (o : Option Cached) → o ≡ cached_in known (view_of context id)
    → IsCubeId nodes (cube_of (binders_of (tree_of nodes context)) (tree_of nodes id)) (option_and_then (λ cached. cached.cube) o)
view_cube nodes known context id is (cached, at) o e =
    subst (λ (o : Option Cached). IsCubeId nodes (cube_of (binders_of (tree_of nodes context)) (tree_of nodes id)) (option_and_then (λ (t : Cached). t.cube) o)) (sym (e ∙ at))
    (is.views (view_of context id) cached at).is.point

pub view_over : (nodes : List Node) (known : Knowledge) (context id : ℕ) → IsKnown nodes known → Caches known context id → (cached : Cached) → cached_in known (view_of context id) ≡ Some cached
    → (cached.is_over ≡ true) ↔ IsTopeOver (binders_of (tree_of nodes context)) (tree_of nodes id)
view_over nodes known context id is caches cached at = (is.views (view_of context id) cached at).is.tope

pub view_missing : (known : Knowledge) (context id : ℕ) → Caches known context id → cached_in known (view_of context id) ≡ None → ⊥
view_missing known context id (cached, at) e = let wrong : None ≡ Some cached = sym e ∙ at in cc

-- a point has a cube exactly where that one's id is cached
pub cached_same : (ns : List Node) → ShareTrees ns → (cube : ℕ) → cube < length ns → (point : Option Tree) (o : Option ℕ) → IsCubeId ns point o → (o ≡ Some cube) ↔ (point ≡ Some (tree_of ns cube))
cached_same ns shared cube live point None cached =
    (λ wrong. absurd cc, λ has. let wrong : None ≡ Some (tree_of ns cube) = sym cached.is ∙ has in absurd cc)
cached_same ns shared cube live point (Some found) cached = (
  λ e. cached.is ∙ ap (option_map (tree_of ns)) e,
  λ has.
      let trees : Some (tree_of ns found) ≡ Some (tree_of ns cube) = sym cached.is ∙ has in
      ap (λ (n : ℕ). Some n) (shared found cube cached.there.0 live (inner (tree_of ns found) (tree_of ns cube) trees)),
) where
  inner : (s t : Tree) → Some s ≡ Some t → s ≡ t
  inner s t e = cc

-- two tests together cache what each of them caches, and the first alone where it fails
pub both_cached : (a b : Bool) (P Q : Type 0) → a ≡ true → (a ≡ true) ↔ P → (b ≡ true) ↔ Q → (b ≡ true) ↔ (P × Q)
both_cached a b P Q first p q = (λ yes. (p.0 first, q.0 yes), λ both. q.1 both.1)

pub first_cached : (a : Bool) (P Q : Type 0) → a ≡ false → (a ≡ true) ↔ P → (a ≡ true) ↔ (P × Q)
first_cached a P Q first p = (λ yes. absurd (true≢false (sym yes ∙ first)), λ both. p.1 both.0)

-- a test of what is known of a cube is one of the point
pub same_cached : (ns : List Node) → ShareTrees ns → (cube : ℕ) → cube < length ns → (point : Option Tree) (o : Option ℕ) → IsCubeId ns point o
    → (r : Bool) → (r ≡ true) ↔ (o ≡ Some cube) → (r ≡ true) ↔ (point ≡ Some (tree_of ns cube))
same_cached ns shared cube live point o cached r iff =
    let same = cached_same ns shared cube live point o cached in
    (λ yes. same.0 (iff.0 yes), λ has. iff.1 (same.1 has))

pub interval_cached : (ns : List Node) (point : Option Tree) (o : Option ℕ) → IsCubeId ns point o
    → (r : Bool) → (r ≡ true) ↔ (option_map (tree_of ns) o ≡ Some cube_two) → (r ≡ true) ↔ (point ≡ Some cube_two)
interval_cached ns point o cached r iff = (λ yes. cached.is ∙ iff.0 yes, λ has. iff.1 (sym cached.is ∙ has))

-- so is a test of the id, where one is cached, and no point has a cube where none is cached
pub id_cached : (ns : List Node) → ShareTrees ns → (cube : ℕ) → cube < length ns → (point : Option Tree) (o : Option ℕ) → IsCubeId ns point o
    → (found : ℕ) → o ≡ Some found → (r : Bool) → (r ≡ true) ↔ (found ≡ cube) → (r ≡ true) ↔ (point ≡ Some (tree_of ns cube))
id_cached ns shared cube live point o cached found is r iff =
    let same = cached_same ns shared cube live point o cached in (
      λ yes. same.0 (is ∙ ap (λ (n : ℕ). Some n) (iff.0 yes)),
      λ has.
          let there : Some found ≡ Some cube = sym is ∙ same.1 has in
          let one : found ≡ cube = cc in
          iff.1 one,
    )

pub none_cached : (ns : List Node) (point : Option Tree) (o : Option ℕ) → IsCubeId ns point o → o ≡ None → (tree : Tree) → point ≡ Some tree → ⊥
none_cached ns point o cached none tree has =
    let wrong : None ≡ Some tree = sym (cached.is ∙ ap (option_map (tree_of ns)) none) ∙ has in
    cc
