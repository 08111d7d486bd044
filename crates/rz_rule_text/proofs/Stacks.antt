-- Stacks of ids that stand for trees.
use Rattle.std.proofs.Common.{◌≡◌, ℕ, zero, suc, ◌<◌, ◌≤◌, ◌^◌, ◌&&◌, Bool, true, false, List, [], ◌∷◌, Some, None, Option, length, take, drop, map, All, Contains, refl, sym, ap, subst, ◌∙◌, arith}
use Rattle.std.specs.List.{list_all}
use Rattle.std.proofs.lemmas.List.{length-append}
use Rattle.std.specs.Cmp.{first_so, second_so}
use Rattle.std.proofs.lemmas.List.Elements.{All-cons, All-nil}
use Rattle.rz_rules.specs.declared.kinds.Sort.{Sort}
use Rattle.rz_rules.specs.declared.kinds.Sort.TheVariants as sort
use Rattle.rz_rules.specs.declared.nodes.Node.{Node}
use Rattle.rz_rules.specs.Tree.{Tree, Trees, At, Nil, And, IsTree, AreTrees, sort_of, tree_of, trees_of}
use Rattle.rz_rules.specs.Substitution.{IndicesBelow, AllIndicesBelow}
use Rattle.rz_rules.specs.Text.{Mark, same_sort, starts_with}
use Rattle.rz_pool.specs.Pool.{Grows}
use Rattle.rz_pool.proofs.Nodes.{KeepsTrees-Grows}
use Rattle.rz_rule_text.specs.Spelling.{Stands, StandsAt}

-- a grown pool keeps what stands
pub length-Grows : (old new : List Node) → Grows old new → length old ≤ length new
length-Grows old new grows = omega (arith, ap length grows.is, length-append old grows.added)

StandsAt-grows : (old new : List Node) → Grows old new → (id : Option ℕ) (tree : Tree) (mark : Mark) → StandsAt old id tree mark → StandsAt new id tree mark
StandsAt-grows old new grows (Some id) tree mark h =
    (omega (arith, h.0, length-Grows old new grows), KeepsTrees-Grows old new grows id h.0 ∙ h.1, h.2)
StandsAt-grows old new grows None tree mark h = h

pub Stands-grows : (old new : List Node) → Grows old new → (ids : List (Option ℕ)) (trees : List Tree) (marks : List Mark) → Stands old ids trees marks → Stands new ids trees marks
Stands-grows old new grows [] [] [] h = tt
Stands-grows old new grows (id ∷ ids) (tree ∷ trees) (mark ∷ marks) h = (StandsAt-grows old new grows id tree mark h.0, Stands-grows old new grows ids trees marks h.1)
Stands-grows old new grows ids trees marks h = absurd h

-- the sorts that a test tells
pub same_sort_is : (s t : Sort) → same_sort s t ≡ true → s ≡ t
same_sort_is sort.Cube sort.Cube e = refl
same_sort_is sort.Point sort.Point e = refl
same_sort_is sort.Tope sort.Tope e = refl
same_sort_is sort.Term sort.Term e = refl
same_sort_is sort.Context sort.Context e = refl
same_sort_is s t e = absurd cc

-- trees of these sorts are on top
module _ (nodes : List Node) where
  pub enough : (sorts : List Sort) (ids : List (Option ℕ)) (trees : List Tree) (marks : List Mark) → Stands nodes ids trees marks → starts_with sorts marks ≡ true → length sorts ≤ length ids
  enough [] ids trees marks h e = omega arith
  enough (sort ∷ sorts) [] [] [] h e = absurd cc
  enough (sort ∷ sorts) (id ∷ ids) (tree ∷ trees) (mark ∷ marks) h e =
      omega (arith, enough sorts ids trees marks h.1 (second_so (same_sort sort mark.sort) (starts_with sorts marks) e))
  enough (sort ∷ sorts) ids trees marks h e = absurd h

  pub Stands-drop : (count : ℕ) (ids : List (Option ℕ)) (trees : List Tree) (marks : List Mark) → Stands nodes ids trees marks → Stands nodes (drop count ids) (drop count trees) (drop count marks)
  Stands-drop zero [] [] [] h = tt
  Stands-drop zero (id ∷ ids) (tree ∷ trees) (mark ∷ marks) h = h
  Stands-drop (suc count) [] [] [] h = tt
  Stands-drop (suc count) (id ∷ ids) (tree ∷ trees) (mark ∷ marks) h = Stands-drop count ids trees marks h.1
  Stands-drop count ids trees marks h = absurd h

  -- what the ids on top are
  pub record AreTop (sorts : List Sort) (kids : List ℕ) (trees : List Tree) : Type 0 where
    pub live : All (λ id. id < length nodes) kids
    pub trees_are : take (length sorts) trees ≡ map (tree_of nodes) kids
    pub sorts_are : map sort_of (map (tree_of nodes) kids) ≡ sorts

  pub top_known : (sorts : List Sort) (kids : List ℕ) (ids : List (Option ℕ)) (trees : List Tree) (marks : List Mark) → Stands nodes ids trees marks → starts_with sorts marks ≡ true
      → take (length sorts) ids ≡ map (λ (id : ℕ). Some id) kids → AreTop sorts kids trees
  top_known [] [] ids trees marks h e same = record { live = All-nil (λ id. id < length nodes); trees_are = refl; sorts_are = refl }
  top_known [] (kid ∷ kids) ids trees marks h e same = absurd cc
  top_known (sort ∷ sorts) kids [] [] [] h e same = absurd cc
  top_known (sort ∷ sorts) [] (id ∷ ids) (tree ∷ trees) (mark ∷ marks) h e same = absurd cc
  top_known (sort ∷ sorts) (kid ∷ kids) (id ∷ ids) (tree ∷ trees) (mark ∷ marks) h e same =
      let here : id ≡ Some kid = cc in
      let others : take (length sorts) ids ≡ map (λ (id : ℕ). Some id) kids = cc in
      let at : StandsAt nodes (Some kid) tree mark = subst (λ (i : Option ℕ). StandsAt nodes i tree mark) here h.0 in
      let rest = top_known sorts kids ids trees marks h.1 (second_so (same_sort sort mark.sort) (starts_with sorts marks) e) others in
      let tree_is : tree ≡ tree_of nodes kid = sym at.1 in
      let sort_is : sort_of (tree_of nodes kid) ≡ sort = ap sort_of at.1 ∙ at.2 ∙ sym (same_sort_is sort mark.sort (first_so (same_sort sort mark.sort) (starts_with sorts marks) e)) in
      record {
        live = All-cons (λ id. id < length nodes) kid kids at.0 rest.live;
        trees_are = λ j. tree_is j ∷ rest.trees_are j;
        sorts_are = λ j. sort_is j ∷ rest.sorts_are j;
      }
  top_known sorts kids ids trees marks h e same = absurd h

  -- a tree without an id is too high, and by a substitution or a shift
  pub top_none : (count : ℕ) (ids : List (Option ℕ)) (trees : List Tree) (marks : List Mark) → Stands nodes ids trees marks → Contains (take count ids) None
      → (list_all (λ mark. mark.plain) (take count marks) ≡ false) × (AllIndicesBelow (2 ^ 32) (trees_of (take count trees)) → ⊥)
  top_none zero ids trees marks h (k, low, e) = absurd (omega (arith, low))
  top_none (suc count) [] [] [] h (k, low, e) = absurd (omega (arith, low))
  top_none (suc count) (id ∷ ids) (tree ∷ trees) (mark ∷ marks) h (zero, low, e) =
      let at : StandsAt nodes None tree mark = subst (λ (i : Option ℕ). StandsAt nodes i tree mark) e h.0 in
      (ap (λ (b : Bool). b && list_all (λ mark. mark.plain) (take count marks)) at.0, λ below. at.1 below.0)
  top_none (suc count) (id ∷ ids) (tree ∷ trees) (mark ∷ marks) h (suc k, low, e) =
      let rest = top_none count ids trees marks h.1 (k, omega (arith, low), e) in
      (and_false mark.plain _ rest.0, λ below. rest.1 below.1) where
        and_false : (a b : Bool) → b ≡ false → (a && b) ≡ false
        and_false true b e = e
        and_false false b e = refl
  top_none count ids trees marks h c = absurd h

-- what is a tree has no index that is too high
mutual
  pub IndicesBelow-IsTree : (sort : Sort) (tree : Tree) → IsTree sort tree → IndicesBelow (2 ^ 32) tree
  IndicesBelow-IsTree sort (At kind number name kids) h = (h.1.small, AllIndicesBelow-AreTrees _ kids h.2)

  pub AllIndicesBelow-AreTrees : (sorts : List Sort) (kids : Trees) → AreTrees sorts kids → AllIndicesBelow (2 ^ 32) kids
  AllIndicesBelow-AreTrees [] Nil h = tt
  AllIndicesBelow-AreTrees (sort ∷ sorts) (And first rest) h = (IndicesBelow-IsTree sort first h.0, AllIndicesBelow-AreTrees sorts rest h.1)
  AllIndicesBelow-AreTrees sorts kids h = absurd h
