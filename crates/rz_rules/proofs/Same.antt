-- The test of two trees tells whether they are one.
use Rattle.std.proofs.Common.{◌≡◌, ℕ, nat_eq, ◌&&◌, Bool, true, true≢false, List, Option, Some, refl, sym, ap, ◌∙◌, subst}
use Rattle.std.specs.Prelude.{find}
use Rattle.std.specs.Bool.{Decides}
use Rattle.std.specs.Cmp.{first_so, second_so, unsigned_Decides}
use Rattle.std.specs.Str.{bytes_eq}
use Rattle.std.proofs.lemmas.Slice.Eq.{bytes_eq-Decides}
use Rattle.rz_rules.specs.declared.kinds.Kind.{Kind}
use Rattle.rz_rules.specs.Form.{word_of_kind, all_kinds, kind_words_are_distinct}
use Rattle.rz_rules.specs.Tree.{Tree, Trees, At, Nil, And}
use Rattle.rz_rules.specs.Same.{same_tree, same_trees}

-- the first kind with a word
with_word : List ℕ → Option Kind
with_word word = find (λ other. bytes_eq (word_of_kind other) word) all_kinds

one_kind : (kind kind' : Kind) (found : List ℕ → Option Kind) → found (word_of_kind kind) ≡ Some kind → found (word_of_kind kind') ≡ Some kind'
    → word_of_kind kind ≡ word_of_kind kind' → kind ≡ kind'
one_kind kind kind' found one other words = let e : Some kind ≡ Some kind' = sym one ∙ ap found words ∙ other in cc

same_kind : (kind kind' : Kind) → word_of_kind kind ≡ word_of_kind kind' → kind ≡ kind'
same_kind kind kind' =
    one_kind kind kind' (λ word. find (λ other. bytes_eq (word_of_kind other) word) all_kinds)
    (kind_words_are_distinct kind) (kind_words_are_distinct kind')

both_so : (s t : Bool) → s ≡ true → t ≡ true → (s && t) ≡ true
both_so s t p q = ap (λ b. b && t) p ∙ q

-- a tree is one with itself
mutual
  same_self : (t : Tree) → same_tree t t ≡ true
  same_self (At kind number name kids) =
      let k = bytes_eq (word_of_kind kind) (word_of_kind kind) in
      let n = nat_eq number number in
      let m = bytes_eq name name in
      both_so (k && n && m) (same_trees kids kids)
      (both_so (k && n) m
      (both_so k n ((bytes_eq-Decides (word_of_kind kind) (word_of_kind kind)).1 refl) ((unsigned_Decides number number).1 refl))
      ((bytes_eq-Decides name name).1 refl))
      (same_selves kids)

  same_selves : (ts : Trees) → same_trees ts ts ≡ true
  same_selves Nil = refl
  same_selves (And first rest) = both_so (same_tree first first) (same_trees rest rest) (same_self first) (same_selves rest)

-- and with no other
mutual
  one_tree : (s t : Tree) → same_tree s t ≡ true → s ≡ t
  one_tree (At kind number name kids) (At kind' number' name' kids') e =
      let k = bytes_eq (word_of_kind kind) (word_of_kind kind') in
      let n = nat_eq number number' in
      let m = bytes_eq name name' in
      let three = first_so (k && n && m) (same_trees kids kids') e in
      let two = first_so (k && n) m three in
      let kinds = same_kind kind kind' ((bytes_eq-Decides (word_of_kind kind) (word_of_kind kind')).0 (first_so k n two)) in
      let numbers = (unsigned_Decides number number').0 (second_so k n two) in
      let names = (bytes_eq-Decides name name').0 (second_so (k && n) m three) in
      let all = one_list kids kids' (second_so (k && n && m) (same_trees kids kids') e) in
      λ i. At (kinds i) (numbers i) (names i) (all i)

  one_list : (ss ts : Trees) → same_trees ss ts ≡ true → ss ≡ ts
  one_list Nil Nil e = refl
  one_list Nil (And first' rest') e = absurd (true≢false (sym e))
  one_list (And first rest) Nil e = absurd (true≢false (sym e))
  one_list (And first rest) (And first' rest') e =
      let head = one_tree first first' (first_so (same_tree first first') (same_trees rest rest') e) in
      let tail = one_list rest rest' (second_so (same_tree first first') (same_trees rest rest') e) in
      λ i. And (head i) (tail i)

pub same_tree-Decides : (s t : Tree) → Decides (same_tree s t) (s ≡ t)
same_tree-Decides s t = (one_tree s t, λ e. subst (λ u. same_tree s u ≡ true) e (same_self s))
