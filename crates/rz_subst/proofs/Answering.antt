-- What an answer tells: its tree stands in a pool, so no index in it is too large.
use Rattle.std.proofs.Common.{◌≡◌, ℕ, zero, suc, ◌<◌, ◌^◌, ◌↔◌, List, [], ◌∷◌, Option, None, Some, Result, IfOk, IfSome, IsSome, length, get_or, map, All, slice_get, refl, sym, ap, subst, ◌∙◌, true≢false, arith}
use Rattle.std.proofs.lemmas.List.Elements.{All-head, All-tail}
use Rattle.std.proofs.lemmas.Option.{slice_get-get_or}
use Rattle.std.proofs.lemmas.Result.{IfOk-weaker}
use Rattle.rz_rules.specs.declared.kinds.Kind.TheVariants.{CubeOne}
use Rattle.rz_rules.specs.declared.nodes.Node.{Node}
use Rattle.rz_rules.specs.Tree.{Tree, trees_of, sort_of, tree_of}
use Rattle.rz_rules.specs.Substitution.{Depth, raising, IndicesBelow, AllIndicesBelow}
use Rattle.rz_pool.specs.Pool.{IsPool}
use Rattle.rz_pool.proofs.Nodes.{tree_of_place}
use Rattle.rz_subst.specs.Walk.{IsAnswerOf}

-- changes alike
pub raising_along : (a b c d : Depth) → a ≡ c → b ≡ d → raising a b ≡ raising c d
raising_along a b c d e f = λ i. raising (e i) (f i)

abbrev pub blank_node : Node
blank_node = record { kind = CubeOne; number = 0; name = []; kids = [] }

module _ (nodes : List Node) (pool : IsPool nodes) where
  all_below : (ids : List ℕ) (bound : ℕ) → All (λ id. id < bound) ids → ((id : ℕ) → id < bound → IndicesBelow (2 ^ 32) (tree_of nodes id))
      → AllIndicesBelow (2 ^ 32) (trees_of (map (tree_of nodes) ids))
  all_below [] bound low each = tt
  all_below (id ∷ ids) bound low each = (
    each id (All-head (λ k. k < bound) id ids low),
    all_below ids bound (All-tail (λ k. k < bound) id ids low) each,
  )

  below : (n id : ℕ) → id < n → id < length nodes → IndicesBelow (2 ^ 32) (tree_of nodes id)
  below zero id lt live = absurd (omega arith)
  below (suc n) id lt live =
      let node = get_or nodes id blank_node in
      let at : slice_get nodes id ≡ Some node = slice_get-get_or nodes id blank_node live in
      let form = pool.forms id node at in
      subst (IndicesBelow (2 ^ 32)) (sym (tree_of_place nodes pool.forms id node at))
      (form.label.small, all_below node.kids id form.kids (λ kid l. below n kid (omega arith) (omega arith)))

  -- no index of a tree in the pool is too large
  pub indices_below : (id : ℕ) → id < length nodes → IndicesBelow (2 ^ 32) (tree_of nodes id)
  indices_below id live = below (suc id) id (omega arith) live

  fits_answer : (tree : Tree) (new : Option ℕ) → IsAnswerOf nodes tree new → IsSome new ↔ IndicesBelow (2 ^ 32) tree
  fits_answer tree None is = (λ some. absurd (true≢false (sym some)), λ fits. absurd (is fits))
  fits_answer tree (Some id) is = (λ some. subst (IndicesBelow (2 ^ 32)) is.1 (indices_below id is.0), λ fits. refl)

  tree_answer : (tree : Tree) (new : Option ℕ) → IsAnswerOf nodes tree new → IfSome new (λ id. tree_of nodes id ≡ tree)
  tree_answer tree None is = tt
  tree_answer tree (Some id) is = is.1

  within_answer : (tree : Tree) (new : Option ℕ) → IsAnswerOf nodes tree new → IfSome new (λ id. id < length nodes)
  within_answer tree None is = tt
  within_answer tree (Some id) is = is.0

  module _ {E : Type 0} (r : Result (Option ℕ) E) (tree : Tree) (answer : IfOk r (IsAnswerOf nodes tree)) where
    pub fits : IfOk r (λ new. IsSome new ↔ IndicesBelow (2 ^ 32) tree)
    fits = IfOk-weaker r (IsAnswerOf nodes tree) (λ new. IsSome new ↔ IndicesBelow (2 ^ 32) tree) (fits_answer tree) answer

    pub is_tree : IfOk r (λ new. IfSome new (λ id. tree_of nodes id ≡ tree))
    is_tree = IfOk-weaker r (IsAnswerOf nodes tree) (λ new. IfSome new (λ id. tree_of nodes id ≡ tree)) (tree_answer tree) answer

    pub has_sort : (old : Tree) → sort_of tree ≡ sort_of old → IfOk r (λ new. IfSome new (λ id. sort_of (tree_of nodes id) ≡ sort_of old))
    has_sort old same =
        IfOk-weaker r (IsAnswerOf nodes tree) (λ new. IfSome new (λ id. sort_of (tree_of nodes id) ≡ sort_of old)) (of) answer
      where
        of : (new : Option ℕ) → IsAnswerOf nodes tree new → IfSome new (λ id. sort_of (tree_of nodes id) ≡ sort_of old)
        of None is = tt
        of (Some id) is = ap sort_of is.1 ∙ same
