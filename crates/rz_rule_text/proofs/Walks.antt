-- What a walk past a symbol keeps.
use Rattle.std.proofs.Common.{◌≡◌, ℕ, zero, suc, ◌<◌, Bool, true, false, List, [], ◌∷◌, ◌++◌, Some, None, Option, length, take, drop, map, replicate, All, refl, sym, ap, subst, ◌∙◌, arith}
use Rattle.std.specs.Prelude.{is_some}
use Rattle.std.proofs.lemmas.List.Elements.{All-append, All-head, All-map, All-replicate}
use Rattle.rz_rules.specs.declared.nodes.Node.{Node}
use Rattle.rz_rules.specs.Tree.{Tree, tree_at, tree_of}
use Rattle.rz_rule_text.specs.Finding.{Agrees, IsLive, first_expected, is_known}

-- the rest of a stack behind one tree more
drop-drop_one : {A : Type 0} (n : ℕ) (xs : List A) → drop n (drop 1 xs) ≡ drop (suc n) xs
drop-drop_one zero [] = refl
drop-drop_one (suc n) [] = refl
drop-drop_one n (x ∷ xs) = refl

module _ (nodes : List Node) where
  -- what is expected next, and what behind it
  pub Agrees-next : (expected : List (Option ℕ)) (trees : List Tree) (id : ℕ) → first_expected expected ≡ Some id → Agrees nodes expected trees → tree_at trees 0 ≡ tree_of nodes id
  Agrees-next [] trees id e h = absurd cc
  Agrees-next (None ∷ expected) trees id e h = absurd cc
  Agrees-next (Some other ∷ expected) trees id e h =
      let same : other ≡ id = cc in
      h.0 ∙ ap (tree_of nodes) same

  pub Agrees-rest : (expected : List (Option ℕ)) (trees : List Tree) → Agrees nodes expected trees → Agrees nodes (drop 1 expected) (drop 1 trees)
  Agrees-rest [] trees h = tt
  Agrees-rest (None ∷ expected) trees h = h
  Agrees-rest (Some id ∷ expected) trees h = h.1

  -- so many unknown trees in front
  pub Agrees-unknown : (count : ℕ) (expected : List (Option ℕ)) (trees : List Tree) → Agrees nodes expected (drop count trees) → Agrees nodes (replicate count None ++ expected) trees
  Agrees-unknown zero expected trees h = h
  Agrees-unknown (suc count) expected trees h =
      Agrees-unknown count expected (drop 1 trees) (subst (Agrees nodes expected) (sym (drop-drop_one count trees)) h)

  -- the kids of a node in front
  pub Agrees-known : (kids : List ℕ) (count : ℕ) (expected : List (Option ℕ)) (trees : List Tree) → count ≡ length kids → take count trees ≡ map (tree_of nodes) kids
      → Agrees nodes expected (drop count trees) → Agrees nodes (map (λ (id : ℕ). Some id) kids ++ expected) trees
  Agrees-known [] zero expected trees n e h = h
  Agrees-known [] (suc count) expected trees n e h = absurd (omega arith)
  Agrees-known (kid ∷ kids) zero expected trees n e h = absurd (omega arith)
  Agrees-known (kid ∷ kids) (suc count) expected [] n e h = absurd cc
  Agrees-known (kid ∷ kids) (suc count) expected (tree ∷ trees) n e h =
      let first : tree ≡ tree_of nodes kid = cc in
      let others : take count trees ≡ map (tree_of nodes) kids = cc in
      (first, Agrees-known kids count expected trees (omega arith) others h)

-- whether trees are known
pub is_known-next : (expected : List (Option ℕ)) → is_known (map is_some expected) ≡ is_some (first_expected expected)
is_known-next [] = refl
is_known-next (tree ∷ expected) = refl

pub known-rest : (expected : List (Option ℕ)) → drop 1 (map is_some expected) ≡ map is_some (drop 1 expected)
known-rest [] = refl
known-rest (tree ∷ expected) = refl

pub known-unknown : (count : ℕ) (expected : List (Option ℕ)) → map is_some (replicate count None ++ expected) ≡ replicate count false ++ map is_some expected
known-unknown zero expected = refl
known-unknown (suc count) expected = ap (λ (bs : List Bool). false ∷ bs) (known-unknown count expected)

pub known-known : (kids : List ℕ) (count : ℕ) (expected : List (Option ℕ)) → count ≡ length kids
    → map is_some (map (λ (id : ℕ). Some id) kids ++ expected) ≡ replicate count true ++ map is_some expected
known-known [] zero expected n = refl
known-known [] (suc count) expected n = absurd (omega arith)
known-known (kid ∷ kids) zero expected n = absurd (omega arith)
known-known (kid ∷ kids) (suc count) expected n = ap (λ (bs : List Bool). true ∷ bs) (known-known kids count expected (omega arith))

-- what is expected is there
module _ (nodes : List Node) where
  pub live-known : (ids : List ℕ) (expected : List (Option ℕ)) → All (λ id. id < length nodes) ids → All (IsLive nodes) expected → All (IsLive nodes) (map (λ (id : ℕ). Some id) ids ++ expected)
  live-known ids expected low h =
      All-append (IsLive nodes) (map (λ (id : ℕ). Some id) ids) expected (All-map (IsLive nodes) (λ (id : ℕ). Some id) ids low) h

  pub live-unknown : (count : ℕ) (expected : List (Option ℕ)) → All (IsLive nodes) expected → All (IsLive nodes) (replicate count None ++ expected)
  live-unknown count expected h = All-append (IsLive nodes) (replicate count None) expected (All-replicate (IsLive nodes) count None tt) h

  pub live-next : (expected : List (Option ℕ)) (id : ℕ) → first_expected expected ≡ Some id → All (IsLive nodes) expected → id < length nodes
  live-next [] id e h = absurd cc
  live-next (tree ∷ expected) id e h = subst (IsLive nodes) e (All-head (IsLive nodes) tree expected h)
