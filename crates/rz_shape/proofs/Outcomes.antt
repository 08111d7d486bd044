-- What ids stand for, as a pool grows, and tests on them.
use Rattle.std.proofs.Common.{◌≡◌, ℕ, ◌<◌, Bool, true, false, List, [], ◌∷◌, length, map, refl, sym, ap, ◌∙◌, arith}
use Rattle.std.specs.Prelude.{◌↔◌, Ok, IsTrue, if◌then◌else◌, nat_lt}
use Rattle.rz_rules.specs.declared.kinds.Kind.TheVariants.{AtMost, PointPair, Product}
use Rattle.rz_rules.specs.declared.nodes.Node.{Node}
use Rattle.rz_rules.specs.declared.verdicts.Refusal.TheVariants.{BadPoint, WideCube}
use Rattle.rz_rules.specs.Tree.{At, And, Nil, tree_of, trees_of}
use Rattle.rz_rules.specs.Cube.{cube_two, leaves, product}
use Rattle.rz_pool.specs.Pool.{Grows, IsPool}
use Rattle.rz_pool.proofs.Nodes.{length-Grows, KeepsTrees-Grows}
use Rattle.rz_rules.specs.Same.{same_tree}
use Rattle.rz_rules.proofs.Same.{same_tree-Decides}
use Rattle.rz_shape.specs.declared.steps.Outcome.{Outcome}
use Rattle.rz_syntax.specs.declared.forms.Raw.{Raw}
use Rattle.rz_shape.specs.Reading.{and_then, of_cube, pair, refusal, unless_wide}
use Rattle.rz_rules.specs.Tope.{at_most}
use Rattle.rz_shape.specs.Walk.{IsThere, alone, outcome_of}

-- two tests that say the same are one
tests_agree : (a b : Bool) → (a ≡ true → b ≡ true) → (b ≡ true → a ≡ true) → a ≡ b
tests_agree true b f g = sym (f refl)
tests_agree false true f g = g refl
tests_agree false false f g = refl

-- ids tell trees apart
pub same_ids : (ns : List Node) (i j : ℕ) (same : Bool) → IsPool ns → i < length ns → j < length ns → IsTrue same ↔ (i ≡ j)
    → same_tree (tree_of ns i) (tree_of ns j) ≡ same
same_ids ns i j same pool li lj test =
    let decides = same_tree-Decides (tree_of ns i) (tree_of ns j) in
    tests_agree (same_tree (tree_of ns i) (tree_of ns j)) same
    (λ e. test.1 (pool.shared i j li lj (decides.0 e)))
    (λ e. decides.1 (ap (tree_of ns) (test.0 e)))

module _ (ns ms : List Node) (grows : Grows ns ms) where
  pub IsThere-Grows : (outcome : Outcome) → IsThere ns outcome → IsThere ms outcome
  IsThere-Grows outcome there = record {
    node = omega (arith, there.node, length-Grows ns ms grows);
    cube = omega (arith, there.cube, length-Grows ns ms grows);
  }

  pub outcome_of-Grows : (outcome : Outcome) → IsThere ns outcome → outcome_of ms outcome ≡ outcome_of ns outcome
  outcome_of-Grows outcome there =
      λ i. record { point = KeepsTrees-Grows ns ms grows outcome.node there.node i; cube = KeepsTrees-Grows ns ms grows outcome.cube there.cube i }

-- ---- what is made of two outcomes

module _ (ns ms : List Node) (grows : Grows ns ms) (l r : Outcome) (left : IsThere ns l) (right : IsThere ns r) where
  pub order_is : (place : Raw) (kids : List ℕ) → kids ≡ l.node ∷ r.node ∷ [] → same_tree (tree_of ns r.cube) cube_two ≡ true
      → and_then (of_cube place cube_two (outcome_of ns r)) (λ point. Ok (alone (at_most (tree_of ns l.node) point)))
      ≡ Ok (alone (At AtMost 0 [] (trees_of (map (tree_of ms) kids))))
  order_is place kids are two =
      let first = sym (KeepsTrees-Grows ns ms grows l.node left.node) in
      let last = sym (KeepsTrees-Grows ns ms grows r.node right.node) in
      ap (λ (same : Bool). and_then (if same then Ok (tree_of ns r.node) else refusal BadPoint place) (λ point. Ok (alone (at_most (tree_of ns l.node) point)))) two
      ∙ (λ i. Ok (alone (At AtMost 0 [] (And (first i) (And (last i) Nil)))))
      ∙ ap (λ (kids : List ℕ). Ok (alone (At AtMost 0 [] (trees_of (map (tree_of ms) kids))))) (sym are)

  pub pair_is : (whole : Raw) (kids cubes : List ℕ) (cube : ℕ) → kids ≡ l.node ∷ r.node ∷ [] → cubes ≡ l.cube ∷ r.cube ∷ []
      → nat_lt 64 (leaves (product (tree_of ns l.cube) (tree_of ns r.cube))) ≡ false
      → tree_of ms cube ≡ At Product 0 [] (trees_of (map (tree_of ns) cubes))
      → unless_wide whole (product (tree_of ns l.cube) (tree_of ns r.cube)) (pair (outcome_of ns l) (outcome_of ns r))
      ≡ Ok (record { point = At PointPair 0 [] (trees_of (map (tree_of ms) kids)); cube = tree_of ms cube })
  pair_is whole kids cubes cube are of narrow is =
      let first = sym (KeepsTrees-Grows ns ms grows l.node left.node) in
      let last = sym (KeepsTrees-Grows ns ms grows r.node right.node) in
      let made : product (tree_of ns l.cube) (tree_of ns r.cube) ≡ tree_of ms cube =
      sym (is ∙ ap (λ (cubes : List ℕ). At Product 0 [] (trees_of (map (tree_of ns) cubes))) of) in
      ap (λ (wide : Bool). if wide then refusal WideCube whole else Ok (pair (outcome_of ns l) (outcome_of ns r))) narrow
      ∙ (λ i. Ok (record { point = At PointPair 0 [] (And (first i) (And (last i) Nil)); cube = made i }))
      ∙ ap (λ (kids : List ℕ). Ok (record { point = At PointPair 0 [] (trees_of (map (tree_of ms) kids)); cube = tree_of ms cube })) (sym are)
