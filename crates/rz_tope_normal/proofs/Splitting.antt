-- Equations that are split, while the pool and what is known grow, and one more.
use Rattle.std.proofs.Common.{◌≡◌, ℕ, zero, suc, ◌+◌, ◌<◌, List, [], ◌∷◌, ◌++◌, length, Some, refl, sym, ap, subst, ◌∙◌, append_assoc, inl, inr, arith}
use Rattle.std.specs.Prelude.{slice_get}
use Rattle.std.proofs.lemmas.Bool.{cases_lt}
use Rattle.std.proofs.lemmas.List.{length_push}
use Rattle.std.proofs.lemmas.Option.{slice_get_within}
use Rattle.rz_rules.specs.declared.coordinates.Coord.{Coord}
use Rattle.rz_rules.specs.declared.nodes.Node.{Node}
use Rattle.rz_rules.specs.Tree.{Tree, tree_of}
use Rattle.rz_rules.specs.Cube.{Binders, binders_of, left_part, product, right_part}
use Rattle.rz_rules.specs.Tope.{cube_of, left, right}
use Rattle.rz_rules.specs.Coordinate.{coordinates, left_width}
use Rattle.std.specs.Prelude.{option_and_then}
use Rattle.std.proofs.lemmas.List.Elements.{All-take, All-drop}
use Rattle.rz_pool.specs.Pool.{Grows}
use Rattle.rz_pool.proofs.Nodes.{slice_get-append, slice_get-front}
use Rattle.rz_tope_normal.specs.declared.norms.Norms.{Norms}
use Rattle.rz_tope_normal.specs.declared.parts.Halves.{Halves}
use Rattle.rz_tope_normal.specs.declared.splits.Split.{Split}
use Rattle.rz_tope_normal.specs.declared.splits.Split.TheVariants as split
use Rattle.rz_tope_normal.specs.declared.splits.Splits.{Splits}
use Rattle.rz_tope_normal.specs.Equation.{AreSplits, IsEquation, IsHalved, IsSplit, IsSplitAt}
use Rattle.rz_tope_normal.specs.Norm.{AreOfCube, IsKnown}
use Rattle.rz_tope_normal.specs.Placed.{IsAmong}
use Rattle.rz_tope_normal.specs.Read.{AreAmong}
use Rattle.rz_tope_normal.proofs.Parting.{parts_stay, product_stays}
use Rattle.rz_tope_normal.proofs.Staying.{live_stays, tree_stays}

abbrev Pair : Type 0
Pair = ℕ × ℕ × ℕ

-- the last item of a longer list, and the others
item_last : {X : Type 0} (xs : List X) (x : X) → slice_get (xs ++ x ∷ []) (length xs) ≡ Some x
item_last [] x = refl
item_last (y ∷ xs) x = item_last xs x

item_is : {X : Type 0} (x y : X) → Some x ≡ Some y → x ≡ y
item_is x y e = cc

pub push_cases : {X : Type 0} (P : ℕ → X → Type 0) (xs : List X) (x : X) → ((k : ℕ) (y : X) → slice_get xs k ≡ Some y → P k y) → P (length xs) x
    → (k : ℕ) (y : X) → slice_get (xs ++ x ∷ []) k ≡ Some y → P k y
push_cases P xs x old new k y e = elim (cases_lt k (length xs)) [
  | inl lt ↦ old k y (slice_get-front xs (x ∷ []) k y lt e)
  | inr le ↦
      let within = slice_get_within (xs ++ x ∷ []) k y e in
      let last : length xs ≡ k = omega (arith, within, length_push xs x) in
      let same : x ≡ y = item_is x y (sym (item_last xs x) ∙ ap (slice_get (xs ++ x ∷ [])) last ∙ e) in
      subst (λ (n : ℕ). P n y) last (subst (P (length xs)) same new)
]

module _ (old new : List Node) (grows : Grows old new) (before after : Norms) (kept : (q : ℕ) → IsKnown before q → IsKnown after q) (context : Tree)
  where
    pub of_cube_stays : (of : Pair) → AreOfCube old context of → AreOfCube new context of
    of_cube_stays of is =
        let c = tree_stays old new grows of.0 is.cube_live in
        let s = tree_stays old new grows of.1 is.first_live in
        let u = tree_stays old new grows of.2 is.second_live in
        record {
          cube_live = live_stays old new grows of.0 is.cube_live;
          first_live = live_stays old new grows of.1 is.first_live;
          second_live = live_stays old new grows of.2 is.second_live;
          first = ap (cube_of (binders_of context)) s ∙ is.first ∙ ap Some (sym c);
          second = ap (cube_of (binders_of context)) u ∙ is.second ∙ ap Some (sym c);
        }

    pub equation_stays : (list : List Coord) (of : Pair) → IsEquation old context list before of → IsEquation new context list after of
    equation_stays list of is = record {
      points = of_cube_stays of is.points;
      first_known = kept of.1 is.first_known;
      second_known = kept of.2 is.second_known;
      first_among = subst (λ (t : Tree). AreAmong list (coordinates (binders_of context) t)) (sym (tree_stays old new grows of.1 is.points.first_live))
          is.first_among;
      second_among = subst (λ (t : Tree). AreAmong list (coordinates (binders_of context) t))
          (sym (tree_stays old new grows of.2 is.points.second_live)) is.second_among;
    }

    halved_stays : (of : Pair) (halves : Halves) → AreOfCube old context of → IsHalved old before of halves → IsHalved new after of halves
    halved_stays of halves points is =
        let first = parts_stay old new grows before after kept of.1 points.first_live
        (record { left = halves.left.1; right = halves.right.1; pair = halves.pairs.0 }) is.first in
        let second = parts_stay old new grows before after kept of.2 points.second_live
        (record { left = halves.left.2; right = halves.right.2; pair = halves.pairs.1 }) is.second in
        record { cube = product_stays old new grows of.0 (halves.left.0, halves.right.0) is.cube; first = first; second = second }

    module _ (all more : List Pair) where
      pub split_stays : (place : ℕ) (of : Pair) (how : Split) → AreOfCube old context of → IsSplit old before all place of how → IsSplit new after
          (all ++ more) place of how
      split_stays place of split.Same points is = is
      split_stays place of split.OnePoint points is = tree_stays old new grows of.0 points.cube_live ∙ is
      split_stays place of split.Interval points is = tree_stays old new grows of.0 points.cube_live ∙ is
      split_stays place of (split.Halved at pairs) points is = record {
        halves = is.halves;
        later = is.later;
        left = slice_get-append all more at is.halves.left is.left;
        right = slice_get-append all more (at + 1) is.halves.right is.right;
        pairs_are = is.pairs_are;
        is = halved_stays of is.halves points is.is;
      }

-- the equations of the parts of points are equations
module _ (nodes : List Node) (context : Tree) (list : List Coord) (norms : Norms) (of : Pair) (halves : Halves)
    (is : IsEquation nodes context list norms of)
    (halved : IsHalved nodes norms of halves) where
  abbrev b : Binders
  b = binders_of context

  first_over : cube_of b (tree_of nodes of.1) ≡ Some (product (tree_of nodes halves.left.0) (tree_of nodes halves.right.0))
  first_over = is.points.first ∙ ap Some halved.cube.tree

  second_over : cube_of b (tree_of nodes of.2) ≡ Some (product (tree_of nodes halves.left.0) (tree_of nodes halves.right.0))
  second_over = is.points.second ∙ ap Some halved.cube.tree

  left_among : (s part : ℕ) → tree_of nodes part ≡ left (tree_of nodes s) → AreAmong list (coordinates b (tree_of nodes s)) → AreAmong list
      (coordinates b (tree_of nodes part))
  left_among s part e among = subst (λ (t : Tree). AreAmong list (coordinates b t)) (sym e)
      (All-take (IsAmong list) (left_width (cube_of b (tree_of nodes s))) (coordinates b (tree_of nodes s)) among)

  right_among : (s part : ℕ) → tree_of nodes part ≡ right (tree_of nodes s) → AreAmong list (coordinates b (tree_of nodes s)) → AreAmong list
      (coordinates b (tree_of nodes part))
  right_among s part e among = subst (λ (t : Tree). AreAmong list (coordinates b t)) (sym e)
      (All-drop (IsAmong list) (left_width (cube_of b (tree_of nodes s))) (coordinates b (tree_of nodes s)) among)

  pub left_equation : IsEquation nodes context list norms halves.left
  left_equation = record {
    points = record {
      cube_live = halved.cube.left_live;
      first_live = halved.first.left_live;
      second_live = halved.second.left_live;
      first = ap (cube_of b) halved.first.left_is ∙ ap (option_and_then left_part) first_over;
      second = ap (cube_of b) halved.second.left_is ∙ ap (option_and_then left_part) second_over;
    };
    first_known = halved.first.left_known;
    second_known = halved.second.left_known;
    first_among = left_among of.1 halves.left.1 halved.first.left_is is.first_among;
    second_among = left_among of.2 halves.left.2 halved.second.left_is is.second_among;
  }

  pub right_equation : IsEquation nodes context list norms halves.right
  right_equation = record {
    points = record {
      cube_live = halved.cube.right_live;
      first_live = halved.first.right_live;
      second_live = halved.second.right_live;
      first = ap (cube_of b) halved.first.right_is ∙ ap (option_and_then right_part) first_over;
      second = ap (cube_of b) halved.second.right_is ∙ ap (option_and_then right_part) second_over;
    };
    first_known = halved.first.right_known;
    second_known = halved.second.right_known;
    first_among = right_among of.1 halves.right.1 halved.first.right_is is.first_among;
    second_among = right_among of.2 halves.right.2 halved.second.right_is is.second_among;
  }

-- one more is split, which has no parts
pub split_leaf : (nodes : List Node) (context : Tree) (list : List Coord) (norms : Norms) (splits after : Splits) → AreSplits nodes context list norms
    splits
    → (of : Pair) (how : Split) → slice_get splits.all.items (length splits.done.items) ≡ Some of → IsSplit nodes norms splits.all.items
    (length splits.done.items) of how
    → after.all.items ≡ splits.all.items → after.done.items ≡ splits.done.items ++ how ∷ [] → AreSplits nodes context list norms after
split_leaf nodes context list norms splits after are of how at is all_is done_is = record {
  fine = subst (λ (all : List Pair). (k : ℕ) (of : Pair) → slice_get all k ≡ Some of → IsEquation nodes context list norms of) (sym all_is) are.fine;
  done = λ k p h ek eh.
      let back : slice_get splits.all.items k ≡ Some p = ap (λ (all : List Pair). slice_get all k) (sym all_is) ∙ ek in
      subst (λ (all : List Pair). IsSplit nodes norms all k p h) (sym all_is)
      (push_cases (λ n y. (q : Pair) → slice_get splits.all.items n ≡ Some q → IsSplit nodes norms splits.all.items n q y) splits.done.items how
      (λ n y e q eq. are.done n q y eq e)
      (λ q eq. subst (λ (q : Pair). IsSplit nodes norms splits.all.items (length splits.done.items) q how) (item_is of q (sym at ∙ eq)) is)
      k h (ap (λ (done : List Split). slice_get done k) (sym done_is) ∙ eh) p back);
}

-- one more is split into those of its parts
module _ (old new : List Node) (grows : Grows old new) (before now : Norms) (kept : (q : ℕ) → IsKnown before q → IsKnown now q) (context : Tree)
    (list : List Coord)
    (splits after : Splits) (are : AreSplits old context list before splits) (of : Pair)
    (at : slice_get splits.all.items (length splits.done.items) ≡ Some of)
    (next : length splits.done.items < length splits.all.items) (halves : Halves) (halved : IsHalved new now of halves)
    (all_is : after.all.items ≡ (splits.all.items ++ halves.left ∷ []) ++ halves.right ∷ [])
    (done_is : after.done.items ≡ splits.done.items ++ split.Halved (length splits.all.items) halves.pairs ∷ []) where
  abbrev all : List Pair
  all = splits.all.items

  abbrev more : List Pair
  more = halves.left ∷ halves.right ∷ []

  longer : after.all.items ≡ all ++ more
  longer = all_is ∙ append_assoc all (halves.left ∷ []) (halves.right ∷ [])

  here : IsEquation new context list now of
  here = equation_stays old new grows before now kept context list of (are.fine (length splits.done.items) of at)

  fine_longer : (k : ℕ) (p : Pair) → slice_get after.all.items k ≡ Some p → IsEquation new context list now p
  fine_longer k p e =
      push_cases (λ n y. IsEquation new context list now y) (all ++ halves.left ∷ []) halves.right
      (push_cases (λ n y. IsEquation new context list now y) all halves.left (λ n y h. equation_stays old new grows before now kept context list y
      (are.fine n y h))
      (left_equation new context list now of halves here halved))
      (right_equation new context list now of halves here halved)
      k p (ap (λ (xs : List Pair). slice_get xs k) (sym all_is) ∙ e)

  at_more : slice_get (all ++ more) (length all) ≡ Some halves.left
  at_more =
      ap (λ (xs : List Pair). slice_get xs (length all)) (sym (append_assoc all (halves.left ∷ []) (halves.right ∷ [])))
      ∙ slice_get-append (all ++ halves.left ∷ []) (halves.right ∷ []) (length all) halves.left (item_last all halves.left)

  at_end : slice_get (all ++ more) (length all + 1) ≡ Some halves.right
  at_end =
      ap (λ (xs : List Pair). slice_get xs (length all + 1)) (sym (append_assoc all (halves.left ∷ []) (halves.right ∷ [])))
      ∙ ap (slice_get ((all ++ halves.left ∷ []) ++ halves.right ∷ [])) (sym (length_push all halves.left)) ∙ item_last (all ++ halves.left ∷ [])
      halves.right

  new_split : IsSplitAt new now (all ++ more) (length splits.done.items) of (length all) halves.pairs
  new_split = record { halves = halves; later = next; left = at_more; right = at_end; pairs_are = refl; is = halved }

  pub split_halved : AreSplits new context list now after
  split_halved = record {
    fine = fine_longer;
    done = λ k p h ek eh.
        subst (λ (xs : List Pair). IsSplit new now xs k p h) (sym longer)
        (push_cases (λ n y. (q : Pair) → slice_get (all ++ more) n ≡ Some q → IsSplit new now (all ++ more) n q y) splits.done.items
        (split.Halved (length all) halves.pairs)
        (λ n y e q eq.
        let lt : n < length all = omega (arith, slice_get_within splits.done.items n y e, next) in
        let old_at : slice_get all n ≡ Some q = slice_get-front all more n q lt eq in
        split_stays old new grows before now kept context all more n q y (are.fine n q old_at).points (are.done n q y old_at e))
        (λ q eq.
        let same : of ≡ q = item_is of q (sym (slice_get-append all more (length splits.done.items) of at) ∙ eq) in
        subst (λ (q : Pair). IsSplit new now (all ++ more) (length splits.done.items) q (split.Halved (length all) halves.pairs)) same new_split)
        k h (ap (λ (done : List Split). slice_get done k) (sym done_is) ∙ eh) p (ap (λ (xs : List Pair). slice_get xs k) (sym longer) ∙ ek));
  }

-- one equation alone
pub splits_start : (nodes : List Node) (context : Tree) (list : List Coord) (norms : Norms) (splits : Splits) (of : Pair) → IsEquation nodes context
    list norms of
    → splits.all.items ≡ of ∷ [] → splits.done.items ≡ [] → AreSplits nodes context list norms splits
splits_start nodes context list norms splits of is all_is done_is = record {
  fine = λ k p e. one k p (ap (λ (xs : List Pair). slice_get xs k) (sym all_is) ∙ e);
  done = λ k p how e h. absurd (nothing k how (ap (λ (xs : List Split). slice_get xs k) (sym done_is) ∙ h));
} where
  one : (k : ℕ) (p : Pair) → slice_get (of ∷ []) k ≡ Some p → IsEquation nodes context list norms p
  one zero p e = subst (λ (q : Pair). IsEquation nodes context list norms q) (item_is of p e) is
  one (suc k) p e = absurd cc

  nothing : (k : ℕ) (how : Split) → slice_get [] k ≡ Some how → ⊥
  nothing k how e = omega (arith, slice_get_within {A = Split} [] k how e)
