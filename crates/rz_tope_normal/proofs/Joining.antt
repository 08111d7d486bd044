-- The parts of equations between points.
use Rattle.std.proofs.Common.{◌≡◌, ℕ, ◌+◌, ◌-◌, ◌<◌, ◌≤◌, List, [], ◌∷◌, ◌++◌, length, Some, refl, sym, ap, subst, ◌∙◌, inl, inr, arith}
use Rattle.std.specs.Prelude.{slice_get}
use Rattle.std.proofs.lemmas.Bool.{cases_lt}
use Rattle.std.proofs.lemmas.Option.{slice_get_within}
use Rattle.rz_rules.specs.declared.coordinates.Coord.{Coord}
use Rattle.rz_rules.specs.declared.nodes.Node.{Node}
use Rattle.rz_rules.specs.Tree.{Tree, tree_of}
use Rattle.rz_rules.specs.Cube.{binders_of, cube_two}
use Rattle.rz_rules.specs.Tope.{IsPointOf, equal_points}
use Rattle.rz_pool.proofs.Nodes.{slice_get-append}
use Rattle.rz_tope_proof.specs.declared.proof.Inference.{Inference}
use Rattle.rz_tope_proof.specs.declared.proof.Claim.TheVariants as claim
use Rattle.rz_tope_proof.specs.declared.places.Places.{Places}
use Rattle.rz_tope_proof.specs.declared.parts.Form.{Form}
use Rattle.rz_tope_proof.specs.declared.parts.Form.TheVariants as form
use Rattle.rz_tope_proof.specs.declared.parts.Part.{Part}
use Rattle.rz_tope_proof.specs.declared.parts.Side.{Side}
use Rattle.rz_tope_proof.specs.Claim.{tope_of}
use Rattle.rz_tope_proof.specs.Part.{IsMadeOf}
use Rattle.rz_tope_proof.specs.Reading.{HasForm, IsSide, tope_at}
use Rattle.rz_tope_normal.specs.declared.norms.Norms.{Norms}
use Rattle.rz_tope_normal.specs.declared.splits.Split.{Split}
use Rattle.rz_tope_normal.specs.declared.splits.Split.TheVariants as split
use Rattle.rz_tope_normal.specs.declared.splits.Splits.{Splits}
use Rattle.rz_tope_normal.specs.Equation.{AreSaid, AreSplits, IsEquation, IsReadable, IsSplit}
use Rattle.rz_tope_normal.specs.Norm.{equation_of}
use Rattle.rz_tope_normal.specs.Read.{ArePartsOf, HasSides, SaysTope}
use Rattle.rz_tope_normal.proofs.Halving.{claim_of}
use Rattle.rz_tope_normal.proofs.ReadParts.{parts_with, says_new, says_still}

abbrev Pair : Type 0
Pair = ℕ × ℕ × ℕ

pub item_is : {X : Type 0} (x y : X) → Some x ≡ Some y → x ≡ y
item_is x y e = cc

module _ (nodes : List Node) (context : Tree) (list : List Coord) (norms : Norms) (places : Places) (inferences : List Inference) (parts : List Part)
    (all : List Pair) (place : ℕ) (of : Pair) where
  pub same_form : IsReadable nodes context list norms all place of split.Same → HasForm nodes context places inferences parts form.Same
      (equation_of nodes of)
  same_form is = (
    tree_of nodes of.0,
    tree_of nodes of.1,
    ap (λ (id : ℕ). equal_points (tree_of nodes of.0) (tree_of nodes of.1) (tree_of nodes id))
        (sym is.split_is),
  )

  pub one_form : IsReadable nodes context list norms all place of split.OnePoint → HasForm nodes context places inferences parts form.OnePoint
      (equation_of nodes of)
  one_form is = (tree_of nodes of.1, tree_of nodes of.2, ap (λ (t : Tree). equal_points t (tree_of nodes of.1) (tree_of nodes of.2)) is.split_is)

  pub first_point : IsReadable nodes context list norms all place of split.Interval → IsPointOf (binders_of context) cube_two (tree_of nodes of.1)
  first_point is = is.fine.points.first ∙ ap Some is.split_is

  pub second_point : IsReadable nodes context list norms all place of split.Interval → IsPointOf (binders_of context) cube_two (tree_of nodes of.2)
  second_point is = is.fine.points.second ∙ ap Some is.split_is

  pub interval_form : IsReadable nodes context list norms all place of split.Interval → (first second : Side) → IsSide nodes context places inferences
      first
      → IsSide nodes context places inferences second → first.point ≡ of.1 → second.point ≡ of.2
      → HasForm nodes context places inferences parts (form.Equal first second) (equation_of nodes of)
  interval_form is first second f s fp sp =
      (f, s, λ i. equal_points (is.split_is i) (tree_of nodes (sym fp i)) (tree_of nodes (sym sp i)))

  module _ (at : ℕ) (pairs : ℕ × ℕ) (is : IsReadable nodes context list norms all place of (split.Halved at pairs))
      (room : length all ≤ length parts + place + 1)
      (said : AreSaid nodes parts all place) where
    pub left_within : at < length all
    left_within = slice_get_within all at is.split_is.halves.left is.split_is.left

    pub right_within : at + 1 < length all
    right_within = slice_get_within all (at + 1) is.split_is.halves.right is.split_is.right

    pub place_before : place < at
    place_before = is.split_is.later

    left_says : SaysTope nodes parts (length parts + place - at) (equation_of nodes is.split_is.halves.left)
    left_says = said at is.split_is.halves.left is.split_is.later is.split_is.left

    right_says : SaysTope nodes parts (length parts + place - (at + 1)) (equation_of nodes is.split_is.halves.right)
    right_says = said (at + 1) is.split_is.halves.right (omega (arith, is.split_is.later)) is.split_is.right

    pub halved_made : (l r : ℕ) → l ≡ length parts + place - at → r ≡ l - 1 → (l < length parts) × (r < length parts)
    halved_made l r le re = (omega (arith, le, place_before, left_within, room), omega (arith, le, re, place_before, left_within, right_within, room))

    pub halved_form : (l r : ℕ) → l ≡ length parts + place - at → r ≡ l - 1 → HasForm nodes context places inferences parts
        (form.EqualPairs of l r pairs) (equation_of nodes of)
    halved_form l r le re =
        let halves = is.split_is.halves in
        let halved = is.split_is.is in
        let pairs_are = is.split_is.pairs_are in
        let r_is : r ≡ length parts + place - (at + 1) = omega (arith, le, re) in
        let first_pair : halves.pairs.0 ≡ pairs.0 = ap (λ (p : ℕ × ℕ). p.0) pairs_are in
        let second_pair : halves.pairs.1 ≡ pairs.1 = ap (λ (p : ℕ × ℕ). p.1) pairs_are in
        record {
          one_cube = tree_of nodes halves.left.0;
          other_cube = tree_of nodes halves.right.0;
          cube = halved.cube.tree;
          says = refl;
          first = ap (tope_at nodes parts) le ∙ left_says.says ∙ (λ i. equal_points (tree_of nodes halves.left.0) (halved.first.left_is i)
              (halved.second.left_is i));
          second = ap (tope_at nodes parts) r_is ∙ right_says.says ∙ (λ i. equal_points (tree_of nodes halves.right.0) (halved.first.right_is i)
              (halved.second.right_is i));
          left_live = subst (λ (id : ℕ). id < length nodes) first_pair halved.first.pair_live;
          right_live = subst (λ (id : ℕ). id < length nodes) second_pair halved.second.pair_live;
          left_pair = ap (tree_of nodes) (sym first_pair) ∙ halved.first.pair_is;
          right_pair = ap (tree_of nodes) (sym second_pair) ∙ halved.second.pair_is;
          cube_live = is.fine.points.cube_live;
          one_live = is.fine.points.first_live;
          other_live = is.fine.points.second_live;
        }

-- one part more
module _ (nodes : List Node) (context : Tree) (list : List Coord) (norms : Norms) (places : Places) (inferences : List Inference) (parts : List Part)
    (of : Pair) (fine : IsEquation nodes context list norms of) (how : Form) where
  abbrev new_part : Part
  new_part = record { claim = claim.Equal of.0 of.1 of.2; form = how }

  pub joined_parts : ArePartsOf nodes context list places inferences parts → IsMadeOf (length parts) places.count how
      → HasForm nodes context places inferences parts how (equation_of nodes of) → HasSides nodes (binders_of context) list how
      → ArePartsOf nodes context list places inferences (parts ++ new_part ∷ [])
  joined_parts are made has sides =
      parts_with nodes context list places inferences parts new_part are
      (record { made = made; read = record { claim = claim_of nodes context of fine.points; form = has }; sides = sides })

  pub joined_says : SaysTope nodes (parts ++ new_part ∷ []) (length parts) (equation_of nodes of)
  joined_says = says_new nodes parts new_part

-- fewer are split
pub splits_front : (nodes : List Node) (context : Tree) (list : List Coord) (norms : Norms) (splits fewer : Splits) (last : Split) → AreSplits nodes
    context list norms splits
    → fewer.all.items ≡ splits.all.items → splits.done.items ≡ fewer.done.items ++ last ∷ [] → AreSplits nodes context list norms fewer
splits_front nodes context list norms splits fewer last are all_is done_is = record {
  fine = λ k of e. are.fine k of (ap (λ (xs : List Pair). slice_get xs k) (sym all_is) ∙ e);
  done = λ k of how e h.
      subst (λ (xs : List Pair). IsSplit nodes norms xs k of how) (sym all_is)
      (are.done k of how (ap (λ (xs : List Pair). slice_get xs k) (sym all_is) ∙ e)
      (ap (λ (xs : List Split). slice_get xs k) done_is ∙ slice_get-append fewer.done.items (last ∷ []) k how h));
}

last_item : {X : Type 0} (old : List X) (x : X) → slice_get (old ++ x ∷ []) (length old) ≡ Some x
last_item [] x = refl
last_item (y ∷ old) x = last_item old x

-- the last one that is split is readable
pub last_readable : (nodes : List Node) (context : Tree) (list : List Coord) (norms : Norms) (splits : Splits) (front : List Split) (last : Split)
    (of : Pair)
    → AreSplits nodes context list norms splits → splits.done.items ≡ front ++ last ∷ [] → slice_get splits.all.items (length front) ≡ Some of
    → IsReadable nodes context list norms splits.all.items (length front) of last
last_readable nodes context list norms splits front last of are done_is at = record {
  fine = are.fine (length front) of at;
  split_is = are.done (length front) of last at (ap (λ (xs : List Split). slice_get xs (length front)) done_is ∙ last_item front last);
}

pub last_readable_at : (nodes : List Node) (context : Tree) (list : List Coord) (norms : Norms) (splits : Splits) (front : List Split) (last : Split)
    (of : Pair)
    → AreSplits nodes context list norms splits → splits.done.items ≡ front ++ last ∷ [] → (xs : List Pair) (n : ℕ) → xs ≡ splits.all.items → n ≡
    length front
    → slice_get xs n ≡ Some of → IsReadable nodes context list norms xs n of last
last_readable_at nodes context list norms splits front last of are done_is xs n xs_is n_is at =
    subst (λ (ys : List Pair). IsReadable nodes context list norms ys n of last) (sym xs_is)
    (subst (λ (m : ℕ). IsReadable nodes context list norms splits.all.items m of last) (sym n_is)
    (last_readable nodes context list norms splits front last of are done_is
    ((λ i. slice_get (sym xs_is i) (sym n_is i)) ∙ at)))

-- the equations behind a place have parts
abbrev pub Said : List Node → List Part → List Pair → ℕ → ℕ → Type 0
Said nodes parts all done last =
    (other : ℕ) (of : Pair) → done ≤ other → slice_get all other ≡ Some of → SaysTope nodes parts (last - other) (equation_of nodes of)

pub said_at : (nodes : List Node) (parts : List Part) (all : List Pair) (done last : ℕ) → length parts + done ≡ last + 1 → Said nodes parts all done
    last
    → (ps : List Part) (xs : List Pair) (place : ℕ) → ps ≡ parts → xs ≡ all → place + 1 ≡ done → AreSaid nodes ps xs place
said_at nodes parts all done last count said ps xs place ps_is xs_is place_is =
    subst (λ (qs : List Part). AreSaid nodes qs xs place) (sym ps_is) (λ other of lt e.
    let number : last - other ≡ length parts + place - other = omega (arith, count, place_is) in
    subst (λ (n : ℕ). SaysTope nodes parts n (equation_of nodes of)) number
    (said other of (omega (arith, lt, place_is)) (ap (λ (ys : List Pair). slice_get ys other) (sym xs_is) ∙ e)))

pub said_more : (nodes : List Node) (parts : List Part) (part : Part) (all : List Pair) (done place last : ℕ) → place + 1 ≡ done → length parts + done
    ≡ last + 1
    → Said nodes parts all done last → (of : Pair) → slice_get all place ≡ Some of → tope_of nodes part.claim ≡ equation_of nodes of
    → Said nodes (parts ++ part ∷ []) all place last
said_more nodes parts part all done place last place_is count said of at tope other p le e = elim (cases_lt place other) [
  | inl behind ↦ says_still nodes parts (part ∷ []) (last - other) (equation_of nodes p) (said other p (omega (arith, behind, place_is)) e)
  | inr here ↦
      let same : place ≡ other = omega (arith, here, le) in
      let is : of ≡ p = item_is of p (sym at ∙ ap (slice_get all) same ∙ e) in
      let number : length parts ≡ last - other = omega (arith, count, place_is, same) in
      subst (λ (n : ℕ). SaysTope nodes (parts ++ part ∷ []) n (equation_of nodes p)) number
      (subst (λ (t : Tree). SaysTope nodes (parts ++ part ∷ []) (length parts) t) (tope ∙ ap (equation_of nodes) is) (says_new nodes parts part))
]
