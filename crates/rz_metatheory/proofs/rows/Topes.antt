-- The rows of topes.
use Rattle.std.proofs.Common.{◌≡◌, ℕ, List, [], ◌∷◌, ◌++◌, take, drop, Bool, true≢false, inl, inr, Some, refl, sym, ap, ◌∙◌, arith}
use Rattle.std.specs.Prelude.{slice_index, option_and_then}
use Rattle.std.specs.Cmp.{first_so, second_so}
use Rattle.std.proofs.lemmas.List.{take-append-drop}
use Rattle.rz_rules.specs.declared.rows.Row.TheVariants as row
use Rattle.rz_rules.specs.Row.{Assignment}
use Rattle.rz_rules.specs.Tree.{Tree}
use Rattle.rz_rules.specs.Cube.{Binders, cube_one, cube_two, product, left_part, right_part}
use Rattle.rz_rules.specs.Coordinate.{width, left_width}
use Rattle.rz_rules.specs.Tope.{cube_of, IsPointOf}
use Rattle.rz_metatheory.specs.Place.{Valuation, FitsCube, value, is_true, IsAllowed}
use Rattle.rz_metatheory.proofs.Values.{then_some, same_in, value_fits}
use Rattle.rz_metatheory.proofs.Places.{both_so}
use Rattle.rz_metatheory.proofs.Keeping.{RowKeeps}
use Rattle.rz_metatheory.proofs.Letters as the
use Rattle.rz_metatheory.proofs.rows.Terms.{allowed_with}
use Rattle.rz_metatheory.proofs.Lists.{equal_numbers, numbers_equal, take_joined, drop_joined, nothing_equal, one_equal, one_at_most, either_true, left_true, right_true, le_true, true_le, le_total}

-- whether a tope over the row's context is true
abbrev truth : Assignment → Valuation → Tree → Bool
truth L v tope = is_true (the.binders L) v tope

abbrev numbers : Assignment → Valuation → Tree → List ℕ
numbers L v point = value (the.binders L) v point

-- the numbers of a point of the row's context
fits : (L : Assignment) (v : Valuation) → IsAllowed (the.here L) v → (point cube : Tree) → IsPointOf (the.binders L) cube point → FitsCube v.last cube (numbers L v point)
fits L v allowed point cube e = value_fits (the.here L).scope.cubes v allowed.fits point cube e

pub top : RowKeeps row.Top
top L met context tree over = (context.0, (tt, λ v allowed. refl))

pub bottom : RowKeeps row.Bottom
bottom L met never tree over = (never.0, (over, λ v allowed. absurd (true≢false (sym (never.1.1 v allowed)))))

pub and : RowKeeps row.And
and L met p q tree over = (p.0, ((p.1.0, q.1.0), λ v allowed. both_so (truth L v (the.P L)) (truth L v (the.Q L)) (p.1.1 v allowed) (q.1.1 v allowed)))

pub and_left : RowKeeps row.AndLeft
and_left L met both tree over = (both.0, (both.1.0.0, λ v allowed. first_so (truth L v (the.P L)) (truth L v (the.Q L)) (both.1.1 v allowed)))

pub and_right : RowKeeps row.AndRight
and_right L met both tree over = (both.0, (both.1.0.1, λ v allowed. second_so (truth L v (the.P L)) (truth L v (the.Q L)) (both.1.1 v allowed)))

pub or_left : RowKeeps row.OrLeft
or_left L met p tree over = (p.0, (over, λ v allowed. left_true (truth L v (the.P L)) (truth L v (the.Q L)) (p.1.1 v allowed)))

pub or_right : RowKeeps row.OrRight
or_right L met q tree over = (q.0, (over, λ v allowed. right_true (truth L v (the.P L)) (truth L v (the.Q L)) (q.1.1 v allowed)))

pub or_elimination : RowKeeps row.OrElimination
or_elimination L met either under_p under_q tree over = (
  either.0,
  (
    under_p.1.0,
    λ v allowed.
        elim (either_true (truth L v (the.P L)) (truth L v (the.Q L)) (either.1.1 v allowed)) [
          | inl p ↦ under_p.1.1 v (allowed_with (the.here L) (the.P L) v allowed p)
          | inr q ↦ under_q.1.1 v (allowed_with (the.here L) (the.Q L) v allowed q)
        ],
  ),
)

pub equal_reflexive : RowKeeps row.EqualReflexive
equal_reflexive L met context tree over = (context.0, (over, λ v allowed. numbers_equal (numbers L v (the.S L)) (numbers L v (the.S L)) refl))

pub equal_symmetric : RowKeeps row.EqualSymmetric
equal_symmetric L met equal tree over = (
  equal.0,
  (
    (equal.1.0.1, equal.1.0.0),
    λ v allowed.
        numbers_equal (numbers L v (the.T L)) (numbers L v (the.S L)) (sym (equal_numbers (numbers L v (the.S L)) (numbers L v (the.T L)) (equal.1.1 v allowed))),
  ),
)

pub equal_transitive : RowKeeps row.EqualTransitive
equal_transitive L met first second tree over = (
  first.0,
  (
    (first.1.0.0, second.1.0.1),
    λ v allowed.
        numbers_equal (numbers L v (the.S L)) (numbers L v (the.W L))
        (equal_numbers (numbers L v (the.S L)) (numbers L v (the.T L)) (first.1.1 v allowed)
        ∙ equal_numbers (numbers L v (the.T L)) (numbers L v (the.W L)) (second.1.1 v allowed)),
  ),
)

-- the width of the left part of a pair
pair_width : (binders : Binders) (s u cube left : Tree)
    → option_and_then (λ a. option_and_then (λ b. Some (product a b)) (cube_of binders u)) (cube_of binders s) ≡ Some cube
    → cube_of binders s ≡ Some left
    → left_width (option_and_then (λ a. option_and_then (λ b. Some (product a b)) (cube_of binders u)) (cube_of binders s)) ≡ width left
pair_width binders s u cube left e first =
    let one = then_some (λ a. option_and_then (λ b. Some (product a b)) (cube_of binders u)) (cube_of binders s) cube e in
    let two = then_some (λ b. Some (product one.0 b)) (cube_of binders u) cube one.2 in
    let same : one.0 ≡ left = same_in one.0 left (sym one.1 ∙ first) in
    ap left_width (e ∙ sym two.2) ∙ ap width same

pub equal_first : RowKeeps row.EqualFirst
equal_first L met context tree over =
    let pair = then_some left_part (option_and_then (λ a. option_and_then (λ b. Some (product a b)) (cube_of (the.binders L) (the.T L))) (cube_of (the.binders L) (the.S L))) (the.I L) over.0 in
    let cut = pair_width (the.binders L) (the.S L) (the.T L) pair.0 (the.I L) pair.1 over.1 in (
      context.0,
      (
        over,
        λ v allowed.
            numbers_equal _ (numbers L v (the.S L))
            (take_joined _ (numbers L v (the.S L)) (numbers L v (the.T L)) ((fits L v allowed (the.S L) (the.I L) over.1).long ∙ sym cut)),
      ),
    )

pub equal_second : RowKeeps row.EqualSecond
equal_second L met context tree over =
    let pair = then_some right_part (option_and_then (λ a. option_and_then (λ b. Some (product a b)) (cube_of (the.binders L) (the.T L))) (cube_of (the.binders L) (the.S L))) (the.K L) over.0 in
    let first = then_some (λ a. option_and_then (λ b. Some (product a b)) (cube_of (the.binders L) (the.T L))) (cube_of (the.binders L) (the.S L)) pair.0 pair.1 in
    let cut = pair_width (the.binders L) (the.S L) (the.T L) pair.0 first.0 pair.1 first.1 in (
      context.0,
      (
        over,
        λ v allowed.
            numbers_equal _ (numbers L v (the.T L))
            (drop_joined _ (numbers L v (the.S L)) (numbers L v (the.T L)) ((fits L v allowed (the.S L) first.0 first.1).long ∙ sym cut)),
      ),
    )

pub equal_eta : RowKeeps row.EqualEta
equal_eta L met context tree over = (
  context.0,
  (
    over,
    λ v allowed.
        numbers_equal (numbers L v (the.S L)) _ (sym (take-append-drop (left_width (cube_of (the.binders L) (the.S L))) (numbers L v (the.S L)))),
  ),
)

pub equal_one : RowKeeps row.EqualOne
equal_one L met context tree over = (
  context.0,
  (
    over,
    λ v allowed.
        numbers_equal (numbers L v (the.S L)) (numbers L v (the.T L))
        (nothing_equal (numbers L v (the.S L)) (numbers L v (the.T L)) (fits L v allowed (the.S L) cube_one over.0).long (fits L v allowed (the.T L) cube_one over.1).long),
  ),
)

pair_cube : (binders : Binders) (s t left right : Tree) → IsPointOf binders left s → IsPointOf binders right t
    → option_and_then (λ a. option_and_then (λ b. Some (product a b)) (cube_of binders t)) (cube_of binders s) ≡ Some (product left right)
pair_cube binders s t left right first second = λ i. option_and_then (λ a. option_and_then (λ b. Some (product a b)) (second i)) (first i)

pub equal_pair : RowKeeps row.EqualPair
equal_pair L met first second tree over = (
  first.0,
  (
    (pair_cube (the.binders L) (the.S L) (the.T L) (the.I L) (the.K L) first.1.0.0 second.1.0.0, pair_cube (the.binders L) (the.S1 L) (the.T1 L) (the.I L) (the.K L) first.1.0.1 second.1.0.1),
    λ v allowed.
        let left = equal_numbers (numbers L v (the.S L)) (numbers L v (the.S1 L)) (first.1.1 v allowed) in
        let right = equal_numbers (numbers L v (the.T L)) (numbers L v (the.T1 L)) (second.1.1 v allowed) in
        numbers_equal (numbers L v (the.S L) ++ numbers L v (the.T L)) (numbers L v (the.S1 L) ++ numbers L v (the.T1 L)) (λ i. left i ++ right i),
  ),
)

pub equal_left : RowKeeps row.EqualLeft
equal_left L met equal tree over = (
  equal.0,
  (
    (ap (option_and_then left_part) equal.1.0.0, ap (option_and_then left_part) equal.1.0.1),
    λ v allowed.
        let same = equal_numbers (numbers L v (the.S L)) (numbers L v (the.T L)) (equal.1.1 v allowed) in
        let cubes : cube_of (the.binders L) (the.S L) ≡ cube_of (the.binders L) (the.T L) = equal.1.0.0 ∙ sym equal.1.0.1 in
        numbers_equal (take (left_width (cube_of (the.binders L) (the.S L))) (numbers L v (the.S L))) (take (left_width (cube_of (the.binders L) (the.T L))) (numbers L v (the.T L)))
        (λ i. take (left_width (cubes i)) (same i)),
  ),
)

pub equal_right : RowKeeps row.EqualRight
equal_right L met equal tree over = (
  equal.0,
  (
    (ap (option_and_then right_part) equal.1.0.0, ap (option_and_then right_part) equal.1.0.1),
    λ v allowed.
        let same = equal_numbers (numbers L v (the.S L)) (numbers L v (the.T L)) (equal.1.1 v allowed) in
        let cubes : cube_of (the.binders L) (the.S L) ≡ cube_of (the.binders L) (the.T L) = equal.1.0.0 ∙ sym equal.1.0.1 in
        numbers_equal (drop (left_width (cube_of (the.binders L) (the.S L))) (numbers L v (the.S L))) (drop (left_width (cube_of (the.binders L) (the.T L))) (numbers L v (the.T L)))
        (λ i. drop (left_width (cubes i)) (same i)),
  ),
)

abbrev number : Assignment → Valuation → Tree → ℕ
number L v point = slice_index (numbers L v point) 0

pub at_most_equal : RowKeeps row.AtMostEqual
at_most_equal L met equal tree over = (
  equal.0,
  (
    (equal.1.0.0, equal.1.0.1),
    λ v allowed.
        let same = equal_numbers (numbers L v (the.S L)) (numbers L v (the.T L)) (equal.1.1 v allowed) in
        let first : number L v (the.S L) ≡ number L v (the.T L) = ap (λ ns. slice_index ns 0) same in
        le_true (number L v (the.S L)) (number L v (the.T L)) (omega (arith, first)),
  ),
)

pub at_most_transitive : RowKeeps row.AtMostTransitive
at_most_transitive L met first second tree over = (
  first.0,
  (
    (first.1.0.0, second.1.0.1),
    λ v allowed.
        let low = true_le (number L v (the.S L)) (number L v (the.T L)) (first.1.1 v allowed) in
        let high = true_le (number L v (the.T L)) (number L v (the.W L)) (second.1.1 v allowed) in
        le_true (number L v (the.S L)) (number L v (the.W L)) (omega (arith, low, high)),
  ),
)

pub at_most_antisymmetric : RowKeeps row.AtMostAntisymmetric
at_most_antisymmetric L met first second tree over = (
  first.0,
  (
    (first.1.0.0, first.1.0.1),
    λ v allowed.
        let low = true_le (number L v (the.S L)) (number L v (the.T L)) (first.1.1 v allowed) in
        let high = true_le (number L v (the.T L)) (number L v (the.S L)) (second.1.1 v allowed) in
        numbers_equal (numbers L v (the.S L)) (numbers L v (the.T L))
        (one_equal (numbers L v (the.S L)) (numbers L v (the.T L)) (fits L v allowed (the.S L) cube_two first.1.0.0).long (fits L v allowed (the.T L) cube_two first.1.0.1).long (omega (arith, low, high))),
  ),
)

pub at_most_total : RowKeeps row.AtMostTotal
at_most_total L met context tree over = (context.0, (over, λ v allowed. le_total (number L v (the.S L)) (number L v (the.T L))))

pub zero_at_most : RowKeeps row.ZeroAtMost
zero_at_most L met context tree over = (context.0, (over, λ v allowed. le_true 0 (number L v (the.S L)) (omega arith)))

pub at_most_one : RowKeeps row.AtMostOne
at_most_one L met context tree over = (
  context.0,
  (
    over,
    λ v allowed.
        let fit = fits L v allowed (the.S L) cube_two over.0 in
        le_true (number L v (the.S L)) v.last (one_at_most v.last (numbers L v (the.S L)) fit.long fit.small),
  ),
)

pub zero_is_not_one : RowKeeps row.ZeroIsNotOne
zero_is_not_one L met equal tree over = (
  equal.0,
  (
    tt,
    λ v allowed.
        let same : 0 ∷ [] ≡ v.last ∷ [] = equal_numbers (0 ∷ []) (v.last ∷ []) (equal.1.1 v allowed) in
        let first : 0 ≡ v.last = ap (λ ns. slice_index ns 0) same in
        absurd (omega (arith, first, allowed.fits.ends_differ)),
  ),
)
