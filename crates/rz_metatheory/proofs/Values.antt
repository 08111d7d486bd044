-- The numbers of points: they fit their cubes, and are found again further in.
use Rattle.std.proofs.Common.{◌≡◌, ℕ, zero, suc, ◌+◌, ◌≤◌, List, [], ◌∷◌, ◌++◌, take, drop, Option, Some, None, true≢false, refl, sym, ap, ◌∙◌, subst, arith}
use Rattle.std.specs.Prelude.{slice_get, option_and_then}
use Rattle.std.proofs.lemmas.List.{length-append, length-take, length-drop}
use Rattle.std.proofs.lemmas.List.Elements.{All-nil, All-cons, All-append, All-take, All-drop}
use Rattle.rz_rules.specs.declared.kinds.Sort.TheVariants as sort
use Rattle.rz_rules.specs.declared.kinds.Space.TheVariants.{Points, Terms}
use Rattle.rz_rules.specs.declared.kinds.Kind.TheVariants.{CubeOne, CubeTwo, Product, PointVariable, OnlyPoint, Zero, One, PointPair, PointLeft, PointRight}
use Rattle.rz_rules.specs.declared.kinds.Role.TheVariants.{Former}
use Rattle.rz_rules.specs.declared.kinds.Kind.{Kind}
use Rattle.rz_rules.specs.Form.{form, is_named, plain, bound}
use Rattle.rz_rules.specs.Tree.{Tree, At, Nil, And, IsTree, IsLabelled}
use Rattle.rz_rules.specs.Substitution.{Depth, Changes, changed, none, total, raising, weakened}
use Rattle.rz_rules.specs.Cube.{Binders, cube_one, cube_two, product, left_part, right_part}
use Rattle.rz_rules.specs.Coordinate.{width, left_width}
use Rattle.rz_rules.specs.Tope.{cube_of}
use Rattle.rz_rules.proofs.SubstitutionVariables.{raised}
use Rattle.rz_metatheory.specs.Place.{Valuation, FitsCube, FitsCubes, value}

-- a kid under which nothing is bound stands at its node's depth
pub plain_depth : (depth : Depth) (sort : _) → total depth (bound (plain sort)) ≡ depth
plain_depth depth sort = λ i space. at space i where
  at : (space : _) → total depth (bound (plain sort)) space ≡ depth space
  at Points = omega arith
  at Terms = omega arith

pub plain_kid : (f : Changes) (depth : Depth) (sort : _) (t : Tree) → changed f (total depth (bound (plain sort))) t ≡ changed f depth t
plain_kid f depth sort t = ap (λ (d : Depth). changed f d t) (plain_depth depth sort)

-- where a function of an option has a value, the option has
pub then_some : {X Y : Type 0} (f : X → Option Y) (o : Option X) (y : Y) → option_and_then f o ≡ Some y → (x : X) × (o ≡ Some x) × (f x ≡ Some y)
then_some f None y e = absurd cc
then_some f (Some x) y e = (x, refl, e)

pub same_in : {X : Type 0} (x y : X) → Some x ≡ Some y → x ≡ y
same_in x y e = cc

-- the cube of a part
pub left_part_is : (t part : Tree) → left_part t ≡ Some part
    → (number : ℕ) × (name : List ℕ) × (other : Tree) × (t ≡ At Product number name (And part (And other Nil)))
left_part_is (At Product number name (And left (And right Nil))) part e =
    (number, name, right, ap (λ u. At Product number name (And u (And right Nil))) (same_in left part e))
left_part_is other part e = absurd cc

pub right_part_is : (t part : Tree) → right_part t ≡ Some part
    → (number : ℕ) × (name : List ℕ) × (other : Tree) × (t ≡ At Product number name (And other (And part Nil)))
right_part_is (At Product number name (And left (And right Nil))) part e =
    (number, name, left, ap (λ u. At Product number name (And left (And u Nil))) (same_in right part e))
right_part_is other part e = absurd cc

-- lists of numbers that fit a cube
FitsCube-append : (last : ℕ) (left right : Tree) (ms ns : List ℕ) → FitsCube last left ms → FitsCube last right ns → FitsCube last (product left right) (ms ++ ns)
FitsCube-append last left right ms ns m n = record {
  long = omega (arith, length-append ms ns, m.long, n.long);
  small = All-append (λ number. number ≤ last) ms ns m.small n.small;
}

FitsCube-take : (last : ℕ) (number : ℕ) (name : List ℕ) (left right : Tree) (ns : List ℕ)
    → FitsCube last (At Product number name (And left (And right Nil))) ns → FitsCube last left (take (width left) ns)
FitsCube-take last number name left right ns h = record {
  long = omega (arith, length-take (width left) ns, h.long);
  small = All-take (λ number. number ≤ last) (width left) ns h.small;
}

FitsCube-drop : (last : ℕ) (number : ℕ) (name : List ℕ) (left right : Tree) (ns : List ℕ)
    → FitsCube last (At Product number name (And left (And right Nil))) ns → FitsCube last right (drop (width left) ns)
FitsCube-drop last number name left right ns h = record {
  long = omega (arith, length-drop (width left) ns, h.long);
  small = All-drop (λ number. number ≤ last) (width left) ns h.small;
}

module _ (cubes : List Tree) (valuation : Valuation) (fits : FitsCubes cubes valuation) where
  abbrev binders : Binders
  binders = record { cubes = cubes }

  -- the numbers of a point fit its cube
  pub value_fits : (point cube : Tree) → cube_of binders point ≡ Some cube → FitsCube valuation.last cube (value binders valuation point)
  value_fits (At PointVariable index name Nil) cube e = fits.each index cube e
  value_fits (At OnlyPoint number name Nil) cube e =
      subst (λ c. FitsCube valuation.last c []) (same_in cube_one cube e) (record { long = refl; small = All-nil (λ number. number ≤ valuation.last) })
  value_fits (At Zero number name Nil) cube e =
      subst (λ c. FitsCube valuation.last c (0 ∷ [])) (same_in cube_two cube e)
      (record { long = refl; small = All-cons (λ number. number ≤ valuation.last) 0 [] (omega arith) (All-nil (λ number. number ≤ valuation.last)) })
  value_fits (At One number name Nil) cube e =
      subst (λ c. FitsCube valuation.last c (valuation.last ∷ [])) (same_in cube_two cube e)
      (record { long = refl; small = All-cons (λ number. number ≤ valuation.last) valuation.last [] (omega arith) (All-nil (λ number. number ≤ valuation.last)) })
  value_fits (At PointPair number name (And s (And u Nil))) cube e =
      let left = then_some (λ left. option_and_then (λ right. Some (product left right)) (cube_of binders u)) (cube_of binders s) cube e in
      let right = then_some (λ right. Some (product left.0 right)) (cube_of binders u) cube left.2 in
      subst (λ c. FitsCube valuation.last c (value binders valuation s ++ value binders valuation u)) (same_in (product left.0 right.0) cube right.2)
      (FitsCube-append valuation.last left.0 right.0 (value binders valuation s) (value binders valuation u) (value_fits s left.0 left.1) (value_fits u right.0 right.1))
  value_fits (At PointLeft number name (And s Nil)) cube e =
      let whole = then_some left_part (cube_of binders s) cube e in
      let part = left_part_is whole.0 cube whole.2 in
      let is : cube_of binders s ≡ Some (At Product part.0 part.1 (And cube (And part.2 Nil))) = whole.1 ∙ ap Some part.3 in
      subst (λ (o : Option Tree). FitsCube valuation.last cube (take (left_width o) (value binders valuation s))) (sym is)
      (FitsCube-take valuation.last part.0 part.1 cube part.2 (value binders valuation s) (value_fits s (At Product part.0 part.1 (And cube (And part.2 Nil))) is))
  value_fits (At PointRight number name (And s Nil)) cube e =
      let whole = then_some right_part (cube_of binders s) cube e in
      let part = right_part_is whole.0 cube whole.2 in
      let is : cube_of binders s ≡ Some (At Product part.0 part.1 (And part.2 (And cube Nil))) = whole.1 ∙ ap Some part.3 in
      subst (λ (o : Option Tree). FitsCube valuation.last cube (drop (left_width o) (value binders valuation s))) (sym is)
      (FitsCube-drop valuation.last part.0 part.1 part.2 cube (value binders valuation s) (value_fits s (At Product part.0 part.1 (And part.2 (And cube Nil))) is))
  value_fits other cube e = absurd cc

-- a node that is neither variable nor declared has neither number nor name
pub former_label : (kind : Kind) → (form kind).role ≡ Former → IsLabelled kind 0 []
former_label kind e = record {
  small = omega arith;
  unnumbered = λ h. refl;
  unnamed = λ h. refl;
  named = λ h. absurd (true≢false (sym h ∙ ap is_named e));
}

-- cubes alone stand in a list
abbrev pub AreCubes : List Tree → Type 0
AreCubes cubes = (index : ℕ) (cube : Tree) → slice_get cubes index ≡ Some cube → IsTree sort.Cube cube

pub AreCubes-front : (cube : Tree) (cubes : List Tree) → IsTree sort.Cube cube → AreCubes cubes → AreCubes (cube ∷ cubes)
AreCubes-front cube cubes first rest zero other e = subst (IsTree sort.Cube) (same_in cube other e) first
AreCubes-front cube cubes first rest (suc index) other e = rest index other e

-- then the cube of a point is one
module _ (cubes : List Tree) (are : AreCubes cubes) where
  abbrev binders_here : Binders
  binders_here = record { cubes = cubes }

  pub cube_of_is : (point cube : Tree) → cube_of binders_here point ≡ Some cube → IsTree sort.Cube cube
  cube_of_is (At PointVariable index name Nil) cube e = are index cube e
  cube_of_is (At OnlyPoint number name Nil) cube e = subst (IsTree sort.Cube) (same_in cube_one cube e) (refl, former_label CubeOne refl, tt)
  cube_of_is (At Zero number name Nil) cube e = subst (IsTree sort.Cube) (same_in cube_two cube e) (refl, former_label CubeTwo refl, tt)
  cube_of_is (At One number name Nil) cube e = subst (IsTree sort.Cube) (same_in cube_two cube e) (refl, former_label CubeTwo refl, tt)
  cube_of_is (At PointPair number name (And s (And u Nil))) cube e =
      let left = then_some (λ left. option_and_then (λ right. Some (product left right)) (cube_of binders_here u)) (cube_of binders_here s) cube e in
      let right = then_some (λ right. Some (product left.0 right)) (cube_of binders_here u) cube left.2 in
      subst (IsTree sort.Cube) (same_in (product left.0 right.0) cube right.2)
      (refl, former_label Product refl, (cube_of_is s left.0 left.1, (cube_of_is u right.0 right.1, tt)))
  cube_of_is (At PointLeft number name (And s Nil)) cube e =
      let whole = then_some left_part (cube_of binders_here s) cube e in
      let part = left_part_is whole.0 cube whole.2 in
      let all = subst (IsTree sort.Cube) part.3 (cube_of_is s whole.0 whole.1) in
      all.2.0
  cube_of_is (At PointRight number name (And s Nil)) cube e =
      let whole = then_some right_part (cube_of binders_here s) cube e in
      let part = right_part_is whole.0 cube whole.2 in
      let all = subst (IsTree sort.Cube) part.3 (cube_of_is s whole.0 whole.1) in
      all.2.1.0
  cube_of_is other cube e = absurd cc

-- what becomes of the numbers of variables that rise
abbrev pub fewer : Depth → Valuation → Valuation
fewer by valuation = record { last = valuation.last; values = λ index. valuation.values (raised (0 + 0) (by Points) index) }

-- a point that is read further in has its cube and its numbers
module _ (by : Depth) (old new : List Tree) (kept : (index : ℕ) → slice_get new (raised (0 + 0) (by Points) index) ≡ slice_get old index) where
  abbrev before : Binders
  before = record { cubes = old }

  abbrev after : Binders
  after = record { cubes = new }

  pub record Stays (point deep : Tree) : Type 0 where
    pub cube : cube_of after deep ≡ cube_of before point
    pub number : (valuation : Valuation) → value after valuation deep ≡ value before (fewer by valuation) point

  abbrev deep_kid : (t : Tree) → weakened by t ≡ changed (raising none by) (total none (bound (plain sort.Point))) t
  deep_kid t = sym (plain_kid (raising none by) none sort.Point t)

  pub weakened_point : (point : Tree) → Stays point (weakened by point)
  weakened_point (At PointVariable index name Nil) = record { cube = kept index; number = λ valuation. refl }
  weakened_point (At OnlyPoint number name Nil) = record { cube = refl; number = λ valuation. refl }
  weakened_point (At Zero number name Nil) = record { cube = refl; number = λ valuation. refl }
  weakened_point (At One number name Nil) = record { cube = refl; number = λ valuation. refl }
  weakened_point (At PointPair number name (And s (And u Nil))) =
      let left = weakened_point s in
      let right = weakened_point u in
      let whole : Stays (At PointPair number name (And s (And u Nil))) (At PointPair number name (And (weakened by s) (And (weakened by u) Nil))) = record {
        cube = λ i. option_and_then (λ a. option_and_then (λ b. Some (product a b)) (right.cube i)) (left.cube i);
        number = λ valuation i. left.number valuation i ++ right.number valuation i;
      } in
      subst (Stays (At PointPair number name (And s (And u Nil)))) (λ i. At PointPair number name (And (deep_kid s i) (And (deep_kid u i) Nil))) whole
  weakened_point (At PointLeft number name (And s Nil)) =
      let part = weakened_point s in
      let whole : Stays (At PointLeft number name (And s Nil)) (At PointLeft number name (And (weakened by s) Nil)) = record {
        cube = ap (option_and_then left_part) part.cube;
        number = λ valuation i. take (left_width (part.cube i)) (part.number valuation i);
      } in
      subst (Stays (At PointLeft number name (And s Nil))) (λ i. At PointLeft number name (And (deep_kid s i) Nil)) whole
  weakened_point (At PointRight number name (And s Nil)) =
      let part = weakened_point s in
      let whole : Stays (At PointRight number name (And s Nil)) (At PointRight number name (And (weakened by s) Nil)) = record {
        cube = ap (option_and_then right_part) part.cube;
        number = λ valuation i. drop (left_width (part.cube i)) (part.number valuation i);
      } in
      subst (Stays (At PointRight number name (And s Nil))) (λ i. At PointRight number name (And (deep_kid s i) Nil)) whole
  weakened_point other = record { cube = refl; number = λ valuation. refl }
