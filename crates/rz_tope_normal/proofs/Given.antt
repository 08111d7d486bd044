-- The topes of a context's entries, read behind the entries that stand further in.
use Rattle.std.proofs.Common.{◌≡◌, ℕ, zero, suc, ◌+◌, ◌&&◌, List, [], ◌∷◌, ◌++◌, get_or, map, take, drop, nat_eq, Option, Some, None, refl, sym, ap, subst, ◌∙◌, arith}
use Rattle.std.specs.Prelude.{◌||◌, nat_le, slice_get, slice_index, Contains}
use Rattle.std.specs.Cmp.Lexicographic.{pointwise}
use Rattle.std.proofs.lemmas.Bool.Decides.{nat_tests}
use Rattle.std.proofs.lemmas.List.{map-append, take-map, drop-map}
use Rattle.std.proofs.lemmas.List.Elements.{All-map, Contains-append_left, Contains-append_right, Contains-get_or}
use Rattle.rz_rules.specs.declared.kinds.Sort.TheVariants as sort
use Rattle.rz_rules.specs.declared.kinds.Space.TheVariants.{Points}
use Rattle.rz_rules.specs.declared.kinds.Kind.TheVariants.{PointVariable, Zero, One, PointPair, PointLeft, PointRight, Top, Bottom, Conjunction, Disjunction, EqualPoints, AtMost}
use Rattle.rz_rules.specs.declared.coordinates.Coord.{Coord}
use Rattle.rz_rules.specs.declared.coordinates.Coord.TheVariants as coordinate
use Rattle.rz_rules.specs.Form.{plain, bound}
use Rattle.rz_rules.specs.Tree.{Tree, At, Nil, And}
use Rattle.rz_rules.specs.Substitution.{Depth, changed, none, total, raising, weakened}
use Rattle.rz_rules.specs.Context.{Entry, OfCube, OfTope, OfType, depth_of, with_entries, with_entry}
use Rattle.rz_rules.specs.Cube.{Binders, binders_of, cubes_of}
use Rattle.rz_rules.specs.Tope.{cube_of, IsTopeOver}
use Rattle.rz_rules.specs.Coordinate.{coordinates, coordinates_of_variable, left_width, paths}
use Rattle.rz_rules.specs.Coordinate as rules
use Rattle.rz_rules.specs.Validity.{compared, compared_in, occurring, truth}
use Rattle.rz_rules.proofs.SubstitutionVariables.{raised}
use Rattle.rz_metatheory.specs.Scope.{scope_of}
use Rattle.rz_metatheory.specs.SmallOrders.{HasTopesOver}
use Rattle.rz_metatheory.proofs.Values.{plain_kid, weakened_point}
use Rattle.rz_metatheory.proofs.Places.{moved_tope}
use Rattle.rz_metatheory.proofs.Entries.{stands_behind}
use Rattle.rz_tope.specs.Occurrence.{raised_by}
use Rattle.rz_tope_proof.specs.Proving.{IsGiven}
use Rattle.rz_tope_normal.specs.Norm.{AreCubeTrees}
use Rattle.rz_tope_normal.specs.Placed.{IsAmong}
use Rattle.rz_tope_normal.specs.Read.{AreAmong, IsFine}
use Rattle.rz_tope_normal.proofs.Membership.{among_given}
use Rattle.rz_tope_normal.proofs.NormalPoints.{map_twice}

raised_index : (by index : ℕ) → raised (0 + 0) by index ≡ index + by
raised_index by index = grind (arith, nat_tests)

of_variable : (by index : ℕ) (cube : Option Tree) → coordinates_of_variable (index + by) cube ≡ map (raised_by by)
    (coordinates_of_variable index cube)
of_variable by index None = refl
of_variable by index (Some cube) = sym (map_twice (raised_by by) (λ path. coordinate.Of index path) (paths cube))

-- a tope that is read further in, behind cubes that are more
module _ (by : Depth) (old new : List Tree) (kept : (index : ℕ) → slice_get new (raised (0 + 0) (by Points) index) ≡ slice_get old index) where
  abbrev before : Binders
  before = record { cubes = old }

  abbrev after : Binders
  after = record { cubes = new }

  abbrev n : ℕ
  n = by Points

  deep : (s : _) (t : Tree) → weakened by t ≡ changed (raising none by) (total none (bound (plain s))) t
  deep s t = sym (plain_kid (raising none by) none s t)

  same_cube : (point : Tree) → cube_of after (weakened by point) ≡ cube_of before point
  same_cube point = (weakened_point by old new kept point).cube

  pub weakened_coordinates : (point : Tree) → coordinates after (weakened by point) ≡ map (raised_by n) (coordinates before point)
  weakened_coordinates (At PointVariable index name Nil) =
      ap (coordinates_of_variable (raised (0 + 0) n index)) (kept index)
      ∙ ap (λ (m : ℕ). coordinates_of_variable m (slice_get old index)) (raised_index n index)
      ∙ of_variable n index (slice_get old index)
  weakened_coordinates (At Zero number name Nil) = refl
  weakened_coordinates (At One number name Nil) = refl
  weakened_coordinates (At PointPair number name (And s (And u Nil))) =
      subst (λ t. coordinates after t ≡ map (raised_by n) (coordinates before s ++ coordinates before u))
      (λ i. At PointPair number name (And (deep sort.Point s i) (And (deep sort.Point u i) Nil)))
      ((λ i. weakened_coordinates s i ++ weakened_coordinates u i) ∙ sym (map-append (raised_by n) (coordinates before s) (coordinates before u)))
  weakened_coordinates (At PointLeft number name (And s Nil)) =
      subst (λ t. coordinates after t ≡ map (raised_by n) (take (left_width (cube_of before s)) (coordinates before s)))
      (λ i. At PointLeft number name (And (deep sort.Point s i) Nil))
      ((λ i. take (left_width (same_cube s i)) (weakened_coordinates s i)) ∙ take-map (raised_by n) (left_width (cube_of before s))
      (coordinates before s))
  weakened_coordinates (At PointRight number name (And s Nil)) =
      subst (λ t. coordinates after t ≡ map (raised_by n) (drop (left_width (cube_of before s)) (coordinates before s)))
      (λ i. At PointRight number name (And (deep sort.Point s i) Nil))
      ((λ i. drop (left_width (same_cube s i)) (weakened_coordinates s i)) ∙ drop-map (raised_by n) (left_width (cube_of before s))
      (coordinates before s))
  weakened_coordinates other = refl

  pub weakened_compared : (tope : Tree) → IsTopeOver before tope → compared after (weakened by tope) ≡ map (raised_by n) (compared before tope)
  weakened_compared (At Top number name Nil) over = refl
  weakened_compared (At Bottom number name Nil) over = refl
  weakened_compared (At Conjunction number name (And p (And q Nil))) over =
      subst (λ t. compared after t ≡ map (raised_by n) (compared before p ++ compared before q))
      (λ i. At Conjunction number name (And (deep sort.Tope p i) (And (deep sort.Tope q i) Nil)))
      ((λ i. weakened_compared p over.0 i ++ weakened_compared q over.1 i) ∙ sym (map-append (raised_by n) (compared before p) (compared before q)))
  weakened_compared (At Disjunction number name (And p (And q Nil))) over =
      subst (λ t. compared after t ≡ map (raised_by n) (compared before p ++ compared before q))
      (λ i. At Disjunction number name (And (deep sort.Tope p i) (And (deep sort.Tope q i) Nil)))
      ((λ i. weakened_compared p over.0 i ++ weakened_compared q over.1 i) ∙ sym (map-append (raised_by n) (compared before p) (compared before q)))
  weakened_compared (At EqualPoints number name (And cube (And s (And u Nil)))) over =
      subst (λ t. compared after t ≡ map (raised_by n) (coordinates before s ++ coordinates before u))
      (λ i. At EqualPoints number name (And (deep sort.Cube cube i) (And (deep sort.Point s i) (And (deep sort.Point u i) Nil))))
      ((λ i. weakened_coordinates s i ++ weakened_coordinates u i) ∙ sym (map-append (raised_by n) (coordinates before s) (coordinates before u)))
  weakened_compared (At AtMost number name (And s (And u Nil))) over =
      subst (λ t. compared after t ≡ map (raised_by n) (coordinates before s ++ coordinates before u))
      (λ i. At AtMost number name (And (deep sort.Point s i) (And (deep sort.Point u i) Nil)))
      ((λ i. weakened_coordinates s i ++ weakened_coordinates u i) ∙ sym (map-append (raised_by n) (coordinates before s) (coordinates before u)))
  weakened_compared other over = absurd over

  module _ (rank : Coord → ℕ) where
    abbrev outer_rank : Coord → ℕ
    outer_rank c = rank (raised_by n c)

    numbers : (point : Tree) → map rank (coordinates after (weakened by point)) ≡ map outer_rank (coordinates before point)
    numbers point = ap (map rank) (weakened_coordinates point) ∙ map_twice rank (raised_by n) (coordinates before point)

    pub weakened_truth : (tope : Tree) → IsTopeOver before tope → truth after rank (weakened by tope) ≡ truth before outer_rank tope
    weakened_truth (At Top number name Nil) over = refl
    weakened_truth (At Bottom number name Nil) over = refl
    weakened_truth (At Conjunction number name (And p (And q Nil))) over =
        subst (λ t. truth after rank t ≡ (truth before outer_rank p && truth before outer_rank q))
        (λ i. At Conjunction number name (And (deep sort.Tope p i) (And (deep sort.Tope q i) Nil)))
        (λ i. weakened_truth p over.0 i && weakened_truth q over.1 i)
    weakened_truth (At Disjunction number name (And p (And q Nil))) over =
        subst (λ t. truth after rank t ≡ (truth before outer_rank p || truth before outer_rank q))
        (λ i. At Disjunction number name (And (deep sort.Tope p i) (And (deep sort.Tope q i) Nil)))
        (λ i. weakened_truth p over.0 i || weakened_truth q over.1 i)
    weakened_truth (At EqualPoints number name (And cube (And s (And u Nil)))) over =
        subst (λ t. truth after rank t ≡ pointwise nat_eq (map outer_rank (coordinates before s)) (map outer_rank (coordinates before u)))
        (λ i. At EqualPoints number name (And (deep sort.Cube cube i) (And (deep sort.Point s i) (And (deep sort.Point u i) Nil))))
        (λ i. pointwise nat_eq (numbers s i) (numbers u i))
    weakened_truth (At AtMost number name (And s (And u Nil))) over =
        subst (λ t. truth after rank t ≡ nat_le (slice_index (map outer_rank (coordinates before s)) 0)
        (slice_index (map outer_rank (coordinates before u)) 0))
        (λ i. At AtMost number name (And (deep sort.Point s i) (And (deep sort.Point u i) Nil)))
        (λ i. nat_le (slice_index (numbers s i) 0) (slice_index (numbers u i) 0))
    weakened_truth other over = absurd over

-- ---- the tope of an entry

raised_nothing : (c : Coord) → raised_by 0 c ≡ c
raised_nothing coordinate.Zero = refl
raised_nothing coordinate.One = refl
raised_nothing (coordinate.Of index path) = let same : index + 0 ≡ index = omega arith in ap (λ (m : ℕ). coordinate.Of m path) same

raised_further : (by : ℕ) (c : Coord) → rules.raised (raised_by by c) ≡ raised_by (by + 1) c
raised_further by coordinate.Zero = refl
raised_further by coordinate.One = refl
raised_further by (coordinate.Of index path) = let same : (index + by) + 1 ≡ index + (by + 1) = omega arith in ap (λ (m : ℕ). coordinate.Of m path)
    same

no_further : (by : ℕ) (c : Coord) → raised_by (by + 0) c ≡ raised_by by c
no_further by c = let same : by + 0 ≡ by = omega arith in ap (λ (m : ℕ). raised_by m c) same

contains_map : {X Y : Type 0} (f : X → Y) (xs : List X) (x : X) → Contains xs x → Contains (map f xs) (f x)
contains_map f [] x at = absurd (omega (arith, at.1))
contains_map f (y ∷ xs) x (zero, lt, e) = (0, omega arith, ap f e)
contains_map f (y ∷ xs) x (suc k, lt, e) =
    let rest = contains_map f xs x (k, omega (arith, lt), e) in
    (suc rest.0, omega (arith, rest.1), rest.2)

stated_compared : (outer stated : Tree) (inner : List Entry) (c : Coord) → Contains (compared (binders_of outer) stated) c
    → Contains (compared_in (with_entries (with_entry outer (OfTope stated)) inner)) (raised_by (depth_of inner Points) c)
stated_compared outer stated [] c at =
    subst (Contains (compared_in outer ++ compared (binders_of outer) stated)) (sym (raised_nothing c))
    (Contains-append_right (compared_in outer) (compared (binders_of outer) stated) c at)
stated_compared outer stated (OfCube cube ∷ inner) c at =
    let whole = with_entries (with_entry outer (OfTope stated)) inner in
    subst (Contains (map rules.raised (compared_in whole))) (raised_further (depth_of inner Points) c)
    (contains_map rules.raised (compared_in whole) (raised_by (depth_of inner Points) c) (stated_compared outer stated inner c at))
stated_compared outer stated (OfTope tope ∷ inner) c at =
    let whole = with_entries (with_entry outer (OfTope stated)) inner in
    subst (Contains (compared_in whole ++ compared (binders_of whole) tope)) (sym (no_further (depth_of inner Points) c))
    (Contains-append_left (compared_in whole) (compared (binders_of whole) tope) (raised_by (depth_of inner Points) c)
    (stated_compared outer stated inner c at))
stated_compared outer stated (OfType type ∷ inner) c at =
    let whole = with_entries (with_entry outer (OfTope stated)) inner in
    subst (Contains (compared_in whole)) (sym (no_further (depth_of inner Points) c)) (stated_compared outer stated inner c at)

outer_topes : (outer : Tree) (inner : List Entry) → HasTopesOver (with_entries outer inner) → HasTopesOver outer
outer_topes outer [] h = h
outer_topes outer (OfCube cube ∷ inner) h = outer_topes outer inner h
outer_topes outer (OfTope tope ∷ inner) h = outer_topes outer inner h.0
outer_topes outer (OfType type ∷ inner) h = outer_topes outer inner h

module _ (outer stated : Tree) (inner : List Entry) where
  abbrev whole : Tree
  whole = with_entries (with_entry outer (OfTope stated)) inner

  behind : (index : ℕ) → slice_get (cubes_of whole) (raised (0 + 0) (depth_of inner Points) index) ≡ slice_get (cubes_of outer) index
  behind index = ap (slice_get (cubes_of whole)) (raised_index (depth_of inner Points) index) ∙
      (stands_behind (with_entry outer (OfTope stated)) inner).cubes index

  stated_over : HasTopesOver whole → IsTopeOver (binders_of outer) stated
  stated_over h = (outer_topes (with_entry outer (OfTope stated)) inner h).1

  pub stated_truth : (rank : Coord → ℕ) → HasTopesOver whole
      → truth (binders_of whole) rank (weakened (depth_of inner) stated) ≡ truth (binders_of outer) (λ c. rank (raised_by (depth_of inner Points) c))
      stated
  stated_truth rank h = weakened_truth (depth_of inner) (cubes_of outer) (cubes_of whole) behind rank stated (stated_over h)

  stated_fine : (tope : Tree) → HasTopesOver whole → AreCubeTrees (cubes_of outer) → IsFine (binders_of whole) (occurring whole tope)
      (weakened (depth_of inner) stated)
  stated_fine tope h trees = record {
    over = (moved_tope (raising none (depth_of inner)) none (scope_of outer) (scope_of whole) (λ index cube there. behind index ∙ there) trees stated
        (stated_over h)).over;
    among = subst (AreAmong (occurring whole tope)) (sym (weakened_compared (depth_of inner) (cubes_of outer) (cubes_of whole) behind stated
        (stated_over h)))
        (All-map (IsAmong (occurring whole tope)) (raised_by (depth_of inner Points)) (compared (binders_of outer) stated)
        (λ k d l. among_given whole tope (raised_by (depth_of inner Points) (get_or (compared (binders_of outer) stated) k d))
        (stated_compared outer stated inner (get_or (compared (binders_of outer) stated) k d)
        (Contains-get_or (compared (binders_of outer) stated) k d l))));
  }

outer_trees : (outer : Tree) (inner : List Entry) → AreCubeTrees (cubes_of (with_entries outer inner)) → AreCubeTrees (cubes_of outer)
outer_trees outer [] h = h
outer_trees outer (OfCube cube ∷ inner) h = outer_trees outer inner (λ index. h (suc index))
outer_trees outer (OfTope tope ∷ inner) h = outer_trees outer inner h
outer_trees outer (OfType type ∷ inner) h = outer_trees outer inner h

-- what a context gives is a tope over it, and what it compares occurs
pub given_fine : (context asked : Tree) (number : ℕ) (tope : Tree) → IsGiven context number tope → HasTopesOver context → AreCubeTrees
    (cubes_of context)
    → IsFine (binders_of context) (occurring context asked) tope
given_fine context asked number tope given h trees =
    let whole = with_entries (with_entry given.outer (OfTope given.stated)) given.inner in
    let fine = stated_fine given.outer given.stated given.inner asked (subst HasTopesOver given.context_is h)
    (outer_trees (with_entry given.outer (OfTope given.stated)) given.inner (subst (λ (t : Tree). AreCubeTrees (cubes_of t)) given.context_is
    trees)) in
    subst (λ (t : Tree). IsFine (binders_of context) (occurring context asked) t) (sym given.tope_is)
    (subst (λ (t : Tree). IsFine (binders_of t) (occurring t asked) (weakened (depth_of given.inner) given.stated)) (sym given.context_is) fine)
