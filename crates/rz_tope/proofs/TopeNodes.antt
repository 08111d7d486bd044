-- Topes by their nodes.
use Rattle.std.proofs.Common.{◌≡◌, ℕ, Result, Ok, Err, ◌⊎◌, inl, inr, Bool, true, ◌&&◌, List, [], ◌∷◌, ◌++◌, map, All, Option, Some, nat_eq, refl, sym, ap, subst, ◌∙◌, arith}
use Rattle.std.specs.Prelude.{IfOk, ◌||◌, nat_le, slice_get, slice_index}
use Rattle.std.specs.Cmp.Lexicographic.{pointwise}
use Rattle.rz_rules.specs.declared.kinds.Kind.TheVariants.{Top, Conjunction, Disjunction, EqualPoints, AtMost}
use Rattle.rz_rules.specs.declared.coordinates.Coord.{Coord}
use Rattle.rz_rules.specs.declared.nodes.Node.{Node}
use Rattle.rz_rules.specs.Tree.{Tree, HasForm, tree_of, tree_over, trees_in}
use Rattle.rz_rules.specs.Cube.{Binders}
use Rattle.rz_rules.specs.Coordinate.{coordinates}
use Rattle.rz_rules.specs.Validity.{RankList, rank_in, truth, compared}
use Rattle.rz_cube.specs.declared.points.Points.{Points}
use Rattle.rz_cube.specs.declared.points.CachedPoint.{CachedPoint}
use Rattle.rz_cube.specs.Point.{binders_at}
use Rattle.rz_cube.specs.Cached.{cached_of}
use Rattle.rz_cube.proofs.NodeTrees.{tree_as}
use Rattle.rz_cube.proofs.CachedPoints.{childless, all_two, cached_is}
use Rattle.rz_tope.specs.Occurrence.{occurrences}
use Rattle.rz_tope.proofs.Adding.{occurrences-both}
use Rattle.rz_tope.specs.Tope.{HasAnswer, KidsHaveAnswers, truth_in, list_of}

-- the last two kids of a node that has three
all_last : (P : ℕ → Type 0) (a b c : ℕ) (ids : List ℕ) → ids ≡ a ∷ b ∷ c ∷ [] → All P ids → P b × P c
all_last P a b c ids are h =
    let all = subst (λ (xs : List ℕ). All P xs) are h in
    (all 1 0 (omega arith), all 2 0 (omega arith))

-- what an answer fulfils besides
pub IfOk-map : {X E : Type 0} (P Q : X → Type 0) (r : Result X E) → ((x : X) → P x → Q x) → IfOk r P → IfOk r Q
IfOk-map P Q (Ok x) f h = f x h
IfOk-map P Q (Err e) f h = tt

-- the answer that a table has
pub table_is : {X : Type 0} (answer : Binders → Tree → X) (ns : List Node) (entries : List ℕ) (points : Points) (table : ℕ → Option X) (id : ℕ)
    → HasAnswer answer ns entries points table id → (x : X) → table id ≡ Some x → x ≡ answer (binders_at ns entries) (tree_of ns id)
table_is answer ns entries points table id has x e = let is = has.is in cc

-- the coordinates that are cached
pub coordinates_are : {X : Type 0} (answer : Binders → Tree → X) (ns : List Node) (entries : List ℕ) (points : Points) (table : ℕ → Option X) (id : ℕ)
    → HasAnswer answer ns entries points table id → (cached : CachedPoint) → cached_of points id ≡ Some cached → cached.coordinates ≡ coordinates (binders_at ns entries) (tree_of ns id)
coordinates_are answer ns entries points table id has cached e = (cached_is ns entries points id has.point cached e).list

module _ (ns : List Node) (entries : List ℕ) (points : Points) (id : ℕ) (n : Node) (is : tree_of ns id ≡ tree_over (trees_in ns) n) (fine : HasForm (trees_in ns) id n) (at : slice_get ns id ≡ Some n) where
  abbrev b : Binders
  b = binders_at ns entries

  module _ (ranks : RankList) (table : ℕ → Option Bool) (kids : KidsHaveAnswers (truth_in ranks) ns entries points table id) where
    pub top_true : n.kind ≡ Top → true ≡ truth b (rank_in ranks) (tree_of ns id)
    top_true k = sym (ap (truth_in ranks b) (childless ns id n is fine Top k refl))

    pub and_true : (p q : ℕ) → n.kind ≡ Conjunction → n.kids ≡ p ∷ q ∷ [] → (x y : Bool) → table p ≡ Some x → table q ≡ Some y
        → (x && y) ≡ truth b (rank_in ranks) (tree_of ns id)
    and_true p q k are x y ex ey =
        let both = all_two (HasAnswer (truth_in ranks) ns entries points table) p q n.kids are (kids n at) in
        let first = table_is (truth_in ranks) ns entries points table p both.0 x ex in
        let second = table_is (truth_in ranks) ns entries points table q both.1 y ey in
        (λ i. first i && second i) ∙ sym (ap (truth_in ranks b) (tree_as ns id n Conjunction (p ∷ q ∷ []) is k are))

    pub or_true : (p q : ℕ) → n.kind ≡ Disjunction → n.kids ≡ p ∷ q ∷ [] → (x y : Bool) → table p ≡ Some x → table q ≡ Some y
        → (x || y) ≡ truth b (rank_in ranks) (tree_of ns id)
    or_true p q k are x y ex ey =
        let both = all_two (HasAnswer (truth_in ranks) ns entries points table) p q n.kids are (kids n at) in
        let first = table_is (truth_in ranks) ns entries points table p both.0 x ex in
        let second = table_is (truth_in ranks) ns entries points table q both.1 y ey in
        (λ i. first i || second i) ∙ sym (ap (truth_in ranks b) (tree_as ns id n Disjunction (p ∷ q ∷ []) is k are))

    pub equal_true : (cube s u : ℕ) → n.kind ≡ EqualPoints → n.kids ≡ cube ∷ s ∷ u ∷ [] → (first second : CachedPoint) → cached_of points s ≡ Some first → cached_of points u ≡ Some second
        → pointwise nat_eq (map (rank_in ranks) first.coordinates) (map (rank_in ranks) second.coordinates) ≡ truth b (rank_in ranks) (tree_of ns id)
    equal_true cube s u k are first second es eu =
        let both = all_last (HasAnswer (truth_in ranks) ns entries points table) cube s u n.kids are (kids n at) in
        let left = coordinates_are (truth_in ranks) ns entries points table s both.0 first es in
        let right = coordinates_are (truth_in ranks) ns entries points table u both.1 second eu in
        (λ i. pointwise nat_eq (map (rank_in ranks) (left i)) (map (rank_in ranks) (right i)))
        ∙ sym (ap (truth_in ranks b) (tree_as ns id n EqualPoints (cube ∷ s ∷ u ∷ []) is k are))

    pub at_most_true : (s u : ℕ) → n.kind ≡ AtMost → n.kids ≡ s ∷ u ∷ [] → (first second : CachedPoint) → cached_of points s ≡ Some first → cached_of points u ≡ Some second
        → nat_le (slice_index (map (rank_in ranks) first.coordinates) 0) (slice_index (map (rank_in ranks) second.coordinates) 0) ≡ truth b (rank_in ranks) (tree_of ns id)
    at_most_true s u k are first second es eu =
        let both = all_two (HasAnswer (truth_in ranks) ns entries points table) s u n.kids are (kids n at) in
        let left = coordinates_are (truth_in ranks) ns entries points table s both.0 first es in
        let right = coordinates_are (truth_in ranks) ns entries points table u both.1 second eu in
        (λ i. nat_le (slice_index (map (rank_in ranks) (left i)) 0) (slice_index (map (rank_in ranks) (right i)) 0))
        ∙ sym (ap (truth_in ranks b) (tree_as ns id n AtMost (s ∷ u ∷ []) is k are))

  module _ (table : ℕ → Option (List Coord)) (kids : KidsHaveAnswers list_of ns entries points table id) where
    pub parts_list : (p q : ℕ) → (n.kind ≡ Conjunction) ⊎ (n.kind ≡ Disjunction) → n.kids ≡ p ∷ q ∷ [] → (x y : List Coord) → table p ≡ Some x → table q ≡ Some y
        → occurrences (x ++ y) ≡ occurrences (compared b (tree_of ns id))
    parts_list p q k are x y ex ey =
        let both = all_two (HasAnswer list_of ns entries points table) p q n.kids are (kids n at) in
        let first = table_is list_of ns entries points table p both.0 x ex in
        let second = table_is list_of ns entries points table q both.1 y ey in
        let whole : compared b (tree_of ns id) ≡ compared b (tree_of ns p) ++ compared b (tree_of ns q) = elim k [
          | inl and ↦ ap (compared b) (tree_as ns id n Conjunction (p ∷ q ∷ []) is and are)
          | inr or ↦ ap (compared b) (tree_as ns id n Disjunction (p ∷ q ∷ []) is or are)
        ] in
        (λ i. occurrences (first i ++ second i)) ∙ occurrences-both (compared b (tree_of ns p)) (compared b (tree_of ns q)) ∙ ap occurrences (sym whole)

    pub equal_list : (cube s u : ℕ) → n.kind ≡ EqualPoints → n.kids ≡ cube ∷ s ∷ u ∷ [] → (first second : CachedPoint) → cached_of points s ≡ Some first → cached_of points u ≡ Some second
        → occurrences (first.coordinates ++ second.coordinates) ≡ occurrences (compared b (tree_of ns id))
    equal_list cube s u k are first second es eu =
        let both = all_last (HasAnswer list_of ns entries points table) cube s u n.kids are (kids n at) in
        let left = coordinates_are list_of ns entries points table s both.0 first es in
        let right = coordinates_are list_of ns entries points table u both.1 second eu in
        (λ i. occurrences (left i ++ right i)) ∙ sym (ap (list_of b) (tree_as ns id n EqualPoints (cube ∷ s ∷ u ∷ []) is k are))

    pub at_most_list : (s u : ℕ) → n.kind ≡ AtMost → n.kids ≡ s ∷ u ∷ [] → (first second : CachedPoint) → cached_of points s ≡ Some first → cached_of points u ≡ Some second
        → occurrences (first.coordinates ++ second.coordinates) ≡ occurrences (compared b (tree_of ns id))
    at_most_list s u k are first second es eu =
        let both = all_two (HasAnswer list_of ns entries points table) s u n.kids are (kids n at) in
        let left = coordinates_are list_of ns entries points table s both.0 first es in
        let right = coordinates_are list_of ns entries points table u both.1 second eu in
        (λ i. occurrences (left i ++ right i)) ∙ sym (ap (list_of b) (tree_as ns id n AtMost (s ∷ u ∷ []) is k are))
