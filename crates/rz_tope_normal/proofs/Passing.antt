-- A walk through a context, past one entry more.
use Rattle.std.proofs.Common.{◌≡◌, ℕ, ◌+◌, ◌<◌, true, ◌&&◌, List, [], ◌∷◌, ◌++◌, length, get_or, All, refl, sym, ap, subst, ◌∙◌, arith}
use Rattle.std.proofs.lemmas.List.{length_push}
use Rattle.std.proofs.lemmas.List.Elements.{All-contains, All-nil, All-push, Contains-push, Contains-append_left, Contains-get_or}
use Rattle.rz_rules.specs.declared.coordinates.Coord.{Coord}
use Rattle.rz_rules.specs.declared.coordinates.Coord.TheVariants as coordinate
use Rattle.rz_rules.specs.declared.kinds.Space.{Space}
use Rattle.rz_rules.specs.declared.kinds.Space.TheVariants.{Points, Terms}
use Rattle.rz_rules.specs.declared.nodes.Node.{Node}
use Rattle.rz_rules.specs.Tree.{Tree, tree_of}
use Rattle.rz_rules.specs.Cube.{binders_of}
use Rattle.rz_rules.specs.Substitution.{Depth, none, weakened}
use Rattle.rz_rules.specs.Context.{Entry, OfCube, OfTope, OfType, depth_of, with_entries, with_entry}
use Rattle.rz_rules.specs.Coordinate as rules
use Rattle.rz_rules.specs.Validity.{are_true, truth}
use Rattle.rz_rules.proofs.Contexts.{with_entries-append, depth_of-append}
use Rattle.rz_metatheory.specs.SmallOrders.{HasTopesOver}
use Rattle.rz_pool.specs.Counts as counts
use Rattle.rz_pool.specs.declared.counts.Counts.{Counts}
use Rattle.rz_pool.specs.Pool.{Grows}
use Rattle.rz_tope.specs.Occurrence.{raised_by}
use Rattle.rz_tope_proof.specs.Proving.{IsGiven}
use Rattle.rz_tope_normal.specs.declared.hypotheses.Hypothesis.{Hypothesis}
use Rattle.rz_tope_normal.specs.declared.hypotheses.Walk.{Walk}
use Rattle.rz_tope_normal.specs.Hypothesis.{AreGiven, AreTrueIn, IsGivenAt, IsWalk}
use Rattle.rz_tope_normal.proofs.Given.{stated_truth}
use Rattle.rz_tope_normal.proofs.Staying.{live_stays, tree_stays}

-- ---- growth

module _ (old new : List Node) (grows : Grows old new) (whole : Tree) where
  pub given_stays : (list : List Hypothesis) → AreGiven old whole list → AreGiven new whole list
  given_stays list given k d l =
      let is = given k d l in
      record {
        live = live_stays old new grows (get_or list k d).tope is.live;
        given = subst (λ (t : Tree). IsGiven whole (get_or list k d).number t) (sym (tree_stays old new grows (get_or list k d).tope is.live))
            is.given;
      }

  pub true_before : (rank : Coord → ℕ) (list : List Hypothesis) → AreGiven old whole list → AreTrueIn new whole rank list → AreTrueIn old whole rank
      list
  true_before rank list given are k d l =
      subst (λ (t : Tree). truth (binders_of whole) rank t ≡ true) (tree_stays old new grows (get_or list k d).tope (given k d l).live) (are k d l)

  pub walk_stays : (walk : Walk) → IsWalk old whole walk → IsWalk new whole walk
  walk_stays walk is =
      let same = tree_stays old new grows walk.at is.live in
      record {
        live = live_stays old new grows walk.at is.live;
        inner = is.inner;
        whole_is = is.whole_is ∙ ap (λ (t : Tree). with_entries t is.inner) (sym same);
        count = is.count;
        depth = is.depth;
        given = given_stays walk.list.items is.given;
        all = λ rank are left. is.all rank (true_before rank walk.list.items is.given are)
            (subst (λ (t : Tree). are_true (λ c. rank (raised_by (depth_of is.inner Points) c)) t ≡ true) same left);
      }

-- ---- one entry more

raised_inside : (by : ℕ) (c : Coord) → raised_by by (rules.raised c) ≡ raised_by (by + 1) c
raised_inside by coordinate.Zero = refl
raised_inside by coordinate.One = refl
raised_inside by (coordinate.Of index path) = let same : (index + 1) + by ≡ index + (by + 1) = omega arith in ap (λ (m : ℕ). coordinate.Of m path)
    same

deeper : (inner : List Entry) (entry : Entry) (before after : Counts) → depth_of inner ≡ counts.depth_of before
    → depth_of (entry ∷ []) Points + before.points ≡ after.points → depth_of (entry ∷ []) Terms + before.terms ≡ after.terms
    → depth_of (inner ++ entry ∷ []) ≡ counts.depth_of after
deeper inner entry before after e points terms = λ i space. at space i where
  at : (space : Space) → depth_of (inner ++ entry ∷ []) space ≡ counts.depth_of after space
  at Points =
      let is : depth_of inner Points ≡ before.points = ap (λ (d : Depth). d Points) e in
      omega (arith, depth_of-append inner (entry ∷ []) Points, is, points)
  at Terms =
      let is : depth_of inner Terms ≡ before.terms = ap (λ (d : Depth). d Terms) e in
      omega (arith, depth_of-append inner (entry ∷ []) Terms, is, terms)

points_of : (inner : List Entry) (entry : Entry) (more : ℕ) → depth_of (entry ∷ []) Points ≡ more → depth_of (inner ++ entry ∷ []) Points ≡ depth_of
    inner Points + more
points_of inner entry more e = omega (arith, depth_of-append inner (entry ∷ []) Points, e)

module _ (nodes : List Node) (whole : Tree) (walk : Walk) (is : IsWalk nodes whole walk) (before : ℕ) (live : before < length nodes) where
  entered : (entry : Entry) → tree_of nodes walk.at ≡ with_entry (tree_of nodes before) entry → whole ≡ with_entries (tree_of nodes before)
      (is.inner ++ entry ∷ [])
  entered entry e = is.whole_is ∙ ap (λ (t : Tree). with_entries t is.inner) e ∙ sym
      (with_entries-append (tree_of nodes before) is.inner (entry ∷ []))

  module _ (number : ℕ) (number_is : number ≡ walk.number + 1) (behind : Counts) where
    pub past_point : (cube : Tree) → tree_of nodes walk.at ≡ with_entry (tree_of nodes before) (OfCube cube)
        → behind.points ≡ walk.behind.points + 1 → behind.terms ≡ walk.behind.terms
        → IsWalk nodes whole (record { at = before; number = number; behind = behind; list = walk.list })
    past_point cube e points terms = record {
      live = live;
      inner = is.inner ++ OfCube cube ∷ [];
      whole_is = entered (OfCube cube) e;
      count = omega (arith, length_push is.inner (OfCube cube), is.count, number_is);
      depth = deeper is.inner (OfCube cube) walk.behind behind is.depth (omega (arith, points)) (omega (arith, terms));
      given = is.given;
      all = λ rank are left. is.all rank are
          (ap (are_true (λ c. rank (raised_by (depth_of is.inner Points) c))) e
          ∙ (λ i. are_true (λ c. rank (raised_inside (depth_of is.inner Points) c i)) (tree_of nodes before))
          ∙ ap (λ (m : ℕ). are_true (λ c. rank (raised_by m c)) (tree_of nodes before)) (sym (points_of is.inner (OfCube cube) 1 refl)) ∙ left);
    }

    pub past_term : (type : Tree) → tree_of nodes walk.at ≡ with_entry (tree_of nodes before) (OfType type)
        → behind.points ≡ walk.behind.points → behind.terms ≡ walk.behind.terms + 1
        → IsWalk nodes whole (record { at = before; number = number; behind = behind; list = walk.list })
    past_term type e points terms = record {
      live = live;
      inner = is.inner ++ OfType type ∷ [];
      whole_is = entered (OfType type) e;
      count = omega (arith, length_push is.inner (OfType type), is.count, number_is);
      depth = deeper is.inner (OfType type) walk.behind behind is.depth (omega (arith, points)) (omega (arith, terms));
      given = is.given;
      all = λ rank are left. is.all rank are
          (ap (are_true (λ c. rank (raised_by (depth_of is.inner Points) c))) e
          ∙ ap (λ (m : ℕ). are_true (λ c. rank (raised_by m c)) (tree_of nodes before)) (same_points (OfType type) refl) ∙ left);
    } where
      same_points : (entry : Entry) → depth_of (entry ∷ []) Points ≡ 0 → depth_of is.inner Points ≡ depth_of (is.inner ++ entry ∷ []) Points
      same_points entry none = omega (arith, points_of is.inner entry 0 none)

module _ (nodes : List Node) (whole : Tree) (walk after : Walk) (is : IsWalk nodes whole walk) (live : after.at < length nodes)
    (number_is : after.number ≡ walk.number + 1) (behind_is : after.behind ≡ walk.behind) (stated tope : ℕ) (tope_live : tope < length nodes)
    (e : tree_of nodes walk.at ≡ with_entry (tree_of nodes after.at) (OfTope (tree_of nodes stated)))
    (tope_is : tree_of nodes tope ≡ weakened (counts.depth_of walk.behind) (tree_of nodes stated)) (topes : HasTopesOver whole)
    (list_is : after.list.items ≡ walk.list.items ++ record { number = walk.number; tope = tope } ∷ []) where
  abbrev new_hypothesis : Hypothesis
  new_hypothesis = record { number = walk.number; tope = tope }

  new_given : IsGivenAt nodes whole new_hypothesis
  new_given = record {
    live = tope_live;
    given = record {
      outer = tree_of nodes after.at;
      stated = tree_of nodes stated;
      inner = is.inner;
      context_is = is.whole_is ∙ ap (λ (t : Tree). with_entries t is.inner) e;
      count = is.count;
      tope_is = tope_is ∙ ap (λ (d : Depth). weakened d (tree_of nodes stated)) (sym is.depth);
    };
  }

  new_truth : (rank : Coord → ℕ) → truth (binders_of whole) rank (tree_of nodes tope)
      ≡ truth (binders_of (tree_of nodes after.at)) (λ c. rank (raised_by (depth_of is.inner Points) c)) (tree_of nodes stated)
  new_truth rank =
      let whole_is = is.whole_is ∙ ap (λ (t : Tree). with_entries t is.inner) e in
      (λ i. truth (binders_of (whole_is i)) rank ((tope_is ∙ ap (λ (d : Depth). weakened d (tree_of nodes stated)) (sym is.depth)) i))
      ∙ stated_truth (tree_of nodes after.at) (tree_of nodes stated) is.inner rank (subst HasTopesOver whole_is topes)

  new_all : (rank : Coord → ℕ) → AreTrueIn nodes whole rank after.list.items
      → are_true (λ c. rank (raised_by (depth_of (is.inner ++ OfTope (tree_of nodes stated) ∷ []) Points) c)) (tree_of nodes after.at) ≡ true →
      are_true rank whole ≡ true
  new_all rank are left =
      let P : Hypothesis → Type 0 = λ h. truth (binders_of whole) rank (tree_of nodes h.tope) ≡ true in
      let list = walk.list.items in
      let longer = list ++ new_hypothesis ∷ [] in
      let here : All P longer = subst (All P) list_is are in
      let last : P new_hypothesis = All-contains P longer new_hypothesis here (Contains-push list new_hypothesis) in
      let front : All P list = λ k d l. All-contains P longer (get_or list k d) here
      (Contains-append_left list (new_hypothesis ∷ []) (get_or list k d) (Contains-get_or list k d l)) in
      let none : depth_of (is.inner ++ OfTope (tree_of nodes stated) ∷ []) Points ≡ depth_of is.inner Points =
      (let more = points_of is.inner (OfTope (tree_of nodes stated)) 0 refl in omega (arith, more)) in
      is.all rank front
      (ap (are_true (λ c. rank (raised_by (depth_of is.inner Points) c))) e
      ∙ (λ i. (ap (λ (m : ℕ). are_true (λ c. rank (raised_by m c)) (tree_of nodes after.at)) (sym none) ∙ left) i && (sym (new_truth rank) ∙ last) i))

  pub past_tope : IsWalk nodes whole after
  past_tope = record {
    live = live;
    inner = is.inner ++ OfTope (tree_of nodes stated) ∷ [];
    whole_is = is.whole_is ∙ ap (λ (t : Tree). with_entries t is.inner) e ∙ sym (with_entries-append (tree_of nodes after.at) is.inner
        (OfTope (tree_of nodes stated) ∷ []));
    count = omega (arith, length_push is.inner (OfTope (tree_of nodes stated)), is.count, number_is);
    depth = let p : after.behind.points ≡ walk.behind.points = ap (λ (k : Counts). k.points) behind_is in
        let t : after.behind.terms ≡ walk.behind.terms = ap (λ (k : Counts). k.terms) behind_is in
        deeper is.inner (OfTope (tree_of nodes stated)) walk.behind after.behind is.depth (omega (arith, p)) (omega (arith, t));
    given = subst (AreGiven nodes whole) (sym list_is) (All-push (IsGivenAt nodes whole) walk.list.items new_hypothesis is.given new_given);
    all = new_all;
  }

-- ---- the beginning

nothing_behind : counts.depth_of (record { points = 0; terms = 0 }) ≡ none
nothing_behind = λ i space. at space i where
  at : (space : Space) → counts.depth_of (record { points = 0; terms = 0 }) space ≡ none space
  at Points = refl
  at Terms = refl

raised_nothing : (c : Coord) → raised_by 0 c ≡ c
raised_nothing coordinate.Zero = refl
raised_nothing coordinate.One = refl
raised_nothing (coordinate.Of index path) = let same : index + 0 ≡ index = omega arith in ap (λ (m : ℕ). coordinate.Of m path) same

pub walk_start : (nodes : List Node) (context : ℕ) → context < length nodes → (walk : Walk) → walk.at ≡ context → walk.number ≡ 0
    → walk.behind ≡ record { points = 0; terms = 0 } → walk.list.items ≡ [] → IsWalk nodes (tree_of nodes context) walk
walk_start nodes context live walk at number behind list = record {
  live = subst (λ (id : ℕ). id < length nodes) (sym at) live;
  inner = [];
  whole_is = ap (tree_of nodes) (sym at);
  count = sym number;
  depth = sym (ap counts.depth_of behind ∙ nothing_behind);
  given = subst (AreGiven nodes (tree_of nodes context)) (sym list) (All-nil (IsGivenAt nodes (tree_of nodes context)));
  all = λ rank are left. (λ i. are_true (λ c. rank (sym (raised_nothing c) i)) (tree_of nodes (sym at i))) ∙ left;
}
