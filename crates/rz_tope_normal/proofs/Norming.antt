-- What is known of points, while the pool and the proof grow, and of one point more.
use Rattle.std.proofs.Common.{◌≡◌, ℕ, ◌+◌, ◌<◌, Bool, true, false, cond, List, length, get_or, map, nat_eq, Option, Some, None, refl, sym, ap, subst, true≢false, ◌∙◌}
use Rattle.std.specs.Prelude.{IsSome, option_and_then}
use Rattle.std.specs.Cmp.{unsigned_Decides}
use Rattle.rz_rules.specs.declared.coordinates.Coord.{Coord}
use Rattle.rz_rules.specs.declared.coordinates.Coord.TheVariants as coordinate
use Rattle.rz_rules.specs.declared.kinds.Sort.TheVariants as sort
use Rattle.rz_rules.specs.declared.kinds.Kind.{Kind}
use Rattle.rz_rules.specs.declared.kinds.Kind.TheVariants as kind
use Rattle.rz_rules.specs.declared.nodes.Node.{Node}
use Rattle.rz_rules.specs.Tree.{Tree, Trees, At, Nil, And, IsLabelled, IsTree, tree_of}
use Rattle.rz_rules.specs.Cube.{Binders, binders_of, cubes_of, product, left_part, right_part}
use Rattle.rz_rules.specs.Tope.{cube_of, IsPointOf, left, pair, right}
use Rattle.rz_rules.specs.Coordinate.{coordinates}
use Rattle.rz_pool.specs.Pool.{Grows}
use Rattle.rz_cube.specs.declared.points.Points.{Points}
use Rattle.rz_cube.specs.declared.points.CachedPoint.{CachedPoint}
use Rattle.rz_cube.specs.Point.{binders_at}
use Rattle.rz_pool.specs.Cubes.{AreCubes, IsCubeId}
use Rattle.rz_cube.specs.Cached.{IsPoints, Caches, CachesKids, cached_of}
use Rattle.rz_cube.proofs.CachedPoints.{AreCubes-Grows, IsCubeId-Grows, IsPoints-Grows, Caches-Grows, same_entries, cached_is}
use Rattle.rz_metatheory.proofs.Values.{then_some, same_in, left_part_is, right_part_is, cube_of_is}
use Rattle.rz_tope_proof.specs.declared.proof.Inference.{Inference}
use Rattle.rz_tope_proof.specs.declared.places.Places.{Places}
use Rattle.rz_tope_proof.specs.Place.{point_at}
use Rattle.rz_tope_normal.specs.declared.norms.Norm.{Norm}
use Rattle.rz_tope_normal.specs.declared.norms.Norms.{Norms}
use Rattle.rz_tope_normal.specs.declared.settings.Setting.{Setting}
use Rattle.rz_tope_normal.specs.Later.{Later}
use Rattle.rz_tope_normal.specs.Normal.{normal}
use Rattle.rz_tope_normal.specs.Placed.{ArePlacesOf, IsPlaceOf}
use Rattle.rz_tope_normal.specs.Norm.{AreCubeTrees, AreNorms, AreOfCube, IsKnown, IsLeftHalf, IsNorm, IsNormed, IsNormWithin, IsPairOf, IsRightHalf, IsSetting, KnowsKids, norm_of}
use Rattle.rz_tope_normal.proofs.NormalPoints.{normal_cube, product_is}
use Rattle.rz_tope_normal.proofs.Staying.{Later-grows, equal_later, live_stays, tree_stays}

-- ---- growth

module _ (old : List Node) (before : List Inference) (new : List Node) (after : List Inference) (later : Later old before new after) (context : Tree)
  where
    pub norm_later : (id : ℕ) (norm : Norm) (cube : Tree) → id < length old → IsNorm old context before id norm cube → IsNorm new context after id norm
        cube
    norm_later id norm cube lt is = record {
      live = live_stays old new later.grows norm.form is.live;
      form = tree_stays old new later.grows norm.form is.live ∙ is.form ∙ ap normal (sym (tree_stays old new later.grows id lt));
      equation = equal_later old before new after later context cube id norm.form norm.equation lt is.live is.equation;
    }

    pub within_later : (id : ℕ) (norm : Norm) → id < length old → IsNormWithin old context before id norm → IsNormWithin new context after id norm
    within_later id norm lt is = record {
      live = live_stays old new later.grows norm.form is.live;
      is = λ cube over. norm_later id norm cube lt
          (is.is cube (subst (IsPointOf (binders_of context) cube) (tree_stays old new later.grows id lt) over));
    }

    -- what is known stays, also where more points are cached
    pub norms_cached : (entries : List ℕ) (norms : Norms) (points : Points) → AreNorms old context entries before norms → IsPoints new points
        → ((q : ℕ) → Caches old entries norms.points q → Caches new entries points q)
        → AreNorms new context entries after (record { points = points; table = norms.table })
    norms_cached entries norms points are fine kept = record {
      points = fine;
      each = λ id norm e.
          let is = are.each id norm e in
          record { live = live_stays old new later.grows id is.live; point = kept id is.point; norm = within_later id norm is.live is.norm };
    }

    pub norms_later : (entries : List ℕ) (norms : Norms) → AreCubes old entries → AreNorms old context entries before norms → AreNorms new context
        entries after norms
    norms_later entries norms cubes are = record {
      points = IsPoints-Grows old new later.grows norms.points are.points;
      each = λ id norm e.
          let is = are.each id norm e in
          record {
            live = live_stays old new later.grows id is.live;
            point = Caches-Grows old new later.grows entries norms.points id cubes is.point;
            norm = within_later id norm is.live is.norm;
          };
    }

module _ (old new : List Node) (grows : Grows old new) where
  place_stays : (places : Places) (place : ℕ) (c : Coord) → IsPlaceOf old places place c → IsPlaceOf new places place c
  place_stays places place c is = record {
    live = live_stays old new grows (point_at places place) is.live;
    tree = tree_stays old new grows (point_at places place) is.live ∙ is.tree;
  }

  pub places_stay : (places : Places) (list : List Coord) → ArePlacesOf old places list → ArePlacesOf new places list
  places_stay places list are = record {
    count = are.count;
    there = live_stays old new grows places.interval are.there;
    interval = tree_stays old new grows places.interval are.there ∙ are.interval;
    zero = place_stays places 0 coordinate.Zero are.zero;
    one = place_stays places 1 coordinate.One are.one;
    each = λ k c e. place_stays places (k + 2) c (are.each k c e);
  }

  pub setting_stays : (context : Tree) (list : List Coord) (setting : Setting) → IsSetting old context list setting → IsSetting new context list
      setting
  setting_stays context list setting is = record {
    live = live_stays old new grows setting.context is.live;
    context_is = tree_stays old new grows setting.context is.live ∙ is.context_is;
    cubes = AreCubes-Grows old new grows setting.entries.items is.cubes;
    trees = is.trees;
    entries = same_entries old new grows setting.entries.items is.cubes ∙ is.entries;
    places = places_stay setting.places list is.places;
    coordinates = is.coordinates;
  }

-- a setting's context by its id
pub setting_of : (nodes : List Node) (context : Tree) (list : List Coord) (setting : Setting) → IsSetting nodes context list setting
    → IsSetting nodes (tree_of nodes setting.context) list setting
setting_of nodes context list setting is = subst (λ (t : Tree). IsSetting nodes t list setting) (sym is.context_is) is

-- the kids of a known node are cached
pub known_cached : (nodes : List Node) (context : Tree) (entries : List ℕ) (all : List Inference) (norms : Norms) → AreNorms nodes context entries all
    norms
    → (id : ℕ) → IsKnown norms id → Caches nodes entries norms.points id
known_cached nodes context entries all norms are id known = by (norm_of norms id) refl known where
  by : (o : Option Norm) → norm_of norms id ≡ o → IsSome o → Caches nodes entries norms.points id
  by None e h = absurd (true≢false (sym h))
  by (Some norm) e h = (are.each id norm e).point

pub kids_cached : (nodes : List Node) (context : Tree) (entries : List ℕ) (all : List Inference) (norms : Norms) → AreNorms nodes context entries all
    norms
    → (id : ℕ) → KnowsKids nodes norms id → CachesKids nodes entries norms.points id
kids_cached nodes context entries all norms are id knows node at k d l = known_cached nodes context entries all norms are (get_or node.kids k d)
    (knows node at k d l)

-- ---- one point more

module _ (context : Tree) (entries : List ℕ) (all : List Inference) (nodes : List Node) (before after : Norms) (id : ℕ) (norm : Norm)
    (points_are : after.points ≡ before.points) (noted : (q : ℕ) → norm_of after q ≡ cond (nat_eq id q) (Some norm) (norm_of before q)) where
  pub known_here : IsKnown after id
  known_here = subst IsSome (sym (noted id ∙ ap (λ b. cond b (Some norm) (norm_of before id)) ((unsigned_Decides id id).1 refl))) refl

  pub known_still : (q : ℕ) → IsKnown before q → IsKnown after q
  known_still q known = by (nat_eq id q) refl where
    by : (b : Bool) → nat_eq id q ≡ b → IsKnown after q
    by true e = subst IsSome (sym (noted q ∙ ap (λ b. cond b (Some norm) (norm_of before q)) e)) refl
    by false e = subst IsSome (sym (noted q ∙ ap (λ b. cond b (Some norm) (norm_of before q)) e)) known

  pub norms_with : AreNorms nodes context entries all before → id < length nodes → Caches nodes entries before.points id → IsNormWithin nodes context
      all id norm
      → AreNorms nodes context entries all after
  norms_with are live caches within = record {
    points = subst (IsPoints nodes) (sym points_are) are.points;
    each = λ q other e. by q other (nat_eq id q) refl e;
  } where
    moved : (q : ℕ) → Caches nodes entries before.points q → Caches nodes entries after.points q
    moved q t = subst (λ (p : Points). Caches nodes entries p q) (sym points_are) t

    by : (q : ℕ) (other : Norm) (b : Bool) → nat_eq id q ≡ b → norm_of after q ≡ Some other → IsNormed nodes context entries all after q other
    by q other true e h =
        let here : id ≡ q = (unsigned_Decides id q).0 e in
        let is : Some norm ≡ Some other = sym (noted q ∙ ap (λ b. cond b (Some norm) (norm_of before q)) e) ∙ h in
        let same : norm ≡ other = cc in
        subst (λ (p : ℕ). IsNormed nodes context entries all after p other) here
        (subst (λ (n : Norm). IsNormed nodes context entries all after id n) same (record { live = live; point = moved id caches; norm = within }))
    by q other false e h =
        let old = are.each q other (sym (noted q ∙ ap (λ b. cond b (Some norm) (norm_of before q)) e) ∙ h) in
        record { live = old.live; point = moved q old.point; norm = old.norm }

-- ---- a point by its node

-- a point that is neither a pair nor a part is normal
pub plain_normal : (k : Kind) (number : ℕ) (name : List ℕ) (kids : Trees) → IsLabelled k number name
    → (k ≡ kind.PointPair → ⊥) → (k ≡ kind.PointLeft → ⊥) → (k ≡ kind.PointRight → ⊥) → normal (At k number name kids) ≡ At k number name kids
plain_normal kind.PointVariable number name Nil label a b c = λ i. At kind.PointVariable number (sym (label.unnamed refl) i) Nil
plain_normal kind.OnlyPoint number name Nil label a b c = λ i. At kind.OnlyPoint (sym (label.unnumbered refl) i) (sym (label.unnamed refl) i) Nil
plain_normal kind.Zero number name Nil label a b c = λ i. At kind.Zero (sym (label.unnumbered refl) i) (sym (label.unnamed refl) i) Nil
plain_normal kind.One number name Nil label a b c = λ i. At kind.One (sym (label.unnumbered refl) i) (sym (label.unnamed refl) i) Nil
plain_normal kind.PointPair number name (And s (And u Nil)) label a b c = absurd (a refl)
plain_normal kind.PointLeft number name (And s Nil) label a b c = absurd (b refl)
plain_normal kind.PointRight number name (And s Nil) label a b c = absurd (c refl)
plain_normal k number name kids label a b c = refl

module _ (old new : List Node) (grows : Grows old new) (context : Tree) (entries : List ℕ) (all : List Inference) (norms : Norms)
    (are : AreNorms old context entries all norms) (cubes : AreCubes old entries) (entries_are : map (tree_of old) entries ≡ cubes_of context)
    (trees : AreCubeTrees (cubes_of context)) where
  abbrev b : Binders
  b = binders_of context

  -- what is known of the cube of a point
  pub cached_as : (id : ℕ) → Caches old entries norms.points id → (cube : Option ℕ) →
      ((cached : CachedPoint) → cached_of norms.points id ≡ Some cached → cube ≡ cached.cube)
      → IsCubeId new (cube_of b (tree_of new id)) cube
  cached_as id caches cube is =
      let cached = IsCubeId-Grows old new grows (cube_of (binders_at old entries) (tree_of old id)) caches.0.cube caches.2.cube in
      let same : cube_of (binders_at old entries) (tree_of old id) ≡ cube_of b (tree_of new id) =
      λ i. cube_of (record { cubes = entries_are i }) (sym (tree_stays old new grows id caches.2.live) i) in
      subst (λ (o : Option Tree). IsCubeId new o cube) same
      (subst (λ (o : Option ℕ). IsCubeId new (cube_of (binders_at old entries) (tree_of old id)) o) (sym (is caches.0 caches.1)) cached)

  -- a point without a cube has whatever normal form
  pub no_cube : (id : ℕ) (norm : Norm) → norm.form < length new → cube_of b (tree_of new id) ≡ None → IsNormWithin new context all id norm
  no_cube id norm live none = record { live = live; is = λ cube over. absurd (some_none cube (sym over ∙ none)) } where
    some_none : (cube : Tree) → Some cube ≡ None → ⊥
    some_none cube e = cc

  pub with_cube : (after : List Inference) (id : ℕ) (norm : Norm) (cube : Tree) → cube_of b (tree_of new id) ≡ Some cube → IsNorm new context after id
      norm cube
      → IsNormWithin new context after id norm
  with_cube after id norm cube is h = record {
    live = h.live;
    is = λ other over. subst (λ (c : Tree). IsNorm new context after id norm c) (same_in cube other (sym is ∙ over)) h;
  }

  module _ (point cube : ℕ) (point_live : point < length old) (cube_live : cube < length new)
      (over : cube_of b (tree_of new point) ≡ Some (tree_of new cube)) where
    module _ (whole middle : ℕ) (norm : Norm) (known : norm_of norms whole ≡ Some norm) (middle_live : middle < length new) where
      abbrev normed : IsNormed old context entries all norms whole norm
      normed = are.each whole norm known

      known_at : (product_cube : Tree) → cube_of b (tree_of new whole) ≡ Some product_cube → IsNorm new context all whole norm product_cube
      known_at product_cube e = (within_later old all new all (Later-grows old new all grows) context whole norm normed.live normed.norm).is
          product_cube e

      pub left_half : tree_of old point ≡ left (tree_of old whole) → tree_of new middle ≡ left (tree_of old norm.form)
          → IsLeftHalf new context all (record { cube = cube; point = point; whole = whole; norm = norm; middle = middle })
      left_half point_is middle_is =
          let here : tree_of new point ≡ left (tree_of new whole) =
          tree_stays old new grows point point_live ∙ point_is ∙ ap left (sym (tree_stays old new grows whole normed.live)) in
          let there = then_some left_part (cube_of b (tree_of new whole)) (tree_of new cube) (ap (cube_of b) (sym here) ∙ over) in
          let part = left_part_is there.0 (tree_of new cube) there.2 in
          let tree : IsTree sort.Cube there.0 = cube_of_is (cubes_of context) trees (tree_of new whole) there.0 there.1 in
          let is : there.0 ≡ product (tree_of new cube) part.2 = part.3 ∙ product_is part.0 part.1 (tree_of new cube) part.2
          (subst (IsTree sort.Cube) part.3 tree) in
          let whole_over : cube_of b (tree_of new whole) ≡ Some (product (tree_of new cube) part.2) = there.1 ∙ ap Some is in
          record {
            cube_live = cube_live;
            point_live = live_stays old new grows point point_live;
            middle_live = middle_live;
            point = here;
            middle = middle_is ∙ ap left (sym (tree_stays old new grows norm.form normed.norm.live));
            other = part.2;
            over = whole_over;
            norm = known_at (product (tree_of new cube) part.2) whole_over;
          }

      pub right_half : tree_of old point ≡ right (tree_of old whole) → tree_of new middle ≡ right (tree_of old norm.form)
          → IsRightHalf new context all (record { cube = cube; point = point; whole = whole; norm = norm; middle = middle })
      right_half point_is middle_is =
          let here : tree_of new point ≡ right (tree_of new whole) =
          tree_stays old new grows point point_live ∙ point_is ∙ ap right (sym (tree_stays old new grows whole normed.live)) in
          let there = then_some right_part (cube_of b (tree_of new whole)) (tree_of new cube) (ap (cube_of b) (sym here) ∙ over) in
          let part = right_part_is there.0 (tree_of new cube) there.2 in
          let tree : IsTree sort.Cube there.0 = cube_of_is (cubes_of context) trees (tree_of new whole) there.0 there.1 in
          let is : there.0 ≡ product part.2 (tree_of new cube) = part.3 ∙ product_is part.0 part.1 part.2 (tree_of new cube)
          (subst (IsTree sort.Cube) part.3 tree) in
          let whole_over : cube_of b (tree_of new whole) ≡ Some (product part.2 (tree_of new cube)) = there.1 ∙ ap Some is in
          record {
            cube_live = cube_live;
            point_live = live_stays old new grows point point_live;
            middle_live = middle_live;
            point = here;
            middle = middle_is ∙ ap right (sym (tree_stays old new grows norm.form normed.norm.live));
            other = part.2;
            over = whole_over;
            norm = known_at (product part.2 (tree_of new cube)) whole_over;
          }

    -- one of two points of a pair
    module _ (s : ℕ) (norm : Norm) (known : norm_of norms s ≡ Some norm) (its : ℕ) (its_live : its < length new)
        (its_over : cube_of b (tree_of new s) ≡ Some (tree_of new its)) where
      part_norm : IsNorm new context all s norm (tree_of new its)
      part_norm =
          let normed = are.each s norm known in
          (within_later old all new all (Later-grows old new all grows) context s norm normed.live normed.norm).is (tree_of new its) its_over

      part_of_cube : AreOfCube new context (its, s, norm.form)
      part_of_cube = record {
        cube_live = its_live;
        first_live = live_stays old new grows s (are.each s norm known).live;
        second_live = part_norm.live;
        first = its_over;
        second = ap (cube_of b) part_norm.form ∙ normal_cube b (tree_of new s) (tree_of new its) its_over;
      }

    pub pair_of : (s u : ℕ) (one other : Norm) (form : ℕ) → norm_of norms s ≡ Some one → norm_of norms u ≡ Some other → form < length new
        → tree_of old point ≡ pair (tree_of old s) (tree_of old u) → tree_of new form ≡ pair (tree_of old one.form) (tree_of old other.form)
        → (l r : ℕ) → l < length new → r < length new → cube_of b (tree_of new s) ≡ Some (tree_of new l) → cube_of b (tree_of new u) ≡ Some
        (tree_of new r)
        → IsPairOf new context all (record { cube = cube; point = point; cubes = (l, r); points = (s, u); norms = (one, other); form = form })
    pair_of s u one other form known_one known_other form_live point_is form_is l r l_live r_live over_l over_r =
        let s_normed = are.each s one known_one in
        let u_normed = are.each u other known_other in
        let s_same = tree_stays old new grows s s_normed.live in
        let u_same = tree_stays old new grows u u_normed.live in
        let here : tree_of new point ≡ pair (tree_of new s) (tree_of new u) =
        tree_stays old new grows point point_live ∙ point_is ∙ (λ i. pair (sym s_same i) (sym u_same i)) in
        let cubes_are : cube_of b (tree_of new point) ≡ Some (product (tree_of new l) (tree_of new r)) =
        ap (cube_of b) here ∙ (λ i. option_and_then (λ x. option_and_then (λ y. Some (product x y)) (over_r i)) (over_l i)) in
        record {
          cube_live = cube_live;
          point_live = live_stays old new grows point point_live;
          form_live = form_live;
          cube = same_in (tree_of new cube) (product (tree_of new l) (tree_of new r)) (sym over ∙ cubes_are);
          point = here;
          form = form_is
              ∙ (λ i. pair (sym (tree_stays old new grows one.form s_normed.norm.live) i)
              (sym (tree_stays old new grows other.form u_normed.norm.live) i));
          first = part_of_cube s one known_one l l_live over_l;
          second = part_of_cube u other known_other r r_live over_r;
          first_norm = part_norm s one known_one l l_live over_l;
          second_norm = part_norm u other known_other r r_live over_r;
        }

-- ---- pairs

pub cube_none : (nodes : List Node) (cube : Option Tree) (cached : Option ℕ) → IsCubeId nodes cube cached → ((id : ℕ) → cached ≡ Some id → ⊥) → cube ≡
    None
cube_none nodes cube None is not = is.is
cube_none nodes cube (Some id) is not = absurd (not id refl)

pub pair_tree : (old new : List Node) (grows : Grows old new) (point s u : ℕ) → point < length old → s < length old → u < length old
    → tree_of old point ≡ pair (tree_of old s) (tree_of old u) → tree_of new point ≡ pair (tree_of new s) (tree_of new u)
pair_tree old new grows point s u lp ls lu e =
    let s_same = tree_stays old new grows s ls in
    let u_same = tree_stays old new grows u lu in
    tree_stays old new grows point lp ∙ e ∙ (λ i. pair (sym s_same i) (sym u_same i))

pub no_first_cube : (binders : Binders) (point s u : Tree) → point ≡ pair s u → cube_of binders s ≡ None → cube_of binders point ≡ None
no_first_cube binders point s u e none =
    ap (cube_of binders) e ∙ ap (option_and_then (λ x. option_and_then (λ y. Some (product x y)) (cube_of binders u))) none

pub no_second_cube : (binders : Binders) (point s u : Tree) → point ≡ pair s u → cube_of binders u ≡ None → cube_of binders point ≡ None
no_second_cube binders point s u e none = ap (cube_of binders) e ∙ by (cube_of binders s) where
  by : (o : Option Tree) → option_and_then (λ x. option_and_then (λ y. Some (product x y)) (cube_of binders u)) o ≡ None
  by None = refl
  by (Some x) = ap (option_and_then (λ y. Some (product x y))) none

-- the coordinates that are cached of a known point
pub cached_list : (nodes : List Node) (entries : List ℕ) (context : Tree) (points : Points) → map (tree_of nodes) entries ≡ cubes_of context
    → (id : ℕ) → Caches nodes entries points id → (cached : CachedPoint) → cached_of points id ≡ Some cached → cached.coordinates ≡ coordinates
    (binders_of context) (tree_of nodes id)
cached_list nodes entries context points e id caches cached at =
    (cached_is nodes entries points id caches cached at).list ∙ (λ i. coordinates (record { cubes = e i }) (tree_of nodes id))
