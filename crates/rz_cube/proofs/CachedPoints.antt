-- What is known of points by their ids.
use Rattle.std.proofs.Common.{◌≡◌, ℕ, suc, ◌<◌, Bool, true, false, cond, List, [], ◌∷◌, ◌++◌, inl, inr, ◌⊎◌, length, get_or, map, take, drop, nat_eq, All, Option, Some, None, refl, sym, ap, subst, ◌∙◌, arith}
use Rattle.std.specs.Prelude.{IsSome, slice_get, option_map, option_and_then}
use Rattle.std.specs.Cmp.{unsigned_Decides}
use Rattle.std.proofs.lemmas.List.{nil_from_length}
use Rattle.rz_rules.specs.declared.kinds.Kind.{Kind}
use Rattle.rz_rules.specs.declared.kinds.Kind.TheVariants.{PointVariable, OnlyPoint, Zero, One, PointPair, PointLeft, PointRight}
use Rattle.rz_rules.specs.declared.nodes.Node.{Node}
use Rattle.rz_rules.specs.Form.{form}
use Rattle.rz_rules.specs.Tree.{Tree, HasForm, sort_of, tree_of, tree_over, trees_in}
use Rattle.rz_rules.specs.Cube.{Binders, binders_of, cubes_of, cube_one, cube_two, product, left_part, right_part}
use Rattle.rz_rules.specs.Tope.{cube_of}
use Rattle.rz_rules.specs.declared.coordinates.Coord.TheVariants as coordinate
use Rattle.rz_rules.specs.Coordinate.{coordinates, coordinates_of_variable, left_width}
use Rattle.rz_pool.specs.Pool.{Grows}
use Rattle.rz_pool.proofs.Nodes.{slice_get-front, length-Grows, KeepsTrees-Grows}
use Rattle.rz_cube.specs.declared.points.Points.{Points}
use Rattle.rz_cube.specs.declared.points.CachedPoint.{CachedPoint}
use Rattle.rz_cube.specs.Point.{binders_at}
use Rattle.rz_pool.specs.Cubes.{IsCubeAt, AreCubes, IsCubeId}
use Rattle.rz_cube.specs.Cached.{cached_of, IsPoints, IsCached, Caches, CachesKids, CachesOver}
use Rattle.rz_cube.proofs.ListPlaces.{slice_get-map, slice_get_is}
use Rattle.rz_cube.proofs.NodeTrees.{tree_with, kids_as, tree_as}

-- ---- growth of the pool

module _ (ns ms : List Node) (grows : Grows ns ms) where
  pub same_tree : (id : ℕ) → id < length ns → tree_of ms id ≡ tree_of ns id
  same_tree id lt = KeepsTrees-Grows ns ms grows id lt

  pub same_trees : (ids : List ℕ) → All (λ id. id < length ns) ids → map (tree_of ms) ids ≡ map (tree_of ns) ids
  same_trees [] low = refl
  same_trees (id ∷ ids) low =
      let first : tree_of ms id ≡ tree_of ns id = same_tree id (low 0 0 (omega arith)) in
      let rest : map (tree_of ms) ids ≡ map (tree_of ns) ids = same_trees ids (λ k d lt. low (suc k) d (omega arith)) in
      cc

  pub same_entries : (ids : List ℕ) → AreCubes ns ids → map (tree_of ms) ids ≡ map (tree_of ns) ids
  same_entries ids cubes = same_trees ids (λ k d l. (cubes k d l).0)

  pub IsCubeAt-Grows : (id : ℕ) → IsCubeAt ns id → IsCubeAt ms id
  IsCubeAt-Grows id cube = (omega (arith, cube.0, length-Grows ns ms grows), ap sort_of (same_tree id cube.0) ∙ cube.1)

  pub AreCubes-Grows : (ids : List ℕ) → AreCubes ns ids → AreCubes ms ids
  AreCubes-Grows ids cubes k d lt = IsCubeAt-Grows (get_or ids k d) (cubes k d lt)

  pub IsCubeId-Grows : (cube : Option Tree) (cached : Option ℕ) → IsCubeId ns cube cached → IsCubeId ms cube cached
  IsCubeId-Grows cube None h = record { there = tt; is = h.is }
  IsCubeId-Grows cube (Some id) h = record { there = IsCubeAt-Grows id h.there; is = h.is ∙ ap (λ t. Some t) (sym (same_tree id h.there.0)) }

  pub IsPoints-Grows : (points : Points) → IsPoints ns points → IsPoints ms points
  IsPoints-Grows points known = record {
    there = omega (arith, known.there, length-Grows ns ms grows);
    two = same_tree points.interval known.there ∙ known.two;
  }

  -- what is said of a point stays
  pub at_point-Grows : {X : Type 0} (of : Binders → Tree → X) (entries : List ℕ) (id : ℕ) → AreCubes ns entries → id < length ns
      → of (binders_at ms entries) (tree_of ms id) ≡ of (binders_at ns entries) (tree_of ns id)
  at_point-Grows of entries id cubes lt = λ i. of (record { cubes = same_entries entries cubes i }) (same_tree id lt i)

  pub IsCached-Grows : (entries : List ℕ) (id : ℕ) (cached : CachedPoint) → AreCubes ns entries → IsCached ns entries id cached → IsCached ms entries id cached
  IsCached-Grows entries id cached are is = record {
    live = omega (arith, is.live, length-Grows ns ms grows);
    cube = subst (λ (c : Option Tree). IsCubeId ms c cached.cube) (sym (at_point-Grows cube_of entries id are is.live))
        (IsCubeId-Grows (cube_of (binders_at ns entries) (tree_of ns id)) cached.cube is.cube);
    list = is.list ∙ sym (at_point-Grows coordinates entries id are is.live);
  }

  pub Caches-Grows : (entries : List ℕ) (points : Points) (id : ℕ) → AreCubes ns entries → Caches ns entries points id → Caches ms entries points id
  Caches-Grows entries points id are cached = (cached.0, cached.1, IsCached-Grows entries id cached.0 are cached.2)

  -- an old id has its old node
  pub old_node : (id : ℕ) (node : Node) → id < length ns → slice_get ms id ≡ Some node → slice_get ns id ≡ Some node
  old_node id node lt at = slice_get-front ns grows.added id node lt (sym (ap (λ (ns : List Node). slice_get ns id) grows.is) ∙ at)

  pub CachesKids-Grows : (entries : List ℕ) (points : Points) (id : ℕ) → id < length ns → AreCubes ns entries → CachesKids ns entries points id → CachesKids ms entries points id
  CachesKids-Grows entries points id lt are cached node at k d l = Caches-Grows entries points (get_or node.kids k d) are (cached node (old_node id node lt at) k d l)

-- ---- cubes by their ids

-- the cube of an entry
pub entry_cached : (ns : List Node) (entries : List ℕ) (index : ℕ) → AreCubes ns entries → IsCubeId ns (slice_get (map (tree_of ns) entries) index) (slice_get entries index)
entry_cached ns entries index live = cached (slice_get entries index) refl where
  cached : (o : Option ℕ) → slice_get entries index ≡ o → IsCubeId ns (slice_get (map (tree_of ns) entries) index) o
  cached None e = record { there = tt; is = slice_get-map (tree_of ns) entries index ∙ ap (option_map (tree_of ns)) e }
  cached (Some id) e =
      let there = slice_get_is entries index id id e in
      record { there = subst (IsCubeAt ns) there.1 (live index id there.0); is = slice_get-map (tree_of ns) entries index ∙ ap (option_map (tree_of ns)) e }

-- ---- points by their nodes

-- what holds of the kids of a node that has one or two
pub all_one : (P : ℕ → Type 0) (a : ℕ) (ids : List ℕ) → ids ≡ a ∷ [] → All P ids → P a
all_one P a ids are h = subst (λ (xs : List ℕ). All P xs) are h 0 0 (omega arith)

pub all_two : (P : ℕ → Type 0) (a b : ℕ) (ids : List ℕ) → ids ≡ a ∷ b ∷ [] → All P ids → P a × P b
all_two P a b ids are h =
    let all = subst (λ (xs : List ℕ). All P xs) are h in
    (all 0 0 (omega arith), all 1 0 (omega arith))

-- a node of a kind without kids
pub childless : (ns : List Node) (id : ℕ) (n : Node) → tree_of ns id ≡ tree_over (trees_in ns) n → HasForm (trees_in ns) id n
    → (kind : Kind) → n.kind ≡ kind → length (form kind).kids ≡ 0 → tree_of ns id ≡ tree_with (tree_of ns) kind n.number n.name []
childless ns id n is fine kind k none = tree_as ns id n kind [] is k (nil_from_length n.kids (kids_as ns id n kind fine k ∙ none))

module _ (ns : List Node) (binders : Binders) (id : ℕ) (n : Node) (is : tree_of ns id ≡ tree_over (trees_in ns) n) (fine : HasForm (trees_in ns) id n) where
  pub variable_cube : n.kind ≡ PointVariable → cube_of binders (tree_of ns id) ≡ slice_get binders.cubes n.number
  variable_cube k = ap (cube_of binders) (childless ns id n is fine PointVariable k refl)

  pub variable_list : n.kind ≡ PointVariable → coordinates binders (tree_of ns id) ≡ coordinates_of_variable n.number (slice_get binders.cubes n.number)
  variable_list k = ap (coordinates binders) (childless ns id n is fine PointVariable k refl)

  pub only_cube : n.kind ≡ OnlyPoint → cube_of binders (tree_of ns id) ≡ Some cube_one
  only_cube k = ap (cube_of binders) (childless ns id n is fine OnlyPoint k refl)

  pub end_cube : (n.kind ≡ Zero) ⊎ (n.kind ≡ One) → cube_of binders (tree_of ns id) ≡ Some cube_two
  end_cube k = elim k [
    | inl zero ↦ ap (cube_of binders) (childless ns id n is fine Zero zero refl)
    | inr one ↦ ap (cube_of binders) (childless ns id n is fine One one refl)
  ]

  pub zero_list : n.kind ≡ Zero → coordinates binders (tree_of ns id) ≡ coordinate.Zero ∷ []
  zero_list k = ap (coordinates binders) (childless ns id n is fine Zero k refl)

  pub one_list : n.kind ≡ One → coordinates binders (tree_of ns id) ≡ coordinate.One ∷ []
  one_list k = ap (coordinates binders) (childless ns id n is fine One k refl)

  pub pair_cube : (s u : ℕ) → n.kind ≡ PointPair → n.kids ≡ s ∷ u ∷ [] → cube_of binders (tree_of ns id)
      ≡ option_and_then (λ l. option_and_then (λ r. Some (product l r)) (cube_of binders (tree_of ns u))) (cube_of binders (tree_of ns s))
  pair_cube s u k are = ap (cube_of binders) (tree_as ns id n PointPair (s ∷ u ∷ []) is k are)

  pub left_cube : (s : ℕ) → n.kind ≡ PointLeft → n.kids ≡ s ∷ [] → cube_of binders (tree_of ns id) ≡ option_and_then left_part (cube_of binders (tree_of ns s))
  left_cube s k are = ap (cube_of binders) (tree_as ns id n PointLeft (s ∷ []) is k are)

  pub right_cube : (s : ℕ) → n.kind ≡ PointRight → n.kids ≡ s ∷ [] → cube_of binders (tree_of ns id) ≡ option_and_then right_part (cube_of binders (tree_of ns s))
  right_cube s k are = ap (cube_of binders) (tree_as ns id n PointRight (s ∷ []) is k are)

  pub pair_list : (s u : ℕ) → n.kind ≡ PointPair → n.kids ≡ s ∷ u ∷ [] → coordinates binders (tree_of ns id) ≡ coordinates binders (tree_of ns s) ++ coordinates binders (tree_of ns u)
  pair_list s u k are = ap (coordinates binders) (tree_as ns id n PointPair (s ∷ u ∷ []) is k are)

  pub left_list : (s : ℕ) → n.kind ≡ PointLeft → n.kids ≡ s ∷ [] → coordinates binders (tree_of ns id)
      ≡ take (left_width (cube_of binders (tree_of ns s))) (coordinates binders (tree_of ns s))
  left_list s k are = ap (coordinates binders) (tree_as ns id n PointLeft (s ∷ []) is k are)

  pub right_list : (s : ℕ) → n.kind ≡ PointRight → n.kids ≡ s ∷ [] → coordinates binders (tree_of ns id)
      ≡ drop (left_width (cube_of binders (tree_of ns s))) (coordinates binders (tree_of ns s))
  right_list s k are = ap (coordinates binders) (tree_as ns id n PointRight (s ∷ []) is k are)

-- ---- one more is cached

module _ (ns : List Node) (entries : List ℕ) (id : ℕ) (cached : CachedPoint) (is : IsCached ns entries id cached)
    (before after : Points) (noted : (q : ℕ) → cached_of after q ≡ cond (nat_eq id q) (Some cached) (cached_of before q)) where
  pub caches_here : Caches ns entries after id
  caches_here = (cached, noted id ∙ ap (λ b. cond b (Some cached) (cached_of before id)) ((unsigned_Decides id id).1 refl), is)

  pub caches_others : (q : ℕ) → Caches ns entries before q → Caches ns entries after q
  caches_others q old = by (nat_eq id q) refl where
    by : (b : Bool) → nat_eq id q ≡ b → Caches ns entries after q
    by true e = subst (Caches ns entries after) ((unsigned_Decides id q).0 e) caches_here
    by false e = (old.0, noted q ∙ ap (λ b. cond b (Some cached) (cached_of before q)) e ∙ old.1, old.2)

-- what is known of an id is so
pub cached_is : (ns : List Node) (entries : List ℕ) (points : Points) (id : ℕ) → Caches ns entries points id → (cached : CachedPoint) → cached_of points id ≡ Some cached → IsCached ns entries id cached
cached_is ns entries points id caches cached e =
    let at = caches.1 in
    let same : caches.0 ≡ cached = cc in
    subst (IsCached ns entries id) same caches.2

pub is_cached : (ns : List Node) (entries : List ℕ) (points : Points) (id : ℕ) → Caches ns entries points id → IsSome (cached_of points id)
is_cached ns entries points id caches = rw caches.1 refl

-- the kids of a node are cached
module _ (ns : List Node) (entries : List ℕ) (points : Points) (id : ℕ) (n : Node) (kids : CachesKids ns entries points id) (at : slice_get ns id ≡ Some n) where
  pub kid_cached : (s : ℕ) → n.kids ≡ s ∷ [] → Caches ns entries points s
  kid_cached s are = all_one (Caches ns entries points) s n.kids are (kids n at)

  pub kids_cached : (s u : ℕ) → n.kids ≡ s ∷ u ∷ [] → Caches ns entries points s × Caches ns entries points u
  kids_cached s u are = all_two (Caches ns entries points) s u n.kids are (kids n at)

  -- and what is known of them is so
  pub kid_is : (s : ℕ) → n.kids ≡ s ∷ [] → (cached : CachedPoint) → cached_of points s ≡ Some cached → IsCached ns entries s cached
  kid_is s are cached e = cached_is ns entries points s (kid_cached s are) cached e

  pub first_is : (s u : ℕ) → n.kids ≡ s ∷ u ∷ [] → (cached : CachedPoint) → cached_of points s ≡ Some cached → IsCached ns entries s cached
  first_is s u are cached e = cached_is ns entries points s (kids_cached s u are).0 cached e

  pub second_is : (s u : ℕ) → n.kids ≡ s ∷ u ∷ [] → (cached : CachedPoint) → cached_of points u ≡ Some cached → IsCached ns entries u cached
  second_is s u are cached e = cached_is ns entries points u (kids_cached s u are).1 cached e

-- what is cached over the cubes of a context is so over the context
module _ (old new : List Node) (grows : Grows old new) (context point : ℕ) (live : point < length old) (entries : List ℕ) (are : AreCubes old entries)
    (trees : map (tree_of old) entries ≡ cubes_of (tree_of old context)) (same : List ℕ) (same_is : same ≡ entries) where
  over_context : {X : Type 0} (of : Binders → Tree → X) → of (binders_at new same) (tree_of new point) ≡ of (binders_of (tree_of old context)) (tree_of old point)
  over_context of =
      let cubes : map (tree_of new) same ≡ cubes_of (tree_of old context) = ap (map (tree_of new)) same_is ∙ same_entries old new grows entries are ∙ trees in
      λ i. of (record { cubes = cubes i }) (same_tree old new grows point live i)

  pub cached_over : (points : Points) → Caches new same points point → CachesOver new (tree_of old context) (tree_of old point) points point
  cached_over points caches = (
    caches.0,
    caches.1,
    record {
      cube = subst (λ (cube : Option Tree). IsCubeId new cube caches.0.cube) (over_context cube_of) caches.2.cube;
      list = caches.2.list ∙ over_context coordinates;
    },
  )
