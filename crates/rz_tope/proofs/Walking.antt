-- A walk through a context, entry by entry.
use Rattle.std.proofs.Common.{◌≡◌, ℕ, zero, suc, ◌+◌, ◌<◌, List, [], ◌∷◌, ◌++◌, length, drop, map, sym, ap, ◌∙◌, append_assoc, add-one, arith}
use Rattle.std.proofs.lemmas.List.{map-append}
use Rattle.rz_rules.specs.declared.coordinates.Coord.{Coord}
use Rattle.rz_rules.specs.declared.nodes.Node.{Node}
use Rattle.rz_rules.specs.Tree.{Tree, tree_of}
use Rattle.rz_rules.specs.Context.{OfCube, OfTope, OfType, with_entry}
use Rattle.rz_rules.specs.Cube.{binders_of, cubes_of}
use Rattle.rz_rules.specs.Validity.{compared, compared_in, occurring}
use Rattle.rz_cube.specs.Point.{binders_at}
use Rattle.rz_tope.specs.declared.occurrences.Walk.{Walk}
use Rattle.rz_tope.specs.Occurrence.{occurrences, raised_by}
use Rattle.rz_tope.specs.Walk.{IsWalk}
use Rattle.rz_tope.proofs.Adding.{occurrences-back, occurrences-twice}
use Rattle.rz_tope.proofs.Naming.{raised_none, raised_more}

-- the first item behind so many, and those behind it
drop_more : {A B : Type 0} (f : A → B) (n : ℕ) (xs : List A) (y : B) (ys : List B) → map f (drop n xs) ≡ y ∷ ys → (n < length xs) × (map f (drop (suc n) xs) ≡ ys)
drop_more f zero [] y ys e = absurd cc
drop_more f zero (x ∷ xs) y ys e =
    let rest : map f xs ≡ ys = cc in
    (omega arith, rest)
drop_more f (suc n) [] y ys e = absurd cc
drop_more f (suc n) (x ∷ xs) y ys e =
    let rest = drop_more f n xs y ys e in
    (omega (arith, rest.0), rest.1)

module _ (nodes : List Node) (entries : List ℕ) (whole : List Coord) (walk : Walk) (is : IsWalk nodes entries whole walk) (before : ℕ) (lower : before < walk.at) where
  -- past a cube entry
  pub IsWalk-point : (cube : Tree) → tree_of nodes walk.at ≡ with_entry (tree_of nodes before) (OfCube cube) → IsWalk nodes entries whole (record { at = before; behind = walk.behind + 1; list = walk.list })
  IsWalk-point cube tree =
      let more = drop_more (tree_of nodes) walk.behind entries cube (cubes_of (tree_of nodes before)) (is.cubes ∙ ap cubes_of tree) in
      record {
        there = omega (arith, lower, is.there);
        within = omega (arith, more.0);
        cubes = ap (λ n. map (tree_of nodes) (drop n entries)) (add-one walk.behind) ∙ more.1;
        once = is.once;
        all = ap (λ (xs : List Coord). occurrences (xs ++ walk.list)) (sym (raised_more walk.behind (compared_in (tree_of nodes before))) ∙ ap (map (raised_by walk.behind)) (sym (ap compared_in tree))) ∙ is.all;
      }

  -- past a term entry
  pub IsWalk-term : (type : Tree) → tree_of nodes walk.at ≡ with_entry (tree_of nodes before) (OfType type) → IsWalk nodes entries whole (record { at = before; behind = walk.behind; list = walk.list })
  IsWalk-term type tree = record {
    there = omega (arith, lower, is.there);
    within = is.within;
    cubes = is.cubes ∙ ap cubes_of tree;
    once = is.once;
    all = ap (λ (xs : List Coord). occurrences (map (raised_by walk.behind) xs ++ walk.list)) (sym (ap compared_in tree)) ∙ is.all;
  }

  -- past a tope entry, whose tope comes before what occurred so far
  pub IsWalk-tope : (tope : ℕ) → tree_of nodes walk.at ≡ with_entry (tree_of nodes before) (OfTope (tree_of nodes tope)) → (list : List Coord)
      → list ≡ occurrences (map (raised_by walk.behind) (compared (binders_at nodes (drop walk.behind entries)) (tree_of nodes tope)) ++ walk.list)
      → IsWalk nodes entries whole (record { at = before; behind = walk.behind; list = list })
  IsWalk-tope tope tree list list_is =
      let named = map (raised_by walk.behind) in
      let first = compared_in (tree_of nodes before) in
      let cubes = is.cubes ∙ ap cubes_of tree in
      let here = compared (binders_of (tree_of nodes before)) (tree_of nodes tope) in
      let cached : list ≡ occurrences (map (raised_by walk.behind) here ++ walk.list) =
      list_is ∙ ap (λ (cs : List Tree). occurrences (map (raised_by walk.behind) (compared (record { cubes = cs }) (tree_of nodes tope)) ++ walk.list)) cubes in
      record {
        there = omega (arith, lower, is.there);
        within = is.within;
        cubes = cubes;
        once = ap occurrences cached ∙ occurrences-twice (map (raised_by walk.behind) here ++ walk.list) ∙ sym cached;
        all = ap (λ (l : List Coord). occurrences (map (raised_by walk.behind) first ++ l)) cached
            ∙ occurrences-back (map (raised_by walk.behind) first) (map (raised_by walk.behind) here ++ walk.list)
            ∙ ap occurrences (sym (append_assoc (map (raised_by walk.behind) first) (map (raised_by walk.behind) here) walk.list)
            ∙ ap (λ (xs : List Coord). xs ++ walk.list) (sym (map-append (raised_by walk.behind) first here) ∙ ap (map (raised_by walk.behind)) (sym (ap compared_in tree))))
            ∙ is.all;
      }

-- where a walk begins
pub IsWalk-start : (nodes : List Node) (entries : List ℕ) (context tope : ℕ) → context < length nodes → map (tree_of nodes) entries ≡ cubes_of (tree_of nodes context) → (list : List Coord)
    → list ≡ occurrences (compared (binders_at nodes entries) (tree_of nodes tope))
    → IsWalk nodes entries (occurring (tree_of nodes context) (tree_of nodes tope)) (record { at = context; behind = 0; list = list })
IsWalk-start nodes entries context tope live cubes list list_is =
    let cached : list ≡ occurrences (compared (binders_of (tree_of nodes context)) (tree_of nodes tope)) =
    list_is ∙ ap (λ (cs : List Tree). occurrences (compared (record { cubes = cs }) (tree_of nodes tope))) cubes in
    record {
      there = live;
      within = omega arith;
      cubes = cubes;
      once = ap occurrences cached ∙ occurrences-twice (compared (binders_of (tree_of nodes context)) (tree_of nodes tope)) ∙ sym cached;
      all = ap (λ (xs : List Coord). occurrences (xs ++ list)) (raised_none (compared_in (tree_of nodes context)))
          ∙ ap (λ (l : List Coord). occurrences (compared_in (tree_of nodes context) ++ l)) cached
          ∙ occurrences-back (compared_in (tree_of nodes context)) (compared (binders_of (tree_of nodes context)) (tree_of nodes tope));
    }
