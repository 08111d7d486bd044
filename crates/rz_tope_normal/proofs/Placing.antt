-- The points of places, one after the other.
use Rattle.std.proofs.Common.{◌≡◌, ℕ, ◌<◌, List, [], length, get_or, set, map, Some, sym, ap, subst, ◌∙◌}
use Rattle.std.specs.Prelude.{slice_get}
use Rattle.std.proofs.lemmas.Option.{slice_get-get_or}
use Rattle.std.proofs.Math.Seq.{get_or-set_same, get_or-set_other}
use Rattle.rz_rules.specs.declared.kinds.Kind.{Kind}
use Rattle.rz_rules.specs.declared.coordinates.Coord.{Coord}
use Rattle.rz_rules.specs.declared.nodes.Node.{Node}
use Rattle.rz_rules.specs.Tree.{At, Nil, trees_of, tree_of}
use Rattle.rz_pool.specs.Pool.{Grows}
use Rattle.rz_rules.specs.Coordinate.{point_of}
use Rattle.rz_tope_normal.proofs.Staying.{tree_stays, live_stays}

-- the point at a place is that of a coordinate
pub record PointIs (nodes : List Node) (points : List ℕ) (place : ℕ) (c : Coord) : Type 0 where
  pub live : get_or points place 0 < length nodes
  pub tree : tree_of nodes (get_or points place 0) ≡ point_of c

pub point_stays : (old new : List Node) (grows : Grows old new) (points : List ℕ) (place : ℕ) (c : Coord) → PointIs old points place c → PointIs new
    points place c
point_stays old new grows points place c is = record {
  live = live_stays old new grows (get_or points place 0) is.live;
  tree = tree_stays old new grows (get_or points place 0) is.live ∙ is.tree;
}

-- a node without kids
pub made_bare : (nodes : List Node) (kind : Kind) (kids : List ℕ) → kids ≡ [] → At kind 0 [] (trees_of (map (tree_of nodes) kids)) ≡ At kind 0 [] Nil
made_bare nodes kind kids e = ap (λ (ids : List ℕ). At kind 0 [] (trees_of (map (tree_of nodes) ids))) e

module _ (nodes : List Node) (points : List ℕ) (at id : ℕ) (c : Coord) (there : at < length points) (live : id < length nodes)
    (tree : tree_of nodes id ≡ point_of c) where
  pub point_here : PointIs nodes (set points at id) at c
  point_here =
      let is : get_or (set points at id) at 0 ≡ id = get_or-set_same points at id 0 there in
      record {
        live = subst (λ (p : ℕ). p < length nodes) (sym is) live;
        tree = ap (tree_of nodes) is ∙ tree;
      }

  pub point_there : (place : ℕ) (d : Coord) → (place ≡ at → ⊥) → PointIs nodes points place d → PointIs nodes (set points at id) place d
  point_there place d other old =
      let is : get_or (set points at id) place 0 ≡ get_or points place 0 = get_or-set_other points at place id 0 other in
      record {
        live = subst (λ (p : ℕ). p < length nodes) (sym is) old.live;
        tree = ap (tree_of nodes) is ∙ old.tree;
      }

pub same_item : {X : Type 0} (list : List X) (k : ℕ) (x c : X) → x ≡ get_or list k x → slice_get list k ≡ Some c → k < length list → x ≡ c
same_item {X = X} list k x c is e lt = is ∙ same (get_or list k x) c (sym (slice_get-get_or list k x lt) ∙ e) where
  same : (y z : X) → Some y ≡ Some z → y ≡ z
  same y z h = cc
