use Rattle.std.proofs.Common.{◌≡◌, ℕ, ◌+◌, ◌<◌, length, length-set, set, Some, inl, inr, refl, sym, subst, ◌∙◌, arith}
use Rattle.std.specs.Prelude.{slice_get}
use Rattle.std.proofs.lemmas.Bool.{cases_lt}
use Rattle.std.proofs.lemmas.Option.{slice_get_within}
use Rattle.rz_rules.specs.declared.coordinates.Coord.{Coord}
use Rattle.rz_rules.specs.declared.coordinates.Coord.TheVariants as coordinate
use Rattle.rz_rules.specs.declared.kinds.Kind.TheVariants as kind
use Rattle.rz_pool.proofs.Nodes.{Grows-trans}
use Rattle.rz_tope_normal.proofs.Staying.{tree_stays, live_stays}
use Rattle.rz_tope_normal.proofs.Placing.{PointIs, point_stays, point_here, point_there, made_bare, same_item}
use Rattle.rz_tope_normal.proofs.places.places.Goals as goal
use Rattle.rz_tope_normal.proofs.places.places.Goals.{In_ok-points-3}

pub loop-position-init : goal.loop-position-init
loop-position-init c =
    let old = c.args.pool.now.nodes in
    let one = c.make_unnamed.new.self.nodes in
    let two = c.make_unnamed-2.new.self.nodes in
    let three = c.make_unnamed-3.new.self.nodes in
    let first = c.in_ok-interval.ensures in
    let zero = c.in_ok-points.ensures in
    let last = c.in_ok-points-2.ensures in
    let late : _ = Grows-trans one two three zero.grows last.grows in
    record {
      many = refl;
      there = live_stays one three late c.in_ok-interval.interval first.within;
      interval = tree_stays one three late c.in_ok-interval.interval first.within ∙ first.tree ∙ made_bare old kind.CubeTwo c.new.result
          c.new.ensures;
      zero = record {
        live = live_stays two three last.grows c.in_ok-points.field-0 zero.within;
        tree = tree_stays two three last.grows c.in_ok-points.field-0 zero.within ∙ zero.tree ∙ made_bare one kind.Zero c.new-2.result
            c.new-2.ensures;
      };
      one = record { live = last.within; tree = last.tree ∙ made_bare two kind.One c.new-3.result c.new-3.ensures };
      each = λ k d lt. absurd (omega arith);
      grows = Grows-trans old two three (Grows-trans old one two first.grows zero.grows) last.grows;
    }

-- the new point and the old ones
each : (c : In_ok-points-3) (k : ℕ) (d : Coord) → k < c.loop-position.position + 1 → slice_get c.args.list.now k ≡ Some d
    → PointIs c.point_of.new.pool.nodes (set c.loop-position.points (c.loop-position.position + 2) c.in_ok-points-3.field-0) (k + 2) d
each c k d lt e =
    let new = c.point_of.new.pool.nodes in
    let points = c.loop-position.points in
    let at = c.loop-position.position + 2 in
    let id = c.in_ok-points-3.field-0 in
    let x = c.index-list-position.result in
    let made = c.in_ok-points-3.ensures in
    elim (cases_lt k c.loop-position.position) [
      | inl before ↦
          point_there new points at id x (omega (arith, c.requires, c.loop-position-test.true, c.loop-position.invariant.many)) made.within made.tree
          (k + 2) d (λ same. omega (arith, same))
          (point_stays c.loop-position.pool.nodes new made.grows points (k + 2) d (c.loop-position.invariant.each k d before e))
      | inr behind ↦
          let here : k ≡ c.loop-position.position = omega arith in
          let is : x ≡ d = same_item c.args.list.now c.loop-position.position x d c.index-list-position.is
          (subst (λ (n : ℕ). slice_get c.args.list.now n ≡ Some d) here e) c.loop-position-test.true in
          subst (λ (n : ℕ). PointIs new (set points at id) (n + 2) d) (sym here)
          (subst (λ (y : Coord). PointIs new (set points at id) at y) is
          (point_here new points at id x (omega (arith, c.requires, c.loop-position-test.true, c.loop-position.invariant.many)) made.within
          made.tree))
    ]

pub loop-position-preserved : goal.loop-position-preserved
loop-position-preserved c =
    let old = c.loop-position.pool.nodes in
    let new = c.point_of.new.pool.nodes in
    let points = c.loop-position.points in
    let at = c.loop-position.position + 2 in
    let id = c.in_ok-points-3.field-0 in
    let x = c.index-list-position.result in
    let made = c.in_ok-points-3.ensures in
    let inv = c.loop-position.invariant in
    let there : at < length points = omega (arith, c.requires, c.loop-position-test.true, inv.many) in
    record {
      many = length-set points at id ∙ inv.many;
      there = live_stays old new made.grows c.in_ok-interval.interval inv.there;
      interval = tree_stays old new made.grows c.in_ok-interval.interval inv.there ∙ inv.interval;
      zero = point_there new points at id x there made.within made.tree 0 coordinate.Zero (λ same. omega (arith, same))
          (point_stays old new made.grows points 0 coordinate.Zero inv.zero);
      one = point_there new points at id x there made.within made.tree 1 coordinate.One (λ same. omega (arith, same))
          (point_stays old new made.grows points 1 coordinate.One inv.one);
      each = each (goal.at.loop-position-preserved c).In_ok-points-3;
      grows = Grows-trans c.args.pool.now.nodes old new inv.grows made.grows;
    }

pub returns-clause-places : goal.returns-clause-places
returns-clause-places c =
    let inv = c.loop-position.invariant in
    record {
      count = refl;
      there = inv.there;
      interval = inv.interval;
      zero = record { live = inv.zero.live; tree = inv.zero.tree };
      one = record { live = inv.one.live; tree = inv.one.tree };
      each = λ k d e.
          let is = inv.each k d (omega (arith, slice_get_within c.args.list.now k d e, c.loop-position-test.false)) e in
          record { live = is.live; tree = is.tree };
    }
