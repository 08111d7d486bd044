use Rattle.std.proofs.Common.{ℕ, List, [], ◌+◌, map, get_or, drop, sym, ap, ◌∙◌, add-one}
use Rattle.std.proofs.Math.Seq.{drop-cons}
use Rattle.rz_rules.specs.declared.kinds.Kind.TheVariants.{PointVariable}
use Rattle.rz_rules.specs.Tree.{Tree, At, trees_of, tree_of}
use Rattle.rz_pool.proofs.Nodes.{Grows-trans}
use Rattle.rz_rules.specs.Coordinate.{half, part_at}
use Rattle.rz_tope_normal.proofs.points.part_of.Goals as goal

pub loop-way-init : goal.loop-way-init
loop-way-init c = record {
  live = c.in_ok-point.ensures.within;
  tree = (λ i. part_at ((c.in_ok-point.ensures.tree
      ∙ ap (λ (kids : List ℕ). At PointVariable c.args.index [] (trees_of (map (tree_of c.args.pool.now.nodes) kids))) c.new.ensures) i)
      ((c.as_bytes-way-items.ensures.value ∙ c.as_str.ensures.value) i));
  grows = c.make_unnamed.ensures.grows;
}

pub loop-way-preserved : goal.loop-way-preserved
loop-way-preserved c =
    let items = c.as_bytes-way-items.result.now in
    let t = tree_of c.loop-way.pool.nodes c.loop-way.point in
    record {
      live = c.in_ok-point-2.ensures.within;
      tree = ap (λ (u : Tree). part_at u (drop (c.loop-way.way-index + 1) items)) c.in_ok-point-2.ensures.tree
          ∙ ap (λ (n : ℕ). part_at (half (get_or items c.loop-way.way-index 0) t) (drop n items)) (add-one c.loop-way.way-index)
          ∙ ap (part_at t) (sym (drop-cons items c.loop-way.way-index 0 c.loop-way-test.true))
          ∙ c.loop-way.invariant.tree;
      grows = Grows-trans c.args.pool.now.nodes c.loop-way.pool.nodes c.half.new.pool.nodes c.loop-way.invariant.grows c.half.ensures.grows;
    }
