use Rattle.std.proofs.Common.{sym, ap, ◌∙◌, arith}
use Rattle.rz_rules.specs.Context.{OfCube, with_entry}
use Rattle.rz_rules.specs.Tree.{Tree, tree_of}
use Rattle.rz_pool.proofs.Nodes.{length-Grows}
use Rattle.rz_log.proofs.Worlds.{grows_trans, tree_grown}
use Rattle.rz_tope_query.specs.Sequent.{with_cubes}
use Rattle.rz_tope_query.proofs.Opening.{cubes_more, opened_self}
use Rattle.rz_tope_query.proofs.contexts.with_cubes.Goals as goal

pub loop-preserved : goal.loop-preserved
loop-preserved c =
    let loop = c.loop in
    let new = c.with_cube.new.w in
    let longer = c.in_ok-longer in
    let context = tree_of c.args.w.now.pool.nodes c.args.opened.0 in
    let cube = tree_of c.args.w.now.pool.nodes c.args.cube in
    let here = tree_of loop.w.pool.nodes loop.longer.0 in
    let there = tree_of loop.w.pool.nodes c.args.cube in
    let more = length-Grows loop.w.pool.nodes new.pool.nodes c.with_cube.ensures.grows.nodes in
    let live = loop.invariant.live in record {
      grows = grows_trans c.args.w.now loop.w new loop.invariant.grows c.with_cube.ensures.grows;
      opened = opened_self new (with_entry here (OfCube there)) longer.longer (record { live = longer.ensures.live; tree = longer.ensures.tree; says = longer.ensures.says });
      context = longer.ensures.tree
          ∙ (ap (λ (t : Tree). with_entry t (OfCube there)) loop.invariant.context
          ∙ (ap (λ (t : Tree). with_entry (with_cubes context cube loop.counter) (OfCube t)) loop.invariant.cube
          ∙ sym (cubes_more context cube loop.counter)));
      live = omega (live, more, arith);
      cube = tree_grown loop.w new c.with_cube.ensures.grows c.args.cube loop.invariant.live ∙ loop.invariant.cube;
    }
