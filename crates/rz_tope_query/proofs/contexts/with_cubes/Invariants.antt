use Rattle.std.proofs.Common.{◌≡◌, ◌<◌, length}
use Rattle.rz_rules.specs.Tree.{tree_of}
use Rattle.rz_log.specs.World.{Grows}
use Rattle.rz_tope_query.specs.Sequent.{with_cubes}
use Rattle.rz_tope_query.specs.Parts.{IsOpened}
use Rattle.rz_tope_query.proofs.contexts.with_cubes.Given as goal

abbrev pub invariant-loop : goal.invariant-loop
invariant-loop l = record {
  grows : Grows l.fn.w l.w;
  opened : IsOpened l.w (tree_of l.w.pool.nodes l.longer.0) l.longer;
  context : tree_of l.w.pool.nodes l.longer.0 ≡ with_cubes (tree_of l.fn.w.pool.nodes l.fn.opened.0) (tree_of l.fn.w.pool.nodes l.cube) l.counter;
  live : l.cube < length l.w.pool.nodes;
  cube : tree_of l.w.pool.nodes l.cube ≡ tree_of l.fn.w.pool.nodes l.cube;
}
