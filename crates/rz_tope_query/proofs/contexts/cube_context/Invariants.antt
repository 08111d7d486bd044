use Rattle.std.proofs.Common.{◌≡◌, drop}
use Rattle.rz_rules.specs.Tree.{blank, tree_of}
use Rattle.rz_log.specs.World.{Grows}
use Rattle.rz_tope_query.specs.Sequent.{cube_context}
use Rattle.rz_tope_query.specs.Parts.{IsOpened}
use Rattle.rz_tope_query.proofs.contexts.cube_context.Given as goal

-- the groups that are left are read as all are
abbrev pub invariant-loop-group : goal.invariant-loop-group
invariant-loop-group l = record {
  grows : Grows l.fn.w l.w;
  opened : IsOpened l.w (tree_of l.w.pool.nodes l.opened.0) l.opened;
  rest : cube_context l.forms (tree_of l.w.pool.nodes l.opened.0) (drop l.group-index l.groups) ≡ cube_context l.forms blank l.groups;
}
