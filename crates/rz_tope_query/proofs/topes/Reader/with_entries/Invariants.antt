use Rattle.std.proofs.Common.{◌≡◌, drop}
use Rattle.rz_rules.specs.Tree.{tree_of}
use Rattle.rz_log.specs.World.{Grows}
use Rattle.rz_tope_query.specs.Sequent.{tope_context}
use Rattle.rz_tope_query.specs.Parts.{IsOpened, IsOver, tope_of}
use Rattle.rz_tope_query.proofs.topes.Reader.with_entries.Given as goal

-- the topes that are left are read as all are
abbrev pub invariant-loop-raw : goal.invariant-loop-raw
invariant-loop-raw l = record {
  grows : Grows l.fn.w l.w;
  opened : IsOpened l.w (tree_of l.w.pool.nodes l.longer.0) l.longer;
  over : IsOver l.w.pool.nodes (tree_of l.w.pool.nodes l.longer.0) l.self;
  rest : tope_context (tope_of l.fn.w.pool.nodes l.self) (tree_of l.w.pool.nodes l.longer.0) (drop l.raw-index l.raws)
      ≡ tope_context (tope_of l.fn.w.pool.nodes l.self) (tree_of l.fn.w.pool.nodes l.fn.opened.0) l.raws;
}
