use Rattle.std.proofs.Common.{length, All}
use Rattle.rz_rules.specs.Tree.{tree_of}
use Rattle.rz_rules.specs.Cube.{binders_of}
use Rattle.rz_cube.proofs.Caching.{IsCaching}
use Rattle.rz_tope_normal.specs.Later.{Later}
use Rattle.rz_tope_normal.specs.Reader.{IsReader, KeepsRead}
use Rattle.rz_tope_normal.proofs.Fine.{IsGood}
use Rattle.rz_tope_normal.proofs.Readers.{IsOldDone}
use Rattle.rz_tope_normal.proofs.reader.Reader.read.Given as goal

-- the ids that are left are still to be read
abbrev pub invariant-loop-id : goal.invariant-loop-id
invariant-loop-id l = record {
  caching : IsCaching l.fn.pool.nodes l.tope (IsOldDone l.fn.pool.nodes l.pool.nodes l.self) l.ids.items;
  good : All (λ id. IsGood (binders_of (tree_of l.fn.pool.nodes l.setting.context)) l.list (tree_of l.fn.pool.nodes id)) l.ids.items;
  reader : IsReader l.pool.nodes (tree_of l.fn.pool.nodes l.setting.context) l.list l.setting l.proof l.self;
  kept : KeepsRead l.fn.pool.nodes l.fn.self l.pool.nodes l.self;
  later : Later l.fn.pool.nodes l.fn.proof l.pool.nodes l.proof;
}

abbrev pub decreases-loop-id : goal.decreases-loop-id
decreases-loop-id l = length l.ids.items
