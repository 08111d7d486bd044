use Rattle.std.proofs.Common.{refl}
use Rattle.rz_pool.proofs.Nodes.{Grows-same}
use Rattle.rz_tope_normal.proofs.Passing.{walk_start}
use Rattle.rz_tope_normal.proofs.hypotheses.hypotheses.Goals as goal

pub loop-last-init : goal.loop-last-init
loop-last-init c = record {
  walk = walk_start c.args.pool.now.nodes c.args.context c.requires.context
      (record { at = c.args.context; number = 0; behind = record { points = 0; terms = 0 }; list = c.new.result }) refl refl refl c.new.ensures.items;
  grows = Grows-same c.args.pool.now.nodes c.args.pool.now.nodes refl;
}
