use Rattle.std.proofs.Common.{List, take, sym, subst}
use Rattle.rz_rules.specs.declared.nodes.Node.{Node}
use Rattle.rz_log.specs.Log.{IsSoundLog}
use Rattle.rz_log.proofs.Worlds.{sound_released}
use Rattle.rz_log.proofs.world.World.release.Goals as goal

pub returns-clause-sound : goal.returns-clause-sound
returns-clause-sound c sound =
    let w = c.args.self.now in
    let mark = c.args.mark in
    record {
      pool = c.release-2.ensures.pool;
      log = subst (λ (nodes : List Node). IsSoundLog nodes c.release.new.self) (sym c.release-2.ensures.nodes)
          (subst (IsSoundLog (take mark.nodes w.pool.nodes)) (sym c.release.ensures)
          (sound_released w.pool.nodes w.log mark.nodes mark.lines c.requires.nodes c.requires.below sound.log));
    }
