use Rattle.std.proofs.Common.{◌≡◌, List, Some, slice_get, sym, subst}
use Rattle.rz_rules.specs.declared.judgments.Line.{Line}
use Rattle.rz_rules.specs.Tree.{trees_in}
use Rattle.rz_rules.specs.Judgment.{statement}
use Rattle.rz_log.specs.Log.{statements_of}
use Rattle.rz_log.proofs.Worlds.{said_last}
use Rattle.rz_log.proofs.world.World.push.Goals as goal

pub returns-clause-says : goal.returns-clause-says
returns-clause-says c =
    let w = c.args.self.now in
    let line = c.args.line in
    let step = c.in_ok-step.step in
    subst (λ (lines : List Line). slice_get (statements_of w.pool.nodes lines) step ≡ Some (statement (trees_in w.pool.nodes) line.says))
    (sym c.in_ok-step.ensures.lines) (said_last w.pool.nodes w.log line step c.in_ok-step.ensures.step)
