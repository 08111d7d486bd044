use Rattle.std.proofs.Common.{ap, ◌∙◌, arith, List, [], length}
use Rattle.rz_syntax.specs.declared.action.Step.{Step}
use Rattle.rz_syntax.specs.Lists.{list_at}
use Rattle.rz_syntax.proofs.Linking.{grows_not, grows_on, longer}
use Rattle.rz_syntax.proofs.Weaving.{way_at-grows, more_opened}
use Rattle.rz_syntax.proofs.engine.Engine.open.Goals as goal

pub loop-one-preserved : goal.loop-one-preserved
loop-one-preserved c = record {
  sound = c.in_ok-open_one.ensures.sound;
  symbols = grows_on _ _ _ c.loop-one.invariant.symbols c.in_ok-open_one.ensures.symbols;
  steps = c.in_ok-open_one.ensures.steps ∙ c.loop-one.invariant.steps;
  live = c.in_ok-open_one.ensures.live ∙ c.loop-one.invariant.live;
  pending = more_opened _ _ _ c.alternatives-one-items.result.now c.loop-one.one-index (record { ref_ptr = (0, 0); now = [] }) c.args.ahead _ _ c.loop-one-test.true c.loop-one.invariant.pending
      (ap (λ (k : List (List Step)). (list_at c.loop-one.self.symbols c.args.thread.symbols, list_at k c.args.thread.steps)) c.loop-one.invariant.steps ∙ way_at-grows _ _ _ _ c.args.thread c.loop-one.invariant.symbols (grows_not _) c.requires.within)
      c.in_ok-open_one.ensures.pending;
}

pub open_one-requires-clause-within : goal.open_one-requires-clause-within
open_one-requires-clause-within c = record { symbols_in = omega (arith, longer _ _ c.loop-one.invariant.symbols, c.requires.within.symbols_in); steps_in = omega (arith, ap length c.loop-one.invariant.steps, c.requires.within.steps_in) }
