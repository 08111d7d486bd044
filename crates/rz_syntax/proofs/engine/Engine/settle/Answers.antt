use Rattle.std.proofs.Common.{arith, ap, map, ◌∷◌, []}
use Rattle.rz_syntax.specs.Threads.{way_at, costs}
use Rattle.rz_syntax.proofs.Weaving.{are_in_popped, ways-popped, costs-append}
use Rattle.rz_syntax.proofs.engine.Engine.settle.Goals as goal

pub advance-requires-clause-sound : goal.advance-requires-clause-sound
advance-requires-clause-sound c = record {
  pending = (are_in_popped _ _ _ _ _ c.in-Some.ensures.items c.loop-thread.invariant.sound.pending).0;
  live = c.loop-thread.invariant.sound.live;
}

pub advance-requires-clause-within : goal.advance-requires-clause-within
advance-requires-clause-within c = (are_in_popped _ _ _ _ _ c.in-Some.ensures.items c.loop-thread.invariant.sound.pending).1

pub loop-thread-smaller : goal.loop-thread-smaller
loop-thread-smaller c =
    let parts = ap costs (ways-popped c.loop-thread.self.symbols c.loop-thread.self.steps c.loop-thread.self.pending.items c.pop.new.self.items c.in-Some.thread c.in-Some.ensures.items) in
    omega (arith, parts, costs-append (map (way_at c.loop-thread.self.symbols c.loop-thread.self.steps) c.pop.new.self.items) (way_at c.loop-thread.self.symbols c.loop-thread.self.steps c.in-Some.thread ∷ []), c.in_ok-advance.ensures.less)
