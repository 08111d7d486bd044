use Rattle.std.proofs.Common.{◌≡◌, [], None}
use Rattle.rz_syntax.specs.Threads.{pending_ways, live_ways, IsSound, Keeps, AreEnded, costs}
use Rattle.rz_syntax.proofs.engine.Engine.settle.Given as goal

abbrev pub invariant-loop-thread : goal.invariant-loop-thread
invariant-loop-thread l = record {
  sound : IsSound l.self;
  keeps : Keeps l.ahead (live_ways l.fn.self) [] (pending_ways l.self) (live_ways l.self);
  ended : l.ahead ≡ None → AreEnded (live_ways l.self);
}

abbrev pub decreases-loop-thread : goal.decreases-loop-thread
decreases-loop-thread l = costs (pending_ways l.self)
