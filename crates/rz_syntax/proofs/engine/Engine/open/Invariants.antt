use Rattle.std.proofs.Common.{◌≡◌, ◌++◌, take, map}
use Rattle.rz_syntax.specs.Lists.{Grows}
use Rattle.rz_syntax.specs.Threads.{opened, way_at, pending_ways, live_ways, IsSound}
use Rattle.rz_syntax.proofs.engine.Engine.open.Given as goal

abbrev pub invariant-loop-one : goal.invariant-loop-one
invariant-loop-one l = record {
  sound : IsSound l.self;
  symbols : Grows l.fn.self.symbols l.self.symbols;
  steps : l.self.steps ≡ l.fn.self.steps;
  live : live_ways l.self ≡ live_ways l.fn.self;
  pending : pending_ways l.self ≡ pending_ways l.fn.self ++ opened (map (λ one. one.now) (take l.one-index l.one-items)) l.ahead (way_at l.fn.self.symbols l.fn.self.steps l.thread);
}
