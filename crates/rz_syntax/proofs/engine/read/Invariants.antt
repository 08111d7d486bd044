use Rattle.std.proofs.Common.{◌≡◌, ◌<◌, [], take, length}
use Rattle.rz_syntax.specs.Grammar.{kinds_of}
use Rattle.rz_syntax.specs.Threads.{live_ways, IsSound, Reaches}
use Rattle.rz_syntax.proofs.engine.read.Given as goal

abbrev pub invariant-loop-number : goal.invariant-loop-number
invariant-loop-number l = record {
  sound : IsSound l.engine;
  idle : l.engine.pending.items ≡ [];
  alive : 0 < length l.engine.live.items;
  reaches : Reaches l.fn.rule (kinds_of (take l.number l.tokens)) (live_ways l.engine);
}
