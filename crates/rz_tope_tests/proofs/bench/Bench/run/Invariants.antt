use Rattle.std.proofs.Common.{◌≡◌, drop}
use Rattle.rz_tope_tests.specs.Bench.{AreConcluded, IsBench, said, said_after, trees}
use Rattle.rz_tope_tests.proofs.bench.Bench.run.Given as goal

abbrev pub invariant-loop-row : goal.invariant-loop-row
invariant-loop-row l = record {
  bench : IsBench l.self;
  trees_are : trees l.self ≡ trees l.initial.self;
  said_is : said_after (trees l.self) (said l.self) (drop l.row-index l.rows) ≡ said_after (trees l.initial.self) (said l.initial.self) l.rows;
  concluded : AreConcluded (trees l.self) (said l.self) (drop l.row-index l.rows);
}
