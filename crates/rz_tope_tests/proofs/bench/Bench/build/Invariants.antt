use Rattle.std.proofs.Common.{◌≡◌, drop, length}
use Rattle.rz_tope_tests.specs.Bench.{HaveKids, IsBench, said, trees, trees_after}
use Rattle.rz_tope_tests.proofs.bench.Bench.build.Given as goal

abbrev pub invariant-loop-row : goal.invariant-loop-row
invariant-loop-row l = record {
  bench : IsBench l.self;
  trees_are : trees_after (trees l.self) (drop l.row-index l.rows) ≡ trees_after (trees l.initial.self) l.rows;
  said_is : said l.self ≡ said l.initial.self;
  kids : HaveKids (length (trees l.self)) (drop l.row-index l.rows);
}
