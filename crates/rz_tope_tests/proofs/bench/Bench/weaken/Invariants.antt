use Rattle.std.proofs.Common.{◌≡◌, ◌+◌, ◌++◌, List, length}
use Rattle.rz_rules.specs.Judgment.{Statement}
use Rattle.rz_tope_tests.specs.Bench.{IsBench, said, trees}
use Rattle.rz_tope_tests.proofs.bench.Bench.weaken.Given as goal

abbrev pub invariant-loop-row : goal.invariant-loop-row
invariant-loop-row l = record {
  bench : IsBench l.self;
  trees_are : trees l.self ≡ trees l.initial.self;
  more : List Statement;
  said_is : said l.self ≡ said l.initial.self ++ more;
  count : length (said l.self) ≡ length (said l.initial.self) + l.row-index;
}
