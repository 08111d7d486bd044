use Rattle.std.proofs.Common.{◌≡◌, ◌<◌, ◌++◌, length}
use Rattle.rz_syntax.specs.Lists.{list_at}
use Rattle.rz_syntax.proofs.lists.Lists.items.Given as goal

abbrev pub invariant-loop-item : goal.invariant-loop-item
invariant-loop-item g l = record {
  within : l.list < length l.self;
  all : list_at l.self l.fn.list ≡ l.items.items ++ list_at l.self l.list;
}

abbrev pub decreases-loop-item : goal.decreases-loop-item
decreases-loop-item g l = l.list
