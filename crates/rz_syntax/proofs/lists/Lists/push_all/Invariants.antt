use Rattle.std.proofs.Common.{◌≡◌, ◌<◌, ◌-◌, ◌++◌, length, drop}
use Rattle.rz_syntax.specs.Lists.{list_at, Grows}
use Rattle.rz_syntax.proofs.lists.Lists.push_all.Given as goal

abbrev pub invariant-loop-count : goal.invariant-loop-count
invariant-loop-count g l = record {
  within : l.list < length l.self;
  added : list_at l.self l.list ≡ drop (length l.items - l.count) l.items ++ list_at l.fn.self l.others;
  grows : Grows l.fn.self l.self;
}
