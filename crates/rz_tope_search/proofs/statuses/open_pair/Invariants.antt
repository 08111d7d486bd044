use Rattle.std.proofs.Common.{◌≡◌, ◌<◌, length, false}
use Rattle.rz_tope_search.specs.Status.{decided_in}
use Rattle.rz_tope_search.proofs.statuses.open_pair.Given as goal

abbrev pub invariant-loop-kid : goal.invariant-loop-kid
invariant-loop-kid l = record {
  there : l.at < length l.parts;
  open_part : decided_in l.list l.at ≡ false;
}

abbrev pub decreases-loop-kid : goal.decreases-loop-kid
decreases-loop-kid l = l.at
