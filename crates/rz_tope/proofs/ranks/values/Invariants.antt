use Rattle.std.proofs.Common.{◌≡◌, map, take}
use Rattle.rz_rules.specs.Validity.{rank_in}
use Rattle.rz_tope.proofs.ranks.values.Given as goal

abbrev pub invariant-loop-coordinate : goal.invariant-loop-coordinate
invariant-loop-coordinate l = l.values.items ≡ map (rank_in l.ranks) (take l.coordinate-index l.list)
