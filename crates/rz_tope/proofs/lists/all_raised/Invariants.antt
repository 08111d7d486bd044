use Rattle.std.proofs.Common.{◌≡◌, map, take}
use Rattle.rz_tope.specs.Occurrence.{raised_by}
use Rattle.rz_tope.proofs.lists.all_raised.Given as goal

abbrev pub invariant-loop-coordinate : goal.invariant-loop-coordinate
invariant-loop-coordinate l = l.list ≡ map (raised_by l.by) (take l.coordinate-index l.items)
