use Rattle.std.proofs.Common.{◌≡◌, take}
use Rattle.rz_tope.specs.Occurrence.{added}
use Rattle.rz_tope.proofs.lists.add.Given as goal

abbrev pub invariant-loop-coordinate : goal.invariant-loop-coordinate
invariant-loop-coordinate l = l.list ≡ added l.initial.list (take l.coordinate-index l.items)
