use Rattle.std.proofs.Common.{◌≡◌, ◌+◌, drop}
use Rattle.rz_tope_normal.specs.Placed.{position}
use Rattle.rz_tope_normal.proofs.places.position.Given as goal

-- it stands as far behind as it does in what is left
abbrev pub invariant-loop-position : goal.invariant-loop-position
invariant-loop-position l = position l.list l.coordinate ≡ l.position + position (drop l.position l.list) l.coordinate
