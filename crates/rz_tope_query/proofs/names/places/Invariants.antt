use Rattle.std.proofs.Common.{◌≡◌, ◌+◌, length, take}
use Rattle.rz_tope_query.proofs.Naming.{IsTold}
use Rattle.rz_tope_query.proofs.names.places.Given as goal

-- the names so far are told, and so many follow
abbrev pub invariant-loop-name : goal.invariant-loop-name
invariant-loop-name l = record {
  left : l.behind + l.name-index ≡ length l.names;
  told : IsTold (take l.name-index l.names) l.behind l.places;
}
