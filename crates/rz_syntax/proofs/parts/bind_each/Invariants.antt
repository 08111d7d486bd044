use Rattle.std.proofs.Common.{◌≡◌, ◌++◌, take}
use Rattle.rz_syntax.specs.Building.{bind_each}
use Rattle.rz_syntax.proofs.parts.bind_each.Given as goal

abbrev pub invariant-loop-pat : goal.invariant-loop-pat
invariant-loop-pat l = l.list ≡ l.fn.list ++ bind_each (take l.pat-index l.patterns) l.of l.tope
