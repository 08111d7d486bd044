use Rattle.std.proofs.Common.{◌≡◌, ◌++◌, map, take}
use Rattle.std.specs.Fmt.{decimal}
use Rattle.rz_drv.specs.Words.{spaced}
use Rattle.rz_drv.proofs.encoding.add_numbers.Given as goal

-- the numbers so far stand behind what stood there
abbrev pub invariant-loop-number : goal.invariant-loop-number
invariant-loop-number l = l.bytes ≡ l.initial.bytes ++ spaced (map decimal (take l.number-index l.numbers))
