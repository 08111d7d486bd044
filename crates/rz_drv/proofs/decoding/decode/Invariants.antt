use Rattle.rz_drv.specs.Part.{items_of}
use Rattle.rz_drv.specs.Reading.{HasRead, left}
use Rattle.rz_drv.proofs.decoding.decode.Given as goal

-- the part has the items that were read
abbrev pub invariant-loop-part : goal.invariant-loop-part
invariant-loop-part l = HasRead l.bytes (items_of l.part) l.reader

abbrev pub decreases-loop-part : goal.decreases-loop-part
decreases-loop-part l = left l.reader
