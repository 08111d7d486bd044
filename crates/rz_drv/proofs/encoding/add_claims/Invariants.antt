use Rattle.std.proofs.Common.{◌≡◌, ◌++◌, map, take}
use Rattle.std.specs.List.{concat}
use Rattle.rz_drv.specs.Part.{claim_item}
use Rattle.rz_drv.specs.Lines.{item_lines}
use Rattle.rz_drv.proofs.encoding.add_claims.Given as goal

-- the claims so far stand behind what stood there
abbrev pub invariant-loop-claim : goal.invariant-loop-claim
invariant-loop-claim l = l.bytes ≡ l.initial.bytes ++ concat (item_lines (map claim_item (take l.claim-index l.claims)))
