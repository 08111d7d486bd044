use Rattle.std.proofs.Common.{take}
use Rattle.std.specs.List.{AllZip}
use Rattle.rz_export.specs.Moves.{IsMovedClaim}
use Rattle.rz_export.proofs.moves.moved_claims.Given as goal

abbrev pub invariant-loop-claim : goal.invariant-loop-claim
invariant-loop-claim l = AllZip (IsMovedClaim l.steps) (take l.claim-index l.claims) l.moved
