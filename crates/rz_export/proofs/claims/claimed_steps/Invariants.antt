use Rattle.std.proofs.Common.{◌≡◌, take}
use Rattle.rz_export.specs.Claims.{steps_claimed}
use Rattle.rz_export.proofs.claims.claimed_steps.Given as goal

abbrev pub invariant-loop-claim : goal.invariant-loop-claim
invariant-loop-claim l = l.steps ≡ steps_claimed (take l.claim-index l.claims)
