-- What is claimed of a world.
use Rattle.std.specs.Prelude.{ℕ, List, map}
use Rattle.rz_rules.specs.File.{Claim, statement_at}
use Rattle.rz_log.specs.declared.world.World.{World}
use Rattle.rz_log.specs.World.{statements_in}
use Rattle.rz_export.specs.declared.claims.Claimed.{Claimed}

-- the steps that are claimed
abbrev pub steps_claimed : List Claimed → List ℕ
steps_claimed claims = map (λ claim. claim.step) claims

-- each name with what its step says
abbrev pub claims_in : World → List Claimed → List Claim
claims_in w claims = map (λ claim. record { name = claim.name; says = statement_at (statements_in w) claim.step }) claims
