use Rattle.std.proofs.Common.{Contains, take, sym, subst, ◌+◌, arith}
use Rattle.std.specs.List.{AllZip}
use Rattle.rz_export.specs.declared.claims.Claimed.{Claimed}
use Rattle.rz_export.specs.Moves.{IsMovedClaim}
use Rattle.rz_export.proofs.Pushes.{zip_more}
use Rattle.rz_export.proofs.moves.moved_claims.Goals as goal

pub place-requires-clause-there : goal.place-requires-clause-there
place-requires-clause-there c =
    subst (λ (claim : Claimed). Contains c.args.steps.now claim.step) (sym c.claim-item.is)
    (c.requires.there c.loop-claim.claim-index c.claim-item.result (omega arith))

pub loop-claim-preserved : goal.loop-claim-preserved
loop-claim-preserved c =
    let steps = c.args.steps.now in
    let claims = c.args.claims.now in
    let i = c.loop-claim.claim-index in
    subst (AllZip (IsMovedClaim steps) (take (i + 1) claims)) (sym c.in_ok-push.ensures.ok)
    (zip_more (IsMovedClaim steps) claims i c.claim-item.result c.loop-claim.moved (c.in_ok-copy.field-0, c.place.result) (omega arith) c.loop-claim.invariant
    (subst (λ (claim : Claimed). IsMovedClaim steps claim (c.in_ok-copy.field-0, c.place.result)) c.claim-item.is
    (record { name = c.in_ok-copy.ensures; step = c.place.ensures })))
