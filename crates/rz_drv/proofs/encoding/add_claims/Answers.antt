use Rattle.std.proofs.Common.{sym, arith}
use Rattle.rz_drv.specs.Lines.{item_line}
use Rattle.rz_drv.specs.Part.{claim_item}
use Rattle.rz_drv.proofs.Writings.{written_more}
use Rattle.rz_drv.proofs.encoding.add_claims.Goals as goal

pub loop-claim-preserved : goal.loop-claim-preserved
loop-claim-preserved c =
    written_more claim_item item_line c.args.claims.now c.loop-claim.claim-index c.claim-item.result c.claim-item.result c.args.bytes.now c.loop-claim.bytes _ (omega arith) (sym c.claim-item.is) c.loop-claim.invariant c.in_ok-add_claim.ensures
