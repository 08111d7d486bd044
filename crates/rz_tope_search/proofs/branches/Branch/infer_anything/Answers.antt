use Rattle.std.proofs.Common.{◌<◌, refl, sym, arith}
use Rattle.rz_tope_proof.specs.Claim.{tope_of}
use Rattle.rz_tope_proof.specs.Proving.{FromBottom}
use Rattle.rz_rules.specs.Tope.{bottom}
use Rattle.rz_tope_search.proofs.branches.Branch.infer_anything.Goals as goal

pub returns-clause-shows : goal.returns-clause-shows
returns-clause-shows c at are table is_claim =
    let places = c.args.places.now in
    let first : 0 < places.count = omega (arith, places.bounds.0) in
    let second : 1 < places.count = omega (arith, places.bounds.0) in
    c.in_ok-last.ensures.shows at bottom (tope_of at.nodes c.args.claim) is_claim refl FromBottom
    (c.in_ok-step.ensures.shows at are (table 0 1 c.in-Some-at.up first second (sym c.in-Some-at.ensures))
    (table 1 0 c.in-Some.down second first (sym c.in-Some.ensures)))
