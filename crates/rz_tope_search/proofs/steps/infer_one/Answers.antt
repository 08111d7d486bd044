use Rattle.std.proofs.Common.{refl}
use Rattle.rz_tope_proof.specs.declared.proof.Reason.TheVariants as reason
use Rattle.rz_tope_proof.proofs.Proving.{by_one}
use Rattle.rz_tope_search.proofs.steps.infer_one.Goals as goal

pub returns-clause-shows : goal.returns-clause-shows
returns-clause-shows c at p tope is_claim says infers first =
    by_one at.nodes at.context c.args.proof.now c.infer.new.self c.in_ok-step.step c.args.claim (reason.One c.args.row c.args.premise) tope
    c.in_ok-step.ensures.number c.in_ok-step.ensures.added is_claim says at.assumed c.args.row c.args.premise p refl infers first
