use Rattle.std.proofs.Common.{refl}
use Rattle.rz_tope_proof.specs.declared.proof.Reason.TheVariants as reason
use Rattle.rz_tope_proof.proofs.Proving.{by_two}
use Rattle.rz_tope_search.proofs.steps.infer_two.Goals as goal

pub returns-clause-shows : goal.returns-clause-shows
returns-clause-shows c at p q tope is_claim says infers first second =
    by_two at.nodes at.context c.args.proof.now c.infer.new.self c.in_ok-step.step c.args.claim (reason.Two c.args.row c.args.first c.args.second) tope
    c.in_ok-step.ensures.number c.in_ok-step.ensures.added is_claim says at.assumed c.args.row c.args.first c.args.second p q refl infers first second
