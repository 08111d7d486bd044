use Rattle.std.proofs.Common.{refl}
use Rattle.rz_tope_proof.specs.declared.proof.Reason.TheVariants as reason
use Rattle.rz_tope_proof.specs.Claim.{tope_of}
use Rattle.rz_tope_proof.proofs.Proving.{by_cases}
use Rattle.rz_tope_search.proofs.search.join.Goals as goal

pub returns-clause-shows : goal.returns-clause-shows
returns-clause-shows c at p q is_claim covers left_is right_is first second =
    by_cases at.nodes at.context c.args.proof.now c.infer.new.self c.in_ok-step.step c.args.claim
    (reason.Cases c.args.cover c.args.left c.args.right) (tope_of at.nodes c.args.claim)
    c.in_ok-step.ensures.number c.in_ok-step.ensures.added is_claim refl at.assumed c.args.cover c.args.left c.args.right p q refl
    left_is right_is covers first second
