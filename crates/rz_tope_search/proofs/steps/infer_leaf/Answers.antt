use Rattle.std.proofs.Common.{◌∷◌, refl}
use Rattle.rz_tope_proof.specs.declared.proof.Reason.TheVariants as reason
use Rattle.rz_tope_proof.proofs.Proving.{last_inference, by_assumption}
use Rattle.rz_tope_proof.proofs.Leading.{Contains-first}
use Rattle.rz_tope_search.proofs.steps.infer_leaf.Goals as goal

pub returns-clause-assumes : goal.returns-clause-assumes
returns-clause-assumes c at tope is_claim says =
    last_inference at.nodes at.context c.args.proof.now c.infer.new.self c.in_ok-leaf.leaf c.args.claim reason.Assumption tope
    c.in_ok-leaf.ensures.number c.in_ok-leaf.ensures.added is_claim says

pub returns-clause-shows : goal.returns-clause-shows
returns-clause-shows c at tope is_claim says =
    by_assumption at.nodes at.context c.args.proof.now c.infer.new.self c.in_ok-leaf.leaf c.args.claim reason.Assumption tope
    c.in_ok-leaf.ensures.number c.in_ok-leaf.ensures.added is_claim says (c.in_ok-leaf.leaf ∷ at.assumed) refl (Contains-first at.assumed c.in_ok-leaf.leaf)
