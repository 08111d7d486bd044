use Rattle.std.proofs.Common.{◌≡◌, List, subst}
use Rattle.std.specs.Prelude.{IfSome}
use Rattle.rz_rules.specs.declared.kinds.Sort.TheVariants.{Context}
use Rattle.rz_rules.specs.Judgment.{Statement}
use Rattle.rz_rules.specs.Structural.{holds}
use Rattle.rz_rules.specs.Tree.{Tree, IsTree, tree_of}
use Rattle.rz_log.specs.World.{Says}
use Rattle.rz_tope_proof.specs.declared.proof.Inference.{Inference}
use Rattle.rz_tope_proof.specs.Claim.{IsClaim, tope_of}
use Rattle.rz_solver.specs.Writing.{context_under, inference_at, tope_said}
use Rattle.rz_solver.proofs.Jobs.{claim_here, statement_here}
use Rattle.rz_solver.proofs.writing.find_said.Goals as goal

pub find_claim-requires-clause-claim : goal.find_claim-requires-clause-claim
find_claim-requires-clause-claim c =
    let here = c.requires.job.0 in
    subst (λ (all : List Inference). (base : Tree) × IsTree Context base × IsClaim c.args.w.now.pool.nodes base (inference_at all c.args.i).claim) c.requires.job.1
    (claim_here here c.args.w.now c.args.place.now c.args.i c.requires.job.2)

pub returns-clause-said : goal.returns-clause-said
returns-clause-said c here same job =
    let w = c.args.w.now in
    let place = c.args.place.now in
    let says = subst (λ (all : List Inference). holds (tree_of w.pool.nodes place.context) (tope_of w.pool.nodes (inference_at all c.args.i).claim)
    ≡ holds (context_under here place.assumed.items) (tope_said here c.args.i)) same (statement_here here w place c.args.i job) in
    subst (λ (S : Statement). IfSome c.in_ok-found.found (λ step. Says c.find_claim.new.w step S)) says c.in_ok-found.ensures.says
