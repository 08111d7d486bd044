use Rattle.std.proofs.Common.{◌≡◌, subst}
use Rattle.std.specs.Prelude.{IfSome}
use Rattle.rz_rules.specs.declared.judgments.Judgment.TheVariants.{Holds}
use Rattle.rz_rules.specs.Tree.{tree_of}
use Rattle.rz_rules.specs.Structural.{holds}
use Rattle.rz_pool.proofs.Nodes.{KeepsTrees-Grows}
use Rattle.rz_log.specs.declared.world.World.{World}
use Rattle.rz_log.specs.World.{Says}
use Rattle.rz_log.proofs.Worlds.{grows_pool}
use Rattle.rz_tope_proof.specs.Claim.{tope_of}
use Rattle.rz_log.proofs.Saying.{found_says}
use Rattle.rz_solver.proofs.lines.find_claim.Goals as goal

pub returns-in_err-phi-clause-grows : goal.returns-in_err-phi-clause-grows
returns-in_err-phi-clause-grows c = grows_pool c.args.w.now c.tope.new.pool c.tope.ensures.grows c.tope.ensures.pool c.requires.sound

pub returns-clause-grows : goal.returns-clause-grows
returns-clause-grows c = grows_pool c.args.w.now c.tope.new.pool c.tope.ensures.grows c.tope.ensures.pool c.requires.sound

pub returns-clause-says : goal.returns-clause-says
returns-clause-says c =
    let w : World = record { pool = c.tope.new.pool; log = c.args.w.now.log } in
    let old = c.args.w.now.pool.nodes in
    let new = c.tope.new.pool.nodes in
    let context = KeepsTrees-Grows old new c.tope.ensures.grows c.args.context c.requires.context in
    let says : holds (tree_of new c.args.context) (tree_of new c.in_ok-phi.phi) ≡ holds (tree_of old c.args.context) (tope_of old c.args.claim) =
    λ i. holds (context i) (c.in_ok-phi.ensures.tree i) in
    subst (λ S. IfSome c.find-step.result (λ step. Says w step S)) says
    (found_says w (Holds c.args.context c.in_ok-phi.phi) c.find-step.result c.find-step.ensures)
