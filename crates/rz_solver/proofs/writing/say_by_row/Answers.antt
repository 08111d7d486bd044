use Rattle.std.proofs.Common.{◌≡◌, List, sym, subst}
use Rattle.rz_rules.specs.Tree.{tree_of}
use Rattle.rz_rules.specs.Derivation.{Follows}
use Rattle.rz_rules.specs.Judgment.{Statement}
use Rattle.rz_rules.specs.Structural.{holds}
use Rattle.rz_pool.proofs.Nodes.{KeepsTrees-Grows}
use Rattle.rz_log.specs.World.{Says, statements_in}
use Rattle.rz_log.proofs.Worlds.{grows_pool, sound_pool, statements_grown}
use Rattle.rz_tope_proof.specs.Claim.{tope_of}
use Rattle.rz_solver.proofs.writing.say_by_row.Goals as goal

pub returns-in_err-phi-clause-grows : goal.returns-in_err-phi-clause-grows
returns-in_err-phi-clause-grows c = grows_pool c.args.w.now c.tope.new.pool c.tope.ensures.grows c.tope.ensures.pool c.requires.sound

pub add_holds-requires-clause-sound : goal.add_holds-requires-clause-sound
add_holds-requires-clause-sound c = sound_pool c.args.w.now c.tope.new.pool c.tope.ensures.grows c.tope.ensures.pool c.requires.sound

pub add_holds-requires-clause-follows : goal.add_holds-requires-clause-follows
add_holds-requires-clause-follows c =
    let w = c.args.w.now in
    let old = w.pool.nodes in
    let new = c.tope.new.pool.nodes in
    let context = KeepsTrees-Grows old new c.tope.ensures.grows c.args.context c.requires.context in
    let says : holds (tree_of new c.args.context) (tree_of new c.in_ok-phi.phi) ≡ holds (tree_of old c.args.context) (tope_of old c.args.claim) =
    λ i. holds (context i) (c.in_ok-phi.ensures.tree i) in
    let said : statements_in (record { pool = c.tope.new.pool; log = w.log }) ≡ statements_in w =
    statements_grown old new w.log c.tope.ensures.grows c.requires.sound.log in
    subst (λ (S : Statement). Follows (statements_in (record { pool = c.tope.new.pool; log = w.log })) (record { row = c.args.row; number = 0; says = S; from = c.args.from.now })) (sym says)
    (subst (λ (all : List Statement). Follows all (record { row = c.args.row; number = 0; says = holds (tree_of old c.args.context) (tope_of old c.args.claim); from = c.args.from.now })) (sym said) c.requires.follows)

pub returns-clause-says : goal.returns-clause-says
returns-clause-says c =
    let old = c.args.w.now.pool.nodes in
    let new = c.tope.new.pool.nodes in
    let context = KeepsTrees-Grows old new c.tope.ensures.grows c.args.context c.requires.context in
    let says : holds (tree_of new c.args.context) (tree_of new c.in_ok-phi.phi) ≡ holds (tree_of old c.args.context) (tope_of old c.args.claim) =
    λ i. holds (context i) (c.in_ok-phi.ensures.tree i) in
    subst (Says c.add_holds.new.w c.in_ok-step.step) says c.in_ok-step.ensures.says
