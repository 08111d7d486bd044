use Rattle.std.proofs.Common.{◌≡◌, ◌<◌, List, [], length, sym, ap, ◌∙◌, subst, arith}
use Rattle.rz_rules.specs.declared.coordinates.Coord.{Coord}
use Rattle.rz_rules.specs.declared.nodes.Node.{Node}
use Rattle.rz_rules.specs.Structural.{formed, holds}
use Rattle.rz_rules.specs.Tree.{Tree, tree_of}
use Rattle.rz_rules.specs.Validity.{occurring, Refutes}
use Rattle.rz_pool.specs.Pool as pool
use Rattle.rz_metatheory.specs.SmallOrders.{IsSequent}
use Rattle.rz_metatheory.proofs.Scoping.{scoped_sequent}
use Rattle.rz_log.specs.declared.world.World.{World}
use Rattle.rz_log.specs.World.{Says, context_at}
use Rattle.rz_log.proofs.Entailing.{no_is, silent_is, yes_is}
use Rattle.rz_log.proofs.Worlds.{grows_pool, says_grown, sound_pool}
use Rattle.rz_tope_proof.specs.Proving.{Proves}
use Rattle.rz_solver.specs.Answer.{IsAnswer}
use Rattle.rz_log.proofs.Saying.{back_again, context_kept, context_of_line}
use Rattle.rz_solver.proofs.solver.solve.Goals as goal

pub decide-requires-clause-context : goal.decide-requires-clause-context
decide-requires-clause-context c =
    let w = c.args.w.now in
    let line = context_of_line w c.args.at c.line.result.now (context_at w c.args.at) c.context-context.result c.requires.sound c.line.ensures.line c.requires.at c.context-context.ensures in
    subst (λ (ns : List Node). c.context-context.result < length ns) (sym c.occurring.ensures.nodes) line.0

pub decide-requires-clause-sequent : goal.decide-requires-clause-sequent
decide-requires-clause-sequent c =
    let w = c.args.w.now in
    let context = context_at w c.args.at in
    let tope = tree_of w.pool.nodes c.args.phi in
    let line = context_of_line w c.args.at c.line.result.now context c.context-context.result c.requires.sound c.line.ensures.line c.requires.at c.context-context.ensures in
    let scoped = c.scoping.ensures w c.args.at (formed context) c.requires.sound c.requires.at in
    let sequent : IsSequent context tope = scoped_sequent context tope (scoped.0, c.requires.over) in
    subst (λ (ns : List Node). IsSequent (tree_of ns c.context-context.result) (tree_of ns c.args.phi)) (sym c.occurring.ensures.nodes)
    (subst (λ (t : Tree). IsSequent t tope) (sym line.1) sequent)

pub decide-requires-clause-list : goal.decide-requires-clause-list
decide-requires-clause-list c =
    c.as_slice.ensures ∙ (c.in_ok-list.ensures.list
    ∙ ap (λ (ns : List Node). occurring (tree_of ns c.context-context.result) (tree_of ns c.args.phi)) (sym c.occurring.ensures.nodes))

pub returns-then-count-clause-entailed : goal.returns-then-count-clause-entailed
returns-then-count-clause-entailed c =
    let w = c.args.w.now in
    let line = context_of_line w c.args.at c.line.result.now (context_at w c.args.at) c.context-context.result c.requires.sound c.line.ensures.line c.requires.at c.context-context.ensures in
    let context = context_at w c.args.at in
    let tope = tree_of w.pool.nodes c.args.phi in
    silent_is w context tope c.len-count.result c.if-count.true
    (c.len-count.ensures ∙ ap (λ (l : List Coord). length l) (c.in_ok-list.ensures.list ∙ ap (λ (t : Tree). occurring t tope) line.1))

-- the nodes were the same, and then some were added
pub returns-in_err-answer-clause-grows : goal.returns-in_err-answer-clause-grows
returns-in_err-answer-clause-grows c =
    let grows = subst (λ (ns : List Node). pool.Grows ns c.decide.new.pool.nodes) c.occurring.ensures.nodes c.decide.ensures.grows in
    grows_pool c.args.w.now c.decide.new.pool grows c.decide.ensures.pool c.requires.sound

pub write-requires-clause-sound : goal.write-requires-clause-sound
write-requires-clause-sound c =
    let grows = subst (λ (ns : List Node). pool.Grows ns c.decide.new.pool.nodes) c.occurring.ensures.nodes c.decide.ensures.grows in
    sound_pool c.args.w.now c.decide.new.pool grows c.decide.ensures.pool c.requires.sound

pub write-requires-clause-at : goal.write-requires-clause-at
write-requires-clause-at c =
    let w = c.args.w.now in
    let grows = subst (λ (ns : List Node). pool.Grows ns c.decide.new.pool.nodes) c.occurring.ensures.nodes c.decide.ensures.grows in
    let later : World = record { pool = c.decide.new.pool; log = w.log } in
    let grown = grows_pool w c.decide.new.pool grows c.decide.ensures.pool c.requires.sound in
    subst (λ (t : Tree). Says later c.args.at (formed t)) (sym (context_kept w c.decide.new.pool c.args.at grows c.requires.sound))
    (says_grown w later c.requires.sound grown c.args.at (formed (context_at w c.args.at)) c.requires.at)

pub write-requires-clause-proves : goal.write-requires-clause-proves
write-requires-clause-proves c =
    let w = c.args.w.now in
    let old = c.occurring.new.pool.nodes in
    let new = c.decide.new.pool.nodes in
    let grows = subst (λ (ns : List Node). pool.Grows ns new) c.occurring.ensures.nodes c.decide.ensures.grows in
    let line = context_of_line w c.args.at c.line.result.now (context_at w c.args.at) c.context-context.result c.requires.sound c.line.ensures.line c.requires.at c.context-context.ensures in
    let answer = subst (IsAnswer new (tree_of old c.context-context.result) (tree_of old c.args.phi)) c.in-Proved.is c.in_ok-answer.ensures.answer in
    let context : tree_of old c.context-context.result ≡ context_at (record { pool = c.decide.new.pool; log = w.log }) c.args.at =
    ap (λ (ns : List Node). tree_of ns c.context-context.result) c.occurring.ensures.nodes
    ∙ (line.1 ∙ sym (context_kept w c.decide.new.pool c.args.at grows c.requires.sound)) in
    (tree_of old c.args.phi, subst (λ (t : Tree). Proves new t c.in-Proved.proof [] c.in-Proved.step (tree_of old c.args.phi)) context answer)

pub returns-in-Proved-clause-entailed : goal.returns-in-Proved-clause-entailed
returns-in-Proved-clause-entailed c =
    let w = c.args.w.now in
    let old = c.occurring.new.pool.nodes in
    let new = c.decide.new.pool.nodes in
    let tope = tree_of w.pool.nodes c.args.phi in
    let context = context_at w c.args.at in
    let grows = subst (λ (ns : List Node). pool.Grows ns new) c.occurring.ensures.nodes c.decide.ensures.grows in
    let kept = context_kept w c.decide.new.pool c.args.at grows c.requires.sound in
    let line = context_of_line w c.args.at c.line.result.now context c.context-context.result c.requires.sound c.line.ensures.line c.requires.at c.context-context.ensures in
    let answer = subst (IsAnswer new (tree_of old c.context-context.result) (tree_of old c.args.phi)) c.in-Proved.is c.in_ok-answer.ensures.answer in
    let here : tree_of old c.context-context.result ≡ context_at (record { pool = c.decide.new.pool; log = w.log }) c.args.at =
    ap (λ (ns : List Node). tree_of ns c.context-context.result) c.occurring.ensures.nodes ∙ (line.1 ∙ sym kept) in
    let said = c.in_ok-step-in-Proved.ensures.says (tree_of old c.args.phi)
    (subst (λ (t : Tree). Proves new t c.in-Proved.proof [] c.in-Proved.step (tree_of old c.args.phi)) here answer) in
    let says : Says c.write.new.w c.in_ok-step-in-Proved.step (holds context tope) =
    subst (Says c.write.new.w c.in_ok-step-in-Proved.step)
    (λ i. holds (kept i) (tree_of (c.occurring.ensures.nodes i) c.args.phi)) said in
    let few = c.if-count.false in
    let count : c.len-count.result ≡ length (occurring context tope) =
    c.len-count.ensures ∙ ap (λ (l : List Coord). length l)
    (c.in_ok-list.ensures.list ∙ ap (λ (t : Tree). occurring t tope) line.1) in
    yes_is c.write.new.w context tope c.in_ok-step-in-Proved.step (omega (few, count, arith))
    (c.validity.ensures.valid context tope (c.derivation.ensures c.write.new.w c.in_ok-step-in-Proved.step (holds context tope) c.write.ensures.grows.sound says))
    says

pub returns-clause-entailed : goal.returns-clause-entailed
returns-clause-entailed c =
    let w = c.args.w.now in
    let old = c.occurring.new.pool.nodes in
    let new = c.decide.new.pool.nodes in
    let tope = tree_of w.pool.nodes c.args.phi in
    let context = context_at w c.args.at in
    let line = context_of_line w c.args.at c.line.result.now context c.context-context.result c.requires.sound c.line.ensures.line c.requires.at c.context-context.ensures in
    let answer = subst (IsAnswer new (tree_of old c.context-context.result) (tree_of old c.args.phi)) c.in-Refuted.is c.in_ok-answer.ensures.answer in
    let few = c.if-count.false in
    let count : c.len-count.result ≡ length (occurring context tope) =
    c.len-count.ensures ∙ ap (λ (l : List Coord). length l)
    (c.in_ok-list.ensures.list ∙ ap (λ (t : Tree). occurring t tope) line.1) in
    no_is c.release.new.self context tope c.in-Refuted.ranks (omega (few, count, arith))
    (subst (λ (t : Tree). Refutes t tope c.in-Refuted.ranks) line.1
    (subst (λ (ns : List Node). Refutes (tree_of ns c.context-context.result) (tree_of ns c.args.phi) c.in-Refuted.ranks) c.occurring.ensures.nodes answer))

pub returns-clause-grows : goal.returns-clause-grows
returns-clause-grows c =
    let w = c.args.w.now in
    let grows = subst (λ (ns : List Node). pool.Grows ns c.decide.new.pool.nodes) c.occurring.ensures.nodes c.decide.ensures.grows in
    back_again w (record { pool = c.decide.new.pool; log = w.log }) c.release.new.self c.mark-mark.result grows
    (c.mark-mark.ensures.nodes ∙ ap (λ (ns : List Node). length ns) c.occurring.ensures.nodes) c.mark-mark.ensures.lines
    c.release.ensures.nodes c.release.ensures.lines (c.release.ensures.sound (sound_pool w c.decide.new.pool grows c.decide.ensures.pool c.requires.sound))
