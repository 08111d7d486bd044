use Rattle.std.proofs.Common.{◌≡◌, List, [], ◌∷◌, ◌++◌, refl, sym, ap, ◌∙◌, subst}
use Rattle.std.specs.Prelude.{IfSome}
use Rattle.rz_rules.specs.Structural.{holds}
use Rattle.rz_rules.specs.Tree.{Tree}
use Rattle.rz_log.specs.World.{Says, context_at}
use Rattle.rz_log.proofs.Worlds.{grows_same, grows_trans}
use Rattle.rz_tope_proof.specs.declared.proof.Inference.{Inference}
use Rattle.rz_tope_proof.specs.Proving.{Proves}
use Rattle.rz_solver.specs.declared.writing.Place.{Place}
use Rattle.rz_solver.specs.Writing.{Setting, IsSaid}
use Rattle.rz_solver.proofs.Proved.{proved, tope_is}
use Rattle.rz_log.proofs.Saying.{context_of_line}
use Rattle.rz_solver.proofs.Writes.{start_writing}
use Rattle.rz_solver.proofs.writing.write.Goals as goal

pub loop-init : goal.loop-init
loop-init c =
    let w = c.args.w.now in
    let here : Setting = record { nodes = w.pool.nodes; context = context_at w c.args.at; all = c.inferences-all.result.now } in
    let place : Place = record { context = c.context.result; formed = c.args.at; assumed = c.new.result } in
    let line = context_of_line w c.args.at c.line.result.now here.context c.context.result c.requires.sound c.line.ensures.line c.requires.at c.context.ensures in
    let places : c.push.new.self.items ≡ place ∷ [] = c.in_ok-push.ensures.items ∙ ap (λ (l : List Place). l ++ place ∷ []) c.new-places.ensures.items in (
      grows_same w c.requires.sound,
      start_writing here w c.push.new.self.items c.new-tasks.result.items place c.requires.sound refl line.0 line.1 c.requires.at
          c.new.ensures.items places c.new-tasks.ensures.items,
    )

pub go_on-requires : goal.go_on-requires
go_on-requires c =
    let w = c.args.w.now in
    let here : Setting = record { nodes = w.pool.nodes; context = context_at w c.args.at; all = c.inferences-all.result.now } in
    let proves = subst (λ (all : List Inference). Proves here.nodes here.context all [] c.args.goal c.requires.proves.0) (sym c.inferences-all.ensures) c.requires.proves.1 in
    (here, refl, c.loop.invariant.1, proved here proves)

pub returns-in-Some-clause-says : goal.returns-in-Some-clause-says
returns-in-Some-clause-says c t so =
    let w = c.args.w.now in
    let here : Setting = record { nodes = w.pool.nodes; context = context_at w c.args.at; all = c.inferences-all.result.now } in
    let proves : Proves here.nodes here.context here.all [] c.args.goal t =
    subst (λ (all : List Inference). Proves here.nodes here.context all [] c.args.goal t) (sym c.inferences-all.ensures) so in
    let said : IsSaid here c.go_on.new.w [] c.args.goal c.in-Some.step =
    subst (λ o. IfSome o (IsSaid here c.go_on.new.w [] c.args.goal)) c.in-Some.is
    (c.in_ok-step.ensures.said here refl c.loop.invariant.1 (proved here proves)) in
    subst (λ (x : Tree). Says c.go_on.new.w c.in-Some.step (holds here.context x)) (tope_is here proves) said

pub loop-preserved : goal.loop-preserved
loop-preserved c =
    let w = c.args.w.now in
    let here : Setting = record { nodes = w.pool.nodes; context = context_at w c.args.at; all = c.inferences-all.result.now } in
    let proves = subst (λ (all : List Inference). Proves here.nodes here.context all [] c.args.goal c.requires.proves.0) (sym c.inferences-all.ensures) c.requires.proves.1 in (
      grows_trans w c.loop.w c.go_on.new.w c.loop.invariant.0 c.go_on.ensures.grows,
      c.in_ok-step.ensures.writing here refl c.loop.invariant.1 (proved here proves),
    )
