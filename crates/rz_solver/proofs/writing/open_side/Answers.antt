use Rattle.std.proofs.Common.{◌≡◌, ℕ, List, ◌∷◌, sym, ap, ◌∙◌, subst}
use Rattle.rz_rules.specs.declared.kinds.Sort.TheVariants.{Context}
use Rattle.rz_rules.specs.Tree.{Tree, IsTree, tree_of}
use Rattle.rz_rules.specs.Context.{OfTope, with_entry}
use Rattle.rz_rules.specs.Cube.{binders_of}
use Rattle.rz_rules.specs.Structural.{formed}
use Rattle.rz_rules.specs.Tope.{IsTopeOver}
use Rattle.rz_pool.proofs.Nodes.{KeepsTrees-Grows}
use Rattle.rz_log.specs.declared.world.World.{World}
use Rattle.rz_log.specs.World.{Grows, Says}
use Rattle.rz_log.proofs.Worlds.{grows_pool, says_grown, sound_pool}
use Rattle.rz_tope_proof.specs.declared.proof.Inference.{Inference}
use Rattle.rz_tope_proof.specs.Claim.{IsClaim, tope_of}
use Rattle.rz_solver.specs.Writing.{context_under, inference_at, tope_said}
use Rattle.rz_solver.proofs.Jobs.{side_claim, side_here, side_over}
use Rattle.rz_solver.proofs.writing.open_side.Goals as goal

pub tope-requires : goal.tope-requires
tope-requires c =
    let here = c.requires.0 in
    subst (λ (all : List Inference). (base : Tree) × IsTree Context base × IsClaim c.args.w.now.pool.nodes base (inference_at all c.args.assumption).claim) c.requires.1
    (side_claim here c.args.w.now c.args.place.now c.args.assumption c.requires.2)

pub returns-in_err-phi-clause-grows : goal.returns-in_err-phi-clause-grows
returns-in_err-phi-clause-grows c =
    grows_pool c.args.w.now c.tope.new.pool c.tope.ensures.grows c.tope.ensures.pool c.requires.2.sound

pub with_tope-requires-clause-sound : goal.with_tope-requires-clause-sound
with_tope-requires-clause-sound c =
    sound_pool c.args.w.now c.tope.new.pool c.tope.ensures.grows c.tope.ensures.pool c.requires.2.sound

pub with_tope-requires-clause-formed : goal.with_tope-requires-clause-formed
with_tope-requires-clause-formed c =
    let here = c.requires.0 in
    let side = c.requires.2 in
    let w = c.args.w.now in
    let place = c.args.place.now in
    let later : World = record { pool = c.tope.new.pool; log = w.log } in
    let grows : Grows w later = grows_pool w c.tope.new.pool c.tope.ensures.grows c.tope.ensures.pool side.sound in
    let context = KeepsTrees-Grows w.pool.nodes c.tope.new.pool.nodes c.tope.ensures.grows place.context side.is_place.live ∙ side.is_place.context_is in
    subst (λ (t : Tree). Says later place.formed (formed t)) (sym context)
    (says_grown w later side.sound grows place.formed (formed (context_under here place.assumed.items)) side.is_place.formed_is)

pub with_tope-requires-clause-over : goal.with_tope-requires-clause-over
with_tope-requires-clause-over c =
    let here = c.requires.0 in
    let side = c.requires.2 in
    let w = c.args.w.now in
    let place = c.args.place.now in
    let new = c.tope.new.pool.nodes in
    let context = KeepsTrees-Grows w.pool.nodes new c.tope.ensures.grows place.context side.is_place.live ∙ side.is_place.context_is in
    let tope : tree_of new c.in_ok-phi.phi ≡ tope_said here c.args.assumption =
    c.in_ok-phi.ensures.tree ∙ (ap (λ (all : List Inference). tope_of w.pool.nodes (inference_at all c.args.assumption).claim) (sym c.requires.1)
    ∙ side_here here w place c.args.assumption side) in
    subst (λ (t : Tree). IsTopeOver (binders_of t) (tree_of new c.in_ok-phi.phi)) (sym context)
    (subst (IsTopeOver (binders_of (context_under here place.assumed.items))) (sym tope) (side_over here w place c.args.assumption side))

pub returns-clause-opened : goal.returns-clause-opened
returns-clause-opened c here same side =
    let w = c.args.w.now in
    let place = c.args.place.now in
    let new = c.tope.new.pool.nodes in
    let last = c.with_tope.new.w in
    let under = context_under here place.assumed.items in
    let context = KeepsTrees-Grows w.pool.nodes new c.tope.ensures.grows place.context side.is_place.live ∙ side.is_place.context_is in
    let tope : tree_of new c.in_ok-phi.phi ≡ tope_said here c.args.assumption =
    c.in_ok-phi.ensures.tree ∙ (ap (λ (all : List Inference). tope_of w.pool.nodes (inference_at all c.args.assumption).claim) (sym same)
    ∙ side_here here w place c.args.assumption side) in
    let whole : with_entry (tree_of new place.context) (OfTope (tree_of new c.in_ok-phi.phi)) ≡ context_under here (c.args.assumption ∷ place.assumed.items) =
    λ i. with_entry (context i) (OfTope (tope i)) in
    let assumed : c.args.assumption ∷ place.assumed.items ≡ c.in_ok-assumed.assumed.items =
    sym (c.in_ok-assumed.ensures ∙ ap (λ (l : List ℕ). c.args.assumption ∷ l) c.as_slice.ensures.value) in
    record {
      live = c.in_ok-context.ensures.live;
      context_is = subst (λ (l : List ℕ). tree_of last.pool.nodes c.in_ok-context.context ≡ context_under here l) assumed (c.in_ok-context.ensures.tree ∙ whole);
      formed_is = subst (λ (l : List ℕ). Says last c.in_ok-context.formed (formed (context_under here l))) assumed
          (subst (λ (t : Tree). Says last c.in_ok-context.formed (formed t)) whole c.in_ok-context.ensures.says);
    }
