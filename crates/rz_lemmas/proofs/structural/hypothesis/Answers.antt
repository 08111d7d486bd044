use Rattle.std.proofs.Common.{ℕ, List, sym, subst}
use Rattle.rz_rules.specs.declared.kinds.Sort.TheVariants.{Context}
use Rattle.rz_rules.specs.declared.judgments.Judgment.TheVariants.{Holds}
use Rattle.rz_rules.specs.Derivation.{Follows}
use Rattle.rz_rules.specs.Tree.{tree_of}
use Rattle.rz_rules.specs.declared.rows.Row.TheVariants as row
use Rattle.rz_pool.specs.Entry.{IsAt}
use Rattle.rz_log.specs.Log.{statements_of, step_of}
use Rattle.rz_log.specs.World.{Says}
use Rattle.rz_log.proofs.Worlds.{grows_pool, sound_pool}
use Rattle.rz_lemmas.proofs.Moving.{context_is, context_is_at, judgment_over, hypothesis_follows, hypothesis_is, hypothesis_over, tope_behind, whole}
use Rattle.rz_lemmas.proofs.structural.hypothesis.Goals as goal

pub tope_at-requires-clause-enough : goal.tope_at-requires-clause-enough
tope_at-requires-clause-enough c =
    let w = c.args.w.now in
    let has = c.requires.tope in
    let id = c.context-context.result in (
      has.outer,
      has.tope,
      has.inner,
      tope_behind w c.args.formed c.args.number has c.requires.sound (tree_of w.pool.nodes id)
          (context_is w c.args.formed c.line.result.now (whole w c.args.formed c.args.number has c.requires.sound) id c.line.ensures.line has.formed_is c.context-context.ensures),
    )

pub returns-in_err-phi-clause-grows : goal.returns-in_err-phi-clause-grows
returns-in_err-phi-clause-grows c = grows_pool c.args.w.now c.tope_at.new.pool c.tope_at.ensures.grows c.tope_at.ensures.pool c.requires.sound

pub returns-in_err-from-clause-grows : goal.returns-in_err-from-clause-grows
returns-in_err-from-clause-grows c = grows_pool c.args.w.now c.tope_at.new.pool c.tope_at.ensures.grows c.tope_at.ensures.pool c.requires.sound

pub add-requires-clause-sound : goal.add-requires-clause-sound
add-requires-clause-sound c = sound_pool c.args.w.now c.tope_at.new.pool c.tope_at.ensures.grows c.tope_at.ensures.pool c.requires.sound

pub add-requires-clause-over : goal.add-requires-clause-over
add-requires-clause-over c =
    let w = c.args.w.now in
    record {
      live = (hypothesis_over w c.args.formed c.args.number c.requires.tope c.requires.sound c.line.result.now c.context-context.result c.in_ok-phi.phi c.tope_at.new.pool.nodes
          c.line.ensures.line c.context-context.ensures c.tope_at.ensures.grows c.in_ok-phi.ensures.within c.in_ok-phi.ensures.tope).live;
      number = c.is_small.ensures.0 (c.if-not-is_small.false);
    }

pub add-requires-clause-follows : goal.add-requires-clause-follows
add-requires-clause-follows c =
    let w = c.args.w.now in
    let has = c.requires.tope in
    let new = c.tope_at.new.pool.nodes in
    let id = c.context-context.result in
    let phi = c.in_ok-phi.phi in
    let there = subst (IsAt w.pool.nodes Context) (sym c.context-context.ensures)
    (context_is_at w.pool.nodes c.line.result.now.says (judgment_over w c.args.formed c.line.result.now c.requires.sound c.line.ensures.line)) in
    let over = hypothesis_over w c.args.formed c.args.number has c.requires.sound c.line.result.now id phi new
    c.line.ensures.line c.context-context.ensures c.tope_at.ensures.grows c.in_ok-phi.ensures.within c.in_ok-phi.ensures.tope in
    let is = hypothesis_is w c.args.formed c.args.number has c.requires.sound c.line.result.now id phi new
    c.line.ensures.line c.context-context.ensures c.tope_at.ensures.grows there.0 c.in_ok-phi.ensures.tope in
    subst (λ (from : List ℕ). Follows (statements_of new w.log) (step_of new (record { row = row.Hypothesis; number = c.args.number; says = Holds id phi; from = from }))) (sym c.in_ok-from.ensures)
    (hypothesis_follows w c.args.formed c.args.number has c.requires.sound new c.tope_at.ensures.grows c.tope_at.ensures.pool (Holds id phi) over is)

pub returns-clause-says : goal.returns-clause-says
returns-clause-says c has =
    let w = c.args.w.now in
    let new = c.tope_at.new.pool.nodes in
    let id = c.context-context.result in
    let there = subst (IsAt w.pool.nodes Context) (sym c.context-context.ensures)
    (context_is_at w.pool.nodes c.line.result.now.says (judgment_over w c.args.formed c.line.result.now c.requires.sound c.line.ensures.line)) in
    subst (Says c.add.new.self c.in_ok-step.step)
    (hypothesis_is w c.args.formed c.args.number has c.requires.sound c.line.result.now id c.in_ok-phi.phi new
    c.line.ensures.line c.context-context.ensures c.tope_at.ensures.grows there.0 c.in_ok-phi.ensures.tope)
    c.in_ok-step.ensures.says
