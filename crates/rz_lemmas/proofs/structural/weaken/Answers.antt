use Rattle.std.proofs.Common.{ℕ, List, sym, subst}
use Rattle.rz_rules.specs.declared.kinds.Sort.TheVariants.{Context}
use Rattle.rz_rules.specs.Derivation.{Follows}
use Rattle.rz_rules.specs.Context.{bound_by, changed_entries}
use Rattle.rz_rules.specs.Substitution.{none, raising}
use Rattle.rz_rules.specs.Tree.{tree_of}
use Rattle.rz_rules.specs.declared.rows.Row.TheVariants as row
use Rattle.rz_pool.specs.Entry.{IsAt}
use Rattle.rz_log.specs.Log.{statements_of, step_of}
use Rattle.rz_log.specs.World.{Says}
use Rattle.rz_log.proofs.Worlds.{grows_pool, sound_pool}
use Rattle.rz_lemmas.proofs.Moving.{context_is, context_is_at, judgment_over, new_context, weakening_behind, weakening_follows, weakening_is}
use Rattle.rz_lemmas.proofs.structural.weaken.Goals as goal

pub weakening-requires-clause-over : goal.weakening-requires-clause-over
weakening-requires-clause-over c = judgment_over c.args.w.now c.args.step c.line.result.now c.requires.sound c.line.ensures.line

pub weakening-requires-clause-context : goal.weakening-requires-clause-context
weakening-requires-clause-context c =
    let nodes = c.args.w.now.pool.nodes in
    subst (IsAt nodes Context) (sym c.context-context.ensures)
    (context_is_at nodes c.line-2.result.now.says (judgment_over c.args.w.now c.args.formed c.line-2.result.now c.requires.sound c.line-2.ensures.line))

pub weakening-requires-clause-enough : goal.weakening-requires-clause-enough
weakening-requires-clause-enough c =
    let w = c.args.w.now in
    let can = c.requires.can in
    let id = c.context-context.result in (
      can.outer,
      can.entry,
      changed_entries (raising none (bound_by can.entry)) can.inner,
      weakening_behind w c.args.step c.args.formed c.args.depth can c.requires.sound (tree_of w.pool.nodes id)
          (context_is w c.args.formed c.line-2.result.now (new_context w c.args.step c.args.formed c.args.depth can c.requires.sound) id c.line-2.ensures.line can.formed_is c.context-context.ensures),
    )

pub returns-in_err-says-clause-grows : goal.returns-in_err-says-clause-grows
returns-in_err-says-clause-grows c = grows_pool c.args.w.now c.weakening.new.pool c.weakening.ensures.grows c.weakening.ensures.pool c.requires.sound

pub returns-in_err-from-clause-grows : goal.returns-in_err-from-clause-grows
returns-in_err-from-clause-grows c = grows_pool c.args.w.now c.weakening.new.pool c.weakening.ensures.grows c.weakening.ensures.pool c.requires.sound

pub add-requires-clause-sound : goal.add-requires-clause-sound
add-requires-clause-sound c = sound_pool c.args.w.now c.weakening.new.pool c.weakening.ensures.grows c.weakening.ensures.pool c.requires.sound

pub add-requires-clause-follows : goal.add-requires-clause-follows
add-requires-clause-follows c =
    let w = c.args.w.now in
    let can = c.requires.can in
    let new = c.weakening.new.pool.nodes in
    let said = c.in_ok-says.says in
    let is = weakening_is w c.args.step c.args.formed c.args.depth can c.requires.sound c.line.result.now c.line-2.result.now c.context-context.result new said
    c.line.ensures.line c.line-2.ensures.line c.context-context.ensures c.in_ok-says.ensures.says in
    subst (λ (from : List ℕ). Follows (statements_of new w.log) (step_of new (record { row = row.Weakening; number = c.args.depth; says = said; from = from }))) (sym c.in_ok-from.ensures)
    (weakening_follows w c.args.step c.args.formed c.args.depth can c.requires.sound new c.weakening.ensures.grows c.weakening.ensures.pool said c.in_ok-says.ensures.over is)

pub returns-clause-says : goal.returns-clause-says
returns-clause-says c can =
    let w = c.args.w.now in
    let new = c.weakening.new.pool.nodes in
    subst (Says c.add.new.self c.in_ok-new.new)
    (weakening_is w c.args.step c.args.formed c.args.depth can c.requires.sound c.line.result.now c.line-2.result.now c.context-context.result new c.in_ok-says.says
    c.line.ensures.line c.line-2.ensures.line c.context-context.ensures c.in_ok-says.ensures.says)
    c.in_ok-new.ensures.says
