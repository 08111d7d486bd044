use Rattle.std.proofs.Common.{refl, sym, subst}
use Rattle.rz_rules.specs.declared.kinds.Kind.TheVariants as kind
use Rattle.rz_rules.specs.declared.rows.Row.TheVariants as row
use Rattle.rz_rules.specs.Tree.{Tree}
use Rattle.rz_rules.specs.Derivation.{Follows}
use Rattle.rz_rules.specs.Structural.{formed}
use Rattle.rz_log.specs.declared.world.World.{World}
use Rattle.rz_log.specs.World.{statements_in}
use Rattle.rz_log.proofs.Worlds.{grows_pool, sound_pool}
use Rattle.rz_solver.proofs.Forming.{none_formed}
use Rattle.rz_solver.proofs.Following.{empty_follows}
use Rattle.rz_solver.proofs.contexts.empty_context.Goals as goal

pub make-requires : goal.make-requires
make-requires c = none_formed c.args.w.now.pool.nodes kind.EmptyContext refl refl

pub returns-in_err-context-clause-grows : goal.returns-in_err-context-clause-grows
returns-in_err-context-clause-grows c = grows_pool c.args.w.now c.make.new.pool c.make.ensures.grows c.make.ensures.pool c.requires

pub returns-in_err-from_slice-clause-grows : goal.returns-in_err-from_slice-clause-grows
returns-in_err-from_slice-clause-grows c = grows_pool c.args.w.now c.make.new.pool c.make.ensures.grows c.make.ensures.pool c.requires

pub add-requires-clause-sound : goal.add-requires-clause-sound
add-requires-clause-sound c = sound_pool c.args.w.now c.make.new.pool c.make.ensures.grows c.make.ensures.pool c.requires

pub add-requires-clause-follows : goal.add-requires-clause-follows
add-requires-clause-follows c =
    let later : World = record { pool = c.make.new.pool; log = c.args.w.now.log } in
    subst (λ (t : Tree). Follows (statements_in later) (record { row = row.ContextNil; number = 0; says = formed t; from = c.in_ok-from_slice.field-0 }))
    (sym c.in_ok-context.ensures.tree) (empty_follows (statements_in later) c.in_ok-from_slice.field-0 c.in_ok-from_slice.ensures)
