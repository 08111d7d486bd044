use Rattle.std.proofs.Common.{◌≡◌, [], ◌∷◌, Some, refl, sym, ap, ◌∙◌, subst}
use Rattle.std.specs.Prelude.{map, slice_get}
use Rattle.rz_rules.specs.declared.kinds.Kind.TheVariants as kind
use Rattle.rz_rules.specs.declared.kinds.Sort.TheVariants as sort
use Rattle.rz_rules.specs.declared.rows.Row.TheVariants as row
use Rattle.rz_rules.specs.Tree.{Tree, IsTree, sort_of, tree_of}
use Rattle.rz_rules.specs.Context.{OfCube, with_entry}
use Rattle.rz_rules.specs.Derivation.{Follows}
use Rattle.rz_rules.specs.Structural.{formed}
use Rattle.rz_log.specs.declared.world.World.{World}
use Rattle.rz_log.specs.World.{statements_in}
use Rattle.rz_log.proofs.Worlds.{grows_pool, says_grown, sound_pool}
use Rattle.rz_solver.proofs.Forming.{has_sort, two_formed, two_sorts}
use Rattle.rz_solver.proofs.Following.{cube_follows}
use Rattle.rz_log.proofs.Saying.{said_is, tree_is}
use Rattle.rz_solver.proofs.contexts.with_cube.Goals as goal

pub make-requires : goal.make-requires
make-requires c =
    let nodes = c.args.w.now.pool.nodes in
    let context = tree_of nodes c.args.context in
    let is = (said_is c.args.w.now c.args.step (formed context) c.requires.sound c.requires.formed).context in
    two_formed nodes kind.CubeEntry refl c.args.context c.args.cube c.requires.context c.requires.cube
    (two_sorts (sort_of context) (sort_of (tree_of nodes c.args.cube)) sort.Context sort.Cube
    (has_sort context sort.Context is) (c.requires.sort))

pub returns-in_err-inner-clause-grows : goal.returns-in_err-inner-clause-grows
returns-in_err-inner-clause-grows c = grows_pool c.args.w.now c.make.new.pool c.make.ensures.grows c.make.ensures.pool c.requires.sound

pub returns-in_err-from_slice-clause-grows : goal.returns-in_err-from_slice-clause-grows
returns-in_err-from_slice-clause-grows c = grows_pool c.args.w.now c.make.new.pool c.make.ensures.grows c.make.ensures.pool c.requires.sound

pub add-requires-clause-sound : goal.add-requires-clause-sound
add-requires-clause-sound c = sound_pool c.args.w.now c.make.new.pool c.make.ensures.grows c.make.ensures.pool c.requires.sound

pub add-requires-clause-follows : goal.add-requires-clause-follows
add-requires-clause-follows c =
    let w = c.args.w.now in
    let later : World = record { pool = c.make.new.pool; log = w.log } in
    let old = w.pool.nodes in
    let new = c.make.new.pool.nodes in
    let context = tree_of old c.args.context in
    let cube = tree_of old c.args.cube in
    let is = (said_is w c.args.step (formed context) c.requires.sound c.requires.formed).context in
    let opened = tree_is new c.in_ok-inner.inner (with_entry context (OfCube cube)) c.make.ensures.pool c.in_ok-inner.ensures.live c.in_ok-inner.ensures.tree in
    let is_cube = tree_is old c.args.cube cube c.requires.sound.pool c.requires.cube refl in
    let there = says_grown w later c.requires.sound (grows_pool w c.make.new.pool c.make.ensures.grows c.make.ensures.pool c.requires.sound) c.args.step (formed context) c.requires.formed in
    let from_is : map (slice_get (statements_in later)) c.in_ok-from_slice.field-0 ≡ Some (formed context) ∷ [] =
    ap (map (slice_get (statements_in later))) c.in_ok-from_slice.ensures ∙ ap (λ x. x ∷ []) there in
    subst (λ (t : Tree). Follows (statements_in later) (record { row = row.ContextCube; number = 0; says = formed t; from = c.in_ok-from_slice.field-0 }))
    (sym c.in_ok-inner.ensures.tree)
    (cube_follows (statements_in later) context cube c.in_ok-from_slice.field-0 is opened
    (subst (λ s. IsTree s cube) c.requires.sort is_cube) c.requires.few from_is)
