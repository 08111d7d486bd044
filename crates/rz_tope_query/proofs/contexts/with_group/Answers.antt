use Rattle.std.proofs.Common.{length, Ok, ap, subst}
use Rattle.std.specs.Prelude.{IfNone, IfSome}
use Rattle.rz_rules.specs.Tree.{Tree, tree_of}
use Rattle.rz_log.proofs.Worlds.{tree_grown}
use Rattle.rz_shape.specs.Answer.{IsRead}
use Rattle.rz_shape.specs.Reading.{Reading, and_then, cube_reading}
use Rattle.rz_tope_query.specs.Sequent.{with_cubes}
use Rattle.rz_tope_query.specs.Parts.{IsNoReading, IsOpened}
use Rattle.rz_tope_query.proofs.Opening.{none_then, opened_later}
use Rattle.rz_tope_query.proofs.contexts.with_group.Goals as goal

pub returns-in_default-clause-none : goal.returns-in_default-clause-none
returns-in_default-clause-none c =
    let forms = c.args.forms.now in
    let group = c.args.group.now in
    let context = tree_of c.args.w.now.pool.nodes c.args.opened.0 in
    let reading = cube_reading forms (length forms) group.cube in
    none_then reading (λ (cube : Tree). Ok (with_cubes context cube (length group.names)))
    (subst (λ o. IfNone o (IsNoReading reading)) c.in_default.is c.in_ok-cube.ensures.none)

pub with_cubes-requires-clause-opened : goal.with_cubes-requires-clause-opened
with_cubes-requires-clause-opened c =
    opened_later c.args.w.now c.read_cube.new.w (tree_of c.args.w.now.pool.nodes c.args.opened.0) c.args.opened c.requires.sound c.read_cube.ensures.grows c.requires.opened

pub with_cubes-requires-clause-sort : goal.with_cubes-requires-clause-sort
with_cubes-requires-clause-sort c =
    let forms = c.args.forms.now in
    let new = c.read_cube.new.w.pool.nodes in
    let read = subst (λ o. IfSome o (IsRead new (cube_reading forms (length forms) c.args.group.now.cube))) c.in-Some.is c.in_ok-cube.ensures.read in
    c.cubes_are_narrow.ensures.cube forms (length forms) c.args.group.now.cube (tree_of new c.in-Some.cube) read.is

pub with_cubes-requires-clause-few : goal.with_cubes-requires-clause-few
with_cubes-requires-clause-few c =
    let forms = c.args.forms.now in
    let new = c.read_cube.new.w.pool.nodes in
    let read = subst (λ o. IfSome o (IsRead new (cube_reading forms (length forms) c.args.group.now.cube))) c.in-Some.is c.in_ok-cube.ensures.read in
    c.cubes_are_narrow.ensures.narrow forms (length forms) c.args.group.now.cube (tree_of new c.in-Some.cube) read.is

pub returns-clause-opened : goal.returns-clause-opened
returns-clause-opened c =
    let forms = c.args.forms.now in
    let group = c.args.group.now in
    let new = c.read_cube.new.w.pool.nodes in
    let context = tree_of c.args.w.now.pool.nodes c.args.opened.0 in
    let cube = tree_of new c.in-Some.cube in
    let read = subst (λ o. IfSome o (IsRead new (cube_reading forms (length forms) group.cube))) c.in-Some.is c.in_ok-cube.ensures.read in
    let kept = tree_grown c.args.w.now c.read_cube.new.w c.read_cube.ensures.grows c.args.opened.0 c.requires.opened.live in record {
      context = with_cubes context cube (length group.names);
      is = ap (λ (r : Reading Tree). and_then r (λ tree. Ok (with_cubes context tree (length group.names)))) read.is;
      opened_is = subst (λ (t : Tree). IsOpened c.with_cubes.new.w (with_cubes t cube (length group.names)) c.in_ok-longer.longer) kept
          (subst (λ n. IsOpened c.with_cubes.new.w (with_cubes (tree_of new c.args.opened.0) cube n) c.in_ok-longer.longer) c.len.ensures c.in_ok-longer.ensures.opened);
    }
