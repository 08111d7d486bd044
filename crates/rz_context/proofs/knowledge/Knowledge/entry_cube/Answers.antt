use Rattle.std.proofs.Common.{Option, ℕ, Some, sym, subst}
use Rattle.std.specs.Prelude.{slice_get}
use Rattle.rz_rules.specs.Cube.{cubes_of}
use Rattle.rz_rules.specs.Tree.{tree_of}
use Rattle.rz_pool.specs.Cubes.{IsCubeId}
use Rattle.rz_context.proofs.EntryCubes.{cube_found, no_cube_found}
use Rattle.rz_context.proofs.knowledge.Knowledge.entry_cube.Goals as goal

pub returns-in_err-found : goal.returns-in_err-found
returns-in_err-found c =
    let ns = c.args.pool.now.nodes in
    subst (λ (o : Option ℕ). IsCubeId ns (slice_get (cubes_of (tree_of ns c.args.context)) c.args.index) o) (sym c.from_residual.ensures)
    (no_cube_found ns c.args.context c.args.index c.in_err-found.ensures.none)

pub returns : goal.returns
returns c =
    let ns = c.args.pool.now.nodes in
    subst (λ (id : ℕ). IsCubeId ns (slice_get (cubes_of (tree_of ns c.args.context)) c.args.index) (Some id)) (sym c.tree.ensures)
    (cube_found ns c.args.context c.args.index c.in_ok-found.found c.in_ok-found.ensures.found)
