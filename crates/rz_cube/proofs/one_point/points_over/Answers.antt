use Rattle.std.proofs.Common.{sym, subst}
use Rattle.rz_pool.proofs.Nodes.{Grows-trans}
use Rattle.rz_pool.specs.Cubes.{AreCubes}
use Rattle.rz_cube.proofs.CachedPoints.{AreCubes-Grows, cached_over}
use Rattle.rz_cube.proofs.one_point.points_over.Goals as goal

pub cache_parts-requires-clause-entries : goal.cache_parts-requires-clause-entries
cache_parts-requires-clause-entries c =
    let cubes = AreCubes-Grows c.args.pool.now.nodes c.new.new.pool.nodes c.new.ensures.grows c.in_ok-entries.entries.items c.in_ok-entries.ensures.cubes in
    subst (AreCubes c.new.new.pool.nodes) (sym c.deref.ensures.value) cubes

pub returns-clause-cached : goal.returns-clause-cached
returns-clause-cached c =
    let ns = c.args.pool.now.nodes in
    let ms = c.cache_parts.new.pool.nodes in
    let grows = Grows-trans ns c.new.new.pool.nodes ms c.new.ensures.grows c.cache_parts.ensures.grows in
    cached_over ns ms grows c.args.context c.args.point c.requires.point c.in_ok-entries.entries.items c.in_ok-entries.ensures.cubes c.in_ok-entries.ensures.trees
    c.deref.result.now c.deref.ensures.value c.cache_parts.new.self c.in_ok-cache_parts.ensures.cached
