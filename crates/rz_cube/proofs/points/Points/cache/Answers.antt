use Rattle.std.proofs.Common.{Option, sym, subst, ◌∙◌, arith}
use Rattle.rz_rules.specs.Tree.{Tree}
use Rattle.rz_rules.specs.Tope.{cube_of}
use Rattle.rz_rules.specs.Coordinate.{coordinates}
use Rattle.rz_pool.proofs.Nodes.{length-Grows}
use Rattle.rz_pool.specs.Cubes.{IsCubeId}
use Rattle.rz_cube.specs.Cached.{IsCached}
use Rattle.rz_cube.proofs.CachedPoints.{IsPoints-Grows, Caches-Grows, at_point-Grows, caches_here, caches_others}
use Rattle.rz_cube.proofs.points.Points.cache.Goals as goal
use Rattle.rz_cube.proofs.points.Points.cache.Goals.{In_ok-insert}

-- what is cached now is so
is_so : (c : In_ok-insert) → IsCached c.cube_by_kids.new.pool.nodes c.args.entries.now c.args.id (record { cube = c.in_ok-cube.cube; coordinates = c.in_ok-coordinates.coordinates })
is_so c =
    let ns = c.args.pool.now.nodes in
    let ms = c.cube_by_kids.new.pool.nodes in
    let grows = c.cube_by_kids.ensures.grows in
    let entries = c.args.entries.now in
    record {
      live = omega (arith, c.requires.there, length-Grows ns ms grows);
      cube = subst (λ (tree : Option Tree). IsCubeId ms tree c.in_ok-cube.cube) (sym (at_point-Grows ns ms grows cube_of entries c.args.id c.requires.entries c.requires.there)) c.in_ok-cube.ensures.cached;
      list = c.in_ok-coordinates.ensures ∙ sym (at_point-Grows ns ms grows coordinates entries c.args.id c.requires.entries c.requires.there);
    }

pub returns-clause-points : goal.returns-clause-points
returns-clause-points c =
    let old = IsPoints-Grows c.args.pool.now.nodes c.cube_by_kids.new.pool.nodes c.cube_by_kids.ensures.grows c.args.self.now c.requires.points in
    record { there = old.there; two = old.two }

pub returns-clause-cached : goal.returns-clause-cached
returns-clause-cached c =
    caches_here c.cube_by_kids.new.pool.nodes c.args.entries.now c.args.id (record { cube = c.in_ok-cube.cube; coordinates = c.in_ok-coordinates.coordinates }) (is_so (goal.at.returns-clause-cached c).In_ok-insert)
    c.args.self.now (record { interval = c.args.self.now.interval; table = c.insert.new.self }) c.in_ok-insert.ensures.updates.0

pub returns-clause-kept : goal.returns-clause-kept
returns-clause-kept c q old =
    caches_others c.cube_by_kids.new.pool.nodes c.args.entries.now c.args.id (record { cube = c.in_ok-cube.cube; coordinates = c.in_ok-coordinates.coordinates }) (is_so (goal.at.returns-clause-kept c).In_ok-insert)
    c.args.self.now (record { interval = c.args.self.now.interval; table = c.insert.new.self }) c.in_ok-insert.ensures.updates.0
    q (Caches-Grows c.args.pool.now.nodes c.cube_by_kids.new.pool.nodes c.cube_by_kids.ensures.grows c.args.entries.now c.args.self.now q c.requires.entries old)
