use Rattle.std.proofs.Common.{Option, sym, subst, arith}
use Rattle.rz_rules.specs.Tree.{Tree}
use Rattle.rz_rules.specs.Cube.{binders_of}
use Rattle.rz_rules.specs.Tope.{cube_of}
use Rattle.rz_pool.proofs.Nodes.{length-Grows}
use Rattle.rz_pool.specs.Cubes.{IsCubeId}
use Rattle.rz_context.proofs.Growing.{IsKnown-Grows, CachesKids-Grows, same_tree}
use Rattle.rz_context.proofs.Noting.{noted}
use Rattle.rz_context.proofs.knowledge.Knowledge.cache.Goals as goal

pub is_over_by_kids-is_over-requires-clause-known : goal.is_over_by_kids-is_over-requires-clause-known
is_over_by_kids-is_over-requires-clause-known c = IsKnown-Grows c.args.pool.now.nodes c.point_cube.new.pool.nodes c.point_cube.ensures.grows c.args.self.now c.requires.known

pub is_over_by_kids-is_over-requires-clause-kids : goal.is_over_by_kids-is_over-requires-clause-kids
is_over_by_kids-is_over-requires-clause-kids c =
    CachesKids-Grows c.args.pool.now.nodes c.point_cube.new.pool.nodes c.point_cube.ensures.grows c.args.self.now c.args.context c.args.id c.requires.there c.requires.kids

pub returns-clause-known : goal.returns-clause-known
returns-clause-known c =
    let ns = c.args.pool.now.nodes in
    let ms = c.point_cube.new.pool.nodes in
    let grows = c.point_cube.ensures.grows in
    let context = same_tree ns ms grows c.args.context c.requires.live in
    let tree = same_tree ns ms grows c.args.id c.requires.there in
    noted ms c.args.self.now c.note.new.self c.args.context c.args.id (record { cube = c.in_ok-cube.cube; is_over = c.is_over_by_kids-is_over.result })
    (IsKnown-Grows ns ms grows c.args.self.now c.requires.known)
    (record {
      there = omega (arith, c.requires.live, length-Grows ns ms grows);
      is = record {
        live = omega (arith, c.requires.there, length-Grows ns ms grows);
        point = subst (λ (o : Option Tree). IsCubeId ms o c.in_ok-cube.cube) (λ i. cube_of (binders_of (sym context i)) (sym tree i)) c.in_ok-cube.ensures.cached;
        tope = c.is_over_by_kids-is_over.ensures;
      };
    })
    c.note.ensures.summaries c.in_ok-note.ensures.cached c.in_ok-note.ensures.others
