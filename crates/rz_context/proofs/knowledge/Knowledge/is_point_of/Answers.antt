use Rattle.std.proofs.Common.{◌≡◌, true, sym, ap, subst, ◌∙◌, arith}
use Rattle.std.specs.Prelude.{◌↔◌}
use Rattle.rz_rules.specs.Cube.{binders_of}
use Rattle.rz_rules.specs.Tree.{tree_of}
use Rattle.rz_rules.specs.Tope.{IsPointOf, cube_of}
use Rattle.rz_pool.proofs.Nodes.{length-Grows}
use Rattle.rz_context.proofs.Growing.{same_tree}
use Rattle.rz_context.proofs.Judging.{id_cached, none_cached}
use Rattle.rz_context.proofs.knowledge.Knowledge.is_point_of.Goals as goal
use Rattle.rz_context.proofs.knowledge.Knowledge.is_point_of.Goals.{After-cube_at}

-- what the scope caches is what the context caches
same : (c : After-cube_at) → IsPointOf (binders_of (tree_of c.cache_parts.new.pool.nodes c.in_ok-scope.scope)) (tree_of c.cache_parts.new.pool.nodes c.args.cube) (tree_of c.cache_parts.new.pool.nodes c.args.point)
    ≡ IsPointOf (binders_of (tree_of c.args.pool.now.nodes c.args.context)) (tree_of c.args.pool.now.nodes c.args.cube) (tree_of c.args.pool.now.nodes c.args.point)
same c =
    let ns = c.args.pool.now.nodes in
    let ms = c.cache_parts.new.pool.nodes in
    let grows = c.in_ok-cache_parts.ensures.grows in
    let cubes = ap binders_of (same_tree ns ms grows c.in_ok-scope.scope c.in_ok-scope.ensures.there) ∙ c.in_ok-scope.ensures.cubes in
    let cube = same_tree ns ms grows c.args.cube c.requires.cube in
    let point = same_tree ns ms grows c.args.point c.requires.point in
    λ i. IsPointOf (cubes i) (cube i) (point i)

pub returns-in-Some-clause-point : goal.returns-in-Some-clause-point
returns-in-Some-clause-point c =
    let ms = c.cache_parts.new.pool.nodes in
    let cached = c.cube_at.ensures ms c.in_ok-cache_parts.ensures.known c.in_ok-cache_parts.ensures.cached in
    subst (λ (Is : Type 0). (c.are_same.result ≡ true) ↔ Is) (same (goal.at.returns-in-Some-clause-point c).After-cube_at)
    (id_cached ms c.are_same.ensures.pool.shared c.args.cube (omega (arith, c.requires.cube, length-Grows c.args.pool.now.nodes ms c.in_ok-cache_parts.ensures.grows))
    (cube_of (binders_of (tree_of ms c.in_ok-scope.scope)) (tree_of ms c.args.point)) c.cube_at.result cached c.in-Some.found c.in-Some.is c.are_same.result c.are_same.ensures.same)

pub returns-in-None-clause-point : goal.returns-in-None-clause-point
returns-in-None-clause-point c =
    let ms = c.cache_parts.new.pool.nodes in
    let cached = c.cube_at.ensures ms c.in_ok-cache_parts.ensures.known c.in_ok-cache_parts.ensures.cached in
    let here = (goal.at.returns-in-None-clause-point c).After-cube_at in (
      λ wrong. absurd cc,
      λ has. absurd (none_cached ms (cube_of (binders_of (tree_of ms c.in_ok-scope.scope)) (tree_of ms c.args.point)) c.cube_at.result cached c.in-None.is
          (tree_of ms c.args.cube) (subst (λ (Is : Type 0). Is) (sym (same here)) has)),
    )
