use Rattle.std.proofs.Common.{◌≡◌, ◌<◌, true, length, refl, sym, subst, arith}
use Rattle.std.specs.Prelude.{◌↔◌}
use Rattle.rz_rules.specs.Cube.{binders_of, cube_two}
use Rattle.rz_rules.specs.Tree.{tree_of}
use Rattle.rz_rules.specs.Tope.{IsPointOf, IsTopeOver, cube_of}
use Rattle.rz_context.specs.Knowledge.{Caches}
use Rattle.rz_context.proofs.Judging.{all_three, all_two, always_over, at_most_over, both_cached, equal_over, first_cached, interval_cached, parts_over, same_cached}
use Rattle.rz_context.proofs.knowledge.Knowledge.is_over_by_kids.Goals as goal

pub returns-in-Top : goal.returns-in-Top
returns-in-Top c =
    let ns = c.args.pool.now.nodes in
    (λ _. always_over ns (binders_of (tree_of ns c.args.context)) c.args.id c.node-node.result.now c.node-node.ensures.tree c.node-node.ensures.form c.in-Top.is, λ _. refl)

pub is_interval-requires : goal.is_interval-requires
is_interval-requires c =
    let ns = c.args.pool.now.nodes in
    let parts = c.two_kids-s.result in
    let cached = all_two (Caches c.args.self.now c.args.context) parts.0 parts.1 c.node-node.result.now.kids c.two_kids-s.ensures (c.requires.kids c.node-node.result.now c.node-node.ensures.node) in
    (c.cube_at-in-AtMost.ensures ns c.requires.known cached.0).there

pub is_interval-requires-then-is_interval : goal.is_interval-requires-then-is_interval
is_interval-requires-then-is_interval c =
    let ns = c.args.pool.now.nodes in
    let parts = c.two_kids-s.result in
    let cached = all_two (Caches c.args.self.now c.args.context) parts.0 parts.1 c.node-node.result.now.kids c.two_kids-s.ensures (c.requires.kids c.node-node.result.now c.node-node.ensures.node) in
    (c.cube_at-then-is_interval.ensures ns c.requires.known cached.1).there

pub returns-then-is_cached_over : goal.returns-then-is_cached_over
returns-then-is_cached_over c =
    let ns = c.args.pool.now.nodes in
    let n = c.node-node.result.now in
    let parts = c.two_kids-p.result in
    let cubes = binders_of (tree_of ns c.args.context) in
    let cached = all_two (Caches c.args.self.now c.args.context) parts.0 parts.1 n.kids c.two_kids-p.ensures (c.requires.kids n c.node-node.ensures.node) in
    subst (λ (Over : Type 0). (c.is_cached_over-then-is_cached_over.result ≡ true) ↔ Over) (sym (parts_over ns cubes c.args.id n c.node-node.ensures.tree c.node-node.ensures.form parts.0 parts.1 c.in-Conjunction.is c.two_kids-p.ensures))
    (both_cached c.is_cached_over.result c.is_cached_over-then-is_cached_over.result (IsTopeOver cubes (tree_of ns parts.0)) (IsTopeOver cubes (tree_of ns parts.1)) c.if-is_cached_over.true
    (c.is_cached_over.ensures ns c.requires.known cached.0) (c.is_cached_over-then-is_cached_over.ensures ns c.requires.known cached.1))

pub returns-else-is_cached_over : goal.returns-else-is_cached_over
returns-else-is_cached_over c =
    let ns = c.args.pool.now.nodes in
    let n = c.node-node.result.now in
    let parts = c.two_kids-p.result in
    let cubes = binders_of (tree_of ns c.args.context) in
    let cached = all_two (Caches c.args.self.now c.args.context) parts.0 parts.1 n.kids c.two_kids-p.ensures (c.requires.kids n c.node-node.ensures.node) in
    subst (λ (Over : Type 0). (c.is_cached_over.result ≡ true) ↔ Over) (sym (parts_over ns cubes c.args.id n c.node-node.ensures.tree c.node-node.ensures.form parts.0 parts.1 c.in-Conjunction.is c.two_kids-p.ensures))
    (first_cached c.is_cached_over.result (IsTopeOver cubes (tree_of ns parts.0)) (IsTopeOver cubes (tree_of ns parts.1)) c.if-is_cached_over.false (c.is_cached_over.ensures ns c.requires.known cached.0))

pub returns-then-is_cube : goal.returns-then-is_cube
returns-then-is_cube c =
    let ns = c.args.pool.now.nodes in
    let n = c.node-node.result.now in
    let parts = c.three_kids-cube.result in
    let cubes = binders_of (tree_of ns c.args.context) in
    let cached = all_three (Caches c.args.self.now c.args.context) parts.0 parts.1 parts.2 n.kids c.three_kids-cube.ensures (c.requires.kids n c.node-node.ensures.node) in
    let low = all_three (λ kid. kid < c.args.id) parts.0 parts.1 parts.2 n.kids c.three_kids-cube.ensures c.node-node.ensures.form.kids in
    let live : parts.0 < length ns = omega (arith, low.0, c.requires.there) in
    let shared = c.node-node.ensures.pool.shared in
    subst (λ (Over : Type 0). (c.is_cube-then-is_cube.result ≡ true) ↔ Over) (sym (equal_over ns cubes c.args.id n c.node-node.ensures.tree c.node-node.ensures.form parts.0 parts.1 parts.2 c.in-EqualPoints.is c.three_kids-cube.ensures))
    (both_cached c.is_cube.result c.is_cube-then-is_cube.result (IsPointOf cubes (tree_of ns parts.0) (tree_of ns parts.1)) (IsPointOf cubes (tree_of ns parts.0) (tree_of ns parts.2)) c.if-is_cube.true
    (same_cached ns shared parts.0 live (cube_of cubes (tree_of ns parts.1)) c.cube_at.result (c.cube_at.ensures ns c.requires.known cached.1) c.is_cube.result c.is_cube.ensures)
    (same_cached ns shared parts.0 live (cube_of cubes (tree_of ns parts.2)) c.cube_at-then-is_cube.result (c.cube_at-then-is_cube.ensures ns c.requires.known cached.2) c.is_cube-then-is_cube.result c.is_cube-then-is_cube.ensures))

pub returns-else-is_cube : goal.returns-else-is_cube
returns-else-is_cube c =
    let ns = c.args.pool.now.nodes in
    let n = c.node-node.result.now in
    let parts = c.three_kids-cube.result in
    let cubes = binders_of (tree_of ns c.args.context) in
    let cached = all_three (Caches c.args.self.now c.args.context) parts.0 parts.1 parts.2 n.kids c.three_kids-cube.ensures (c.requires.kids n c.node-node.ensures.node) in
    let low = all_three (λ kid. kid < c.args.id) parts.0 parts.1 parts.2 n.kids c.three_kids-cube.ensures c.node-node.ensures.form.kids in
    let live : parts.0 < length ns = omega (arith, low.0, c.requires.there) in
    subst (λ (Over : Type 0). (c.is_cube.result ≡ true) ↔ Over) (sym (equal_over ns cubes c.args.id n c.node-node.ensures.tree c.node-node.ensures.form parts.0 parts.1 parts.2 c.in-EqualPoints.is c.three_kids-cube.ensures))
    (first_cached c.is_cube.result (IsPointOf cubes (tree_of ns parts.0) (tree_of ns parts.1)) (IsPointOf cubes (tree_of ns parts.0) (tree_of ns parts.2)) c.if-is_cube.false
    (same_cached ns c.node-node.ensures.pool.shared parts.0 live (cube_of cubes (tree_of ns parts.1)) c.cube_at.result (c.cube_at.ensures ns c.requires.known cached.1) c.is_cube.result c.is_cube.ensures))

pub returns-then-is_interval : goal.returns-then-is_interval
returns-then-is_interval c =
    let ns = c.args.pool.now.nodes in
    let n = c.node-node.result.now in
    let parts = c.two_kids-s.result in
    let cubes = binders_of (tree_of ns c.args.context) in
    let cached = all_two (Caches c.args.self.now c.args.context) parts.0 parts.1 n.kids c.two_kids-s.ensures (c.requires.kids n c.node-node.ensures.node) in
    subst (λ (Over : Type 0). (c.is_interval-then-is_interval.result ≡ true) ↔ Over) (sym (at_most_over ns cubes c.args.id n c.node-node.ensures.tree c.node-node.ensures.form parts.0 parts.1 c.in-AtMost.is c.two_kids-s.ensures))
    (both_cached c.is_interval.result c.is_interval-then-is_interval.result (IsPointOf cubes cube_two (tree_of ns parts.0)) (IsPointOf cubes cube_two (tree_of ns parts.1)) c.if-is_interval.true
    (interval_cached ns (cube_of cubes (tree_of ns parts.0)) c.cube_at-in-AtMost.result (c.cube_at-in-AtMost.ensures ns c.requires.known cached.0) c.is_interval.result c.is_interval.ensures)
    (interval_cached ns (cube_of cubes (tree_of ns parts.1)) c.cube_at-then-is_interval.result (c.cube_at-then-is_interval.ensures ns c.requires.known cached.1) c.is_interval-then-is_interval.result c.is_interval-then-is_interval.ensures))

pub returns-else-is_interval : goal.returns-else-is_interval
returns-else-is_interval c =
    let ns = c.args.pool.now.nodes in
    let n = c.node-node.result.now in
    let parts = c.two_kids-s.result in
    let cubes = binders_of (tree_of ns c.args.context) in
    let cached = all_two (Caches c.args.self.now c.args.context) parts.0 parts.1 n.kids c.two_kids-s.ensures (c.requires.kids n c.node-node.ensures.node) in
    subst (λ (Over : Type 0). (c.is_interval.result ≡ true) ↔ Over) (sym (at_most_over ns cubes c.args.id n c.node-node.ensures.tree c.node-node.ensures.form parts.0 parts.1 c.in-AtMost.is c.two_kids-s.ensures))
    (first_cached c.is_interval.result (IsPointOf cubes cube_two (tree_of ns parts.0)) (IsPointOf cubes cube_two (tree_of ns parts.1)) c.if-is_interval.false
    (interval_cached ns (cube_of cubes (tree_of ns parts.0)) c.cube_at-in-AtMost.result (c.cube_at-in-AtMost.ensures ns c.requires.known cached.0) c.is_interval.result c.is_interval.ensures))
