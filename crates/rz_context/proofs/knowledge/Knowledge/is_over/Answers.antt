use Rattle.std.proofs.Common.{◌≡◌, true, ap, subst, ◌∙◌}
use Rattle.std.specs.Prelude.{◌↔◌}
use Rattle.rz_rules.specs.Cube.{binders_of}
use Rattle.rz_rules.specs.Tree.{tree_of}
use Rattle.rz_rules.specs.Tope.{IsTopeOver}
use Rattle.rz_context.proofs.Growing.{same_tree}
use Rattle.rz_context.proofs.knowledge.Knowledge.is_over.Goals as goal

pub returns-clause-over : goal.returns-clause-over
returns-clause-over c =
    let ns = c.args.pool.now.nodes in
    let ms = c.cache_parts.new.pool.nodes in
    let grows = c.in_ok-cache_parts.ensures.grows in
    let cubes = ap binders_of (same_tree ns ms grows c.in_ok-scope.scope c.in_ok-scope.ensures.there) ∙ c.in_ok-scope.ensures.cubes in
    let tree = same_tree ns ms grows c.args.tope c.requires.tope in
    let cached = c.is_cached_over.ensures ms c.in_ok-cache_parts.ensures.known c.in_ok-cache_parts.ensures.cached in
    let same : IsTopeOver (binders_of (tree_of ms c.in_ok-scope.scope)) (tree_of ms c.args.tope) ≡ IsTopeOver (binders_of (tree_of ns c.args.context)) (tree_of ns c.args.tope) =
    (λ i. IsTopeOver (cubes i) (tree i)) in
    subst (λ (Over : Type 0). (c.is_cached_over.result ≡ true) ↔ Over) same cached
