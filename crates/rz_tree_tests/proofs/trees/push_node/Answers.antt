use Rattle.std.proofs.Common.{ℕ, ◌<◌, All, List, length, sym, subst, arith}
use Rattle.std.proofs.lemmas.List.Elements.{All-push}
use Rattle.rz_pool.proofs.Nodes.{length-Grows}
use Rattle.rz_tree_tests.proofs.trees.push_node.Goals as goal

pub returns-clause-live : goal.returns-clause-live
returns-clause-live c true_is live =
    let old = c.args.pool.now.nodes in
    let new = c.make.new.self.nodes in
    let more = length-Grows old new c.make.ensures.grows in
    let left = c.loop.invariant live in
    let kept : All (λ id. id < length new) c.loop.stack.items = λ k d less. let lower = left k d less in omega (lower, more, arith) in
    subst (λ (ids : List ℕ). All (λ id. id < length new) ids) (sym c.in_ok-push.ensures.items)
    (All-push (λ id. id < length new) c.loop.stack.items c.in_ok-id.id kept c.in_ok-id.ensures.within)
