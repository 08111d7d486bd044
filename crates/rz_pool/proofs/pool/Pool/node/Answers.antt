use Rattle.std.proofs.Common.{◌≡◌, Some, slice_get, subst, sym}
use Rattle.rz_pool.specs.Pool.{IsPool}
use Rattle.rz_pool.proofs.Nodes.{tree_of_place}
use Rattle.rz_pool.proofs.Sets.{key_at}
use Rattle.rz_pool.proofs.pool.Pool.node.Goals as goal
use Rattle.rz_pool.proofs.pool.Pool.node.Goals.{In-Some}

-- the pool's nodes are a pool, and the lent one is the node of the id
known : (c : In-Some) → IsPool c.args.self.now.nodes × (slice_get c.args.self.now.nodes c.args.id ≡ Some c.in-Some.node.now)
known c =
    subst (λ v. IsPool v.nodes × (slice_get v.nodes c.args.id ≡ Some c.in-Some.node.now)) c.self.view_is
    (c.self.invariant.0, key_at c.self.inside.nodes.entries c.args.id c.in-Some.node.now c.in-Some.field-0-1.now (sym c.in-Some.ensures.entry))

pub returns-clause-tree : goal.returns-clause-tree
returns-clause-tree c = tree_of_place c.args.self.now.nodes (known c).0.forms c.args.id c.in-Some.node.now (known c).1

pub returns-clause-form : goal.returns-clause-form
returns-clause-form c = (known c).0.forms c.args.id c.in-Some.node.now (known c).1
