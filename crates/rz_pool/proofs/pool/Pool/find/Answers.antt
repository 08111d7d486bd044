use Rattle.std.proofs.Common.{◌≡◌, Some, slice_get, subst, sym}
use Rattle.std.specs.Map.{keys_of}
use Rattle.rz_pool.specs.Pool.{Contents}
use Rattle.rz_pool.proofs.Sets.{found_here}
use Rattle.rz_pool.proofs.pool.Pool.find.Goals as goal

pub returns-in-Some-clause-found : goal.returns-in-Some-clause-found
returns-in-Some-clause-found c =
    subst (λ (v : Contents). slice_get v.nodes c.in-Some.id ≡ Some c.args.node.now) c.self.view_is
    (found_here c.args.node.now (keys_of c.self.inside.nodes.entries) c.in-Some.id (sym c.in-Some.ensures.index))
