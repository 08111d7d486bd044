use Rattle.std.proofs.Common.{take, ap, sym, subst, ◌∙◌}
use Rattle.std.specs.Map.{keys_of}
use Rattle.rz_pool.specs.Kept.{pairs_of}
use Rattle.rz_pool.specs.Pool.{Contents}
use Rattle.rz_pool.proofs.Asking.{AreRight-nothing}
use Rattle.rz_pool.proofs.Sets.{Entries, Holds, keys-take, IsKept-take}
use Rattle.rz_pool.proofs.pool.Pool.release.Goals as goal

pub invariant_of-self : goal.invariant_of-self
invariant_of-self c =
    let fewer = IsKept-take c.self.inside.nodes.entries c.args.mark (c.self.invariant.0, c.self.invariant.1) in
    subst (λ (es : Entries). Holds es (pairs_of c.clear.new.self.table)) (sym c.truncate.ensures.entries)
    (fewer.0, fewer.1, AreRight-nothing (keys_of (take c.args.mark c.self.inside.nodes.entries)) (pairs_of c.clear.new.self.table) c.clear.ensures)

pub returns-clause-nodes : goal.returns-clause-nodes
returns-clause-nodes c =
    ap keys_of c.truncate.ensures.entries ∙ keys-take c.self.inside.nodes.entries _ ∙ ap (λ (v : Contents). take c.args.mark v.nodes) c.self.view_is

pub returns-clause-pool : goal.returns-clause-pool
returns-clause-pool c = (invariant_of-self c).0
