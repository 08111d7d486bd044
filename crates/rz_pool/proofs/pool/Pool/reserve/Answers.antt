use Rattle.std.proofs.Common.{sym, subst}
use Rattle.rz_pool.specs.Kept.{pairs_of}
use Rattle.rz_pool.proofs.Sets.{Entries, Holds}
use Rattle.rz_pool.proofs.pool.Pool.reserve.Goals as goal

pub invariant_of-self : goal.invariant_of-self
invariant_of-self c = subst (λ (es : Entries). Holds es (pairs_of c.self.inside.kept.table)) (sym c.in_err-reserve.ensures.entries) c.self.invariant

pub invariant_of-self-2 : goal.invariant_of-self-2
invariant_of-self-2 c = subst (λ (es : Entries). Holds es (pairs_of c.self.inside.kept.table)) (sym c.in_ok-reserve.ensures.entries) c.self.invariant
