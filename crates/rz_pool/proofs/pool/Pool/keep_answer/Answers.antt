use Rattle.std.proofs.Common.{inl, inr, ap, sym}
use Rattle.rz_pool.specs.Pool.{Contents}
use Rattle.rz_pool.proofs.Asking.{IsRight-same}
use Rattle.rz_pool.proofs.pool.Pool.keep_answer.Goals as goal

pub invariant_of-self : goal.invariant_of-self
invariant_of-self c = (
  c.self.invariant.0,
  c.self.invariant.1,
  λ question answer is. elim (c.put.ensures question answer is) [
    | inl before ↦ c.self.invariant.2 question answer before
    | inr put ↦ IsRight-same c.args.self.now.nodes _ c.args.question c.args.answer question answer (sym (ap (λ (v : Contents). v.nodes) c.self.view_is)) put.0 put.1 c.requires
  ],
)
