use Rattle.rz_pool.proofs.pool.Pool.known_answer.Goals as goal

pub invariant_of-self : goal.invariant_of-self
invariant_of-self c = (c.self.invariant.0, c.self.invariant.1, λ question answer is. c.self.invariant.2 question answer (c.find.ensures.kept question answer is))
