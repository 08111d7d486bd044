use Rattle.std.proofs.Common.{ℕ, Option, List, Contains, inl, inr, subst, sym, ap, ◌∙◌}
use Rattle.rz_pool.specs.Kept.{pairs_of}
use Rattle.rz_pool.specs.declared.questions.Question.{Question}
use Rattle.rz_pool.proofs.kept.Kept.put.Goals as goal

pub returns-in-Some : goal.returns-in-Some
returns-in-Some c other kept is =
    elim (c.put_in.ensures other kept is) [
      | inl before ↦ inl (subst (λ (pairs : List (Question × Option ℕ)). Contains pairs (other, kept)) (sym (ap pairs_of c.in-Some.is) ∙ c.begin.ensures) before)
      | inr put ↦ inr put
    ]
