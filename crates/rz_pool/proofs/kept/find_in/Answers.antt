use Rattle.std.proofs.Common.{ℕ, Option, IfSome, Contains, subst, sym, ◌∙◌}
use Rattle.lru.proofs.CallerLemmas.{Contains-promoted}
use Rattle.lru.specs.LruCache.{LruCache}
use Rattle.rz_pool.specs.declared.questions.Question.{Question}
use Rattle.rz_pool.specs.contracts.questions.QuestionPartialEq.TheImpl.{eq-value}
use Rattle.rz_pool.proofs.Asking.{found}
use Rattle.rz_pool.proofs.kept.find_in.Goals as goal

pub returns-clause-found : goal.returns-clause-found
returns-clause-found c =
    subst (λ (o : Option (Option ℕ)). IfSome o (λ answer. Contains c.args.table.now.entries (c.args.question, answer))) (sym (c.copied.ensures ∙ c.get.ensures.value))
    (found c.args.table.now.entries c.args.question)

pub returns-clause-kept : goal.returns-clause-kept
returns-clause-kept c other answer is =
    Contains-promoted (eq-value.it c.args.question) c.args.table.now.entries (other, answer)
    (subst (λ (t : LruCache Question (Option ℕ)). Contains t.entries (other, answer)) c.get.follows.holds-at-none is)
