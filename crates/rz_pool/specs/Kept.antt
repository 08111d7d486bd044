-- The answers that a pool keeps.
use Rattle.std.specs.Prelude.{ℕ, List, [], Option, None, Some, Contains}
use Rattle.lru.specs.LruCache.{LruCache}
use Rattle.rz_rules.specs.declared.nodes.Node.{Node}
use Rattle.rz_pool.specs.declared.questions.Question.{Question}
use Rattle.rz_pool.specs.Asking.{IsRight}

-- the questions with their answers, where there is a table yet
abbrev pub pairs_of : Option (LruCache Question (Option ℕ)) → List (Question × Option ℕ)
pairs_of None = []
pairs_of (Some table) = table.entries

-- each kept answer is right
abbrev pub AreRight : List Node → List (Question × Option ℕ) → Type 0
AreRight nodes pairs =
    (question : Question) (answer : Option ℕ) → Contains pairs (question, answer)
    → IsRight nodes question answer
