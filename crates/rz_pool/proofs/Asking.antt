-- Questions: when two are the same, and what is kept of them as a pool grows.
use Rattle.std.proofs.Common.{◌≡◌, ℕ, ◌<◌, nat_eq, List, [], Option, None, Some, IfSome, Result, Ok, Err, OnOk, OnErr, length, Contains, ◌⊎◌, inl, inr, refl, sym, ap, subst, ◌∙◌, true, arith}
use Rattle.std.specs.Cmp.{first_so, second_so, unsigned_Decides}
use Rattle.std.specs.Map.{lookup}
use Rattle.lru.specs.LruCache.{LruCache, lru_cache, put_entries}
use Rattle.lru.proofs.CallerLemmas.{Contains-lookup, Contains-put_entries}
use Rattle.rz_rules.specs.declared.kinds.Space.TheVariants.{Points, Terms}
use Rattle.rz_rules.specs.declared.nodes.Node.{Node}
use Rattle.rz_rules.specs.Tree.{Tree, tree_of}
use Rattle.rz_rules.specs.Substitution.{Changes, changed, none, putting}
use Rattle.rz_pool.specs.declared.counts.Counts.{Counts}
use Rattle.rz_pool.specs.declared.questions.Question.{Question}
use Rattle.rz_pool.specs.declared.questions.VariableChange.{VariableChange}
use Rattle.rz_pool.specs.declared.questions.VariableChange.TheVariants.{Rise, PutPoint, PutTerm}
use Rattle.rz_pool.specs.contracts.counts.CountsPartialEq.TheImpl as counts
use Rattle.rz_pool.specs.contracts.questions.VariableChangePartialEq.TheImpl as changes
use Rattle.rz_pool.specs.contracts.questions.QuestionPartialEq.TheImpl as questions
use Rattle.rz_pool.specs.Counts.{depth_of}
use Rattle.rz_pool.specs.Pool.{Grows}
use Rattle.rz_pool.specs.Asking.{changes_by, NamesNodes, asked_tree, IsAnswerOf, IsRight}
use Rattle.rz_pool.specs.Kept.{AreRight}
use Rattle.rz_pool.proofs.Nodes.{length-Grows, KeepsTrees-Grows}

same_number : (a b : ℕ) → nat_eq a b ≡ true → a ≡ b
same_number a b = (unsigned_Decides a b).0

same_counts : (a b : Counts) → counts.eq-value.it a b ≡ true → a ≡ b
same_counts a b e =
    let points = same_number a.points b.points (first_so (nat_eq a.points b.points) (nat_eq a.terms b.terms) e) in
    let terms = same_number a.terms b.terms (second_so (nat_eq a.points b.points) (nat_eq a.terms b.terms) e) in
    λ i. record { points = points i; terms = terms i }

same_change : (a b : VariableChange) → changes.eq-value.it a b ≡ true → a ≡ b
same_change (Rise from by) (Rise other more) e =
    let first = counts.eq-value.it from other in
    let second = counts.eq-value.it by more in
    λ i. Rise (same_counts from other (first_so first second e) i) (same_counts by more (second_so first second e) i)
same_change (PutPoint at value) (PutPoint other id) e =
    let first = counts.eq-value.it at other in
    let second = nat_eq value id in
    λ i. PutPoint (same_counts at other (first_so first second e) i) (same_number value id (second_so first second e) i)
same_change (PutTerm at value) (PutTerm other id) e =
    let first = counts.eq-value.it at other in
    let second = nat_eq value id in
    λ i. PutTerm (same_counts at other (first_so first second e) i) (same_number value id (second_so first second e) i)
same_change a b e = absurd cc

pub same_question : (a b : Question) → questions.eq-value.it a b ≡ true → a ≡ b
same_question a b e =
    let first = nat_eq a.id b.id in
    let second = changes.eq-value.it a.change b.change in
    let id = same_number a.id b.id (first_so first second e) in
    let change = same_change a.change b.change (second_so first second e) in
    λ i. record { id = id i; change = change i }

-- a question that is found is the one that was asked
pub found_is : (pairs : List (Question × Option ℕ)) (question : Question) (answer : Option ℕ) → lookup (questions.eq-value.it question) pairs ≡ Some answer
    → Contains pairs (question, answer)
found_is pairs question answer e =
    let found = Contains-lookup (questions.eq-value.it question) pairs answer e in
    subst (λ (q : Question). Contains pairs (q, answer)) (sym (same_question question found.0 found.2)) found.1

pub found : (pairs : List (Question × Option ℕ)) (question : Question) → IfSome (lookup (questions.eq-value.it question) pairs) (λ answer. Contains pairs (question, answer))
found pairs question = by (lookup (questions.eq-value.it question) pairs) refl
  where
    by : (o : Option (Option ℕ)) → lookup (questions.eq-value.it question) pairs ≡ o → IfSome o (λ answer. Contains pairs (question, answer))
    by None e = tt
    by (Some answer) e = found_is pairs question answer e

-- what is kept after one more answer
pub put_is : (table : LruCache Question (Option ℕ)) (question : Question) (answer : Option ℕ) (other : Question) (kept : Option ℕ)
    → Contains (put_entries questions.eq-value.it table question answer) (other, kept)
    → Contains table.entries (other, kept) ⊎ ((other ≡ question) × (kept ≡ answer))
put_is table question answer other kept is = elim (Contains-put_entries questions.eq-value.it table question answer (other, kept) is) [
  | inl before ↦ inl before
  | inr put ↦ inr (
    (elim put.1 [
      | inl same ↦ same
      | inr there ↦ sym (same_question question other there.2)
    ]),
    put.0,
  )
]

pub put_or_not : {X Y : Type 0} (result : Result X Y) (table new : LruCache Question (Option ℕ)) (question : Question) (answer : Option ℕ)
    → OnOk result (new ≡ lru_cache (put_entries questions.eq-value.it table question answer) table.cap) → OnErr result (new ≡ table)
    → (other : Question) (kept : Option ℕ) → Contains new.entries (other, kept)
    → Contains table.entries (other, kept) ⊎ ((other ≡ question) × (kept ≡ answer))
put_or_not (Ok x) table new question answer ok err other kept is =
    put_is table question answer other kept (subst (λ (t : LruCache Question (Option ℕ)). Contains t.entries (other, kept)) ok is)
put_or_not (Err y) table new question answer ok err other kept is =
    inl (subst (λ (t : LruCache Question (Option ℕ)). Contains t.entries (other, kept)) err is)

-- an answer stays right as a pool grows
module _ (old new : List Node) (grows : Grows old new) where
  named_kept : (change : VariableChange) → NamesNodes old change → NamesNodes new change × (changes_by new change ≡ changes_by old change)
  named_kept (Rise from by) h = (tt, refl)
  named_kept (PutPoint at value) h =
      (omega (arith, length-Grows old new grows, h), ap (putting Points (depth_of at)) (KeepsTrees-Grows old new grows value h))
  named_kept (PutTerm at value) h =
      (omega (arith, length-Grows old new grows, h), ap (putting Terms (depth_of at)) (KeepsTrees-Grows old new grows value h))

  pub asked_kept : (question : Question) → question.id < length old → NamesNodes old question.change → asked_tree new question ≡ asked_tree old question
  asked_kept question live named =
      ap (changed (changes_by new question.change) none) (KeepsTrees-Grows old new grows question.id live)
      ∙ ap (λ (c : Changes). changed c none (tree_of old question.id)) (named_kept question.change named).1

  answer_kept : (tree : Tree) (answer : Option ℕ) → IsAnswerOf old tree answer → IsAnswerOf new tree answer
  answer_kept tree None is = is
  answer_kept tree (Some id) is =
      (omega (arith, length-Grows old new grows, is.0), KeepsTrees-Grows old new grows id is.0 ∙ is.1)

  pub IsRight-Grows : (question : Question) (answer : Option ℕ) → IsRight old question answer → IsRight new question answer
  IsRight-Grows question answer right = record {
    live = omega (arith, length-Grows old new grows, right.live);
    named = (named_kept question.change right.named).0;
    is = subst (λ (t : Tree). IsAnswerOf new t answer) (sym (asked_kept question right.live right.named)) (answer_kept (asked_tree old question) answer right.is);
  }

  pub AreRight-Grows : (pairs : List (Question × Option ℕ)) → AreRight old pairs → AreRight new pairs
  AreRight-Grows pairs right question answer is = IsRight-Grows question answer (right question answer is)

-- where nothing is kept
pub AreRight-nothing : (nodes : List Node) (pairs : List (Question × Option ℕ)) → pairs ≡ [] → AreRight nodes pairs
AreRight-nothing nodes pairs none question answer is = let l = is.1 in absurd (omega (arith, ap length none, l))

-- an equal answer to an equal question, over equal nodes
pub IsRight-same : (old new : List Node) (question : Question) (answer : Option ℕ) (other : Question) (kept : Option ℕ) → old ≡ new
    → other ≡ question → kept ≡ answer → IsRight old question answer → IsRight new other kept
IsRight-same old new question answer other kept nodes same_question same_answer right =
    subst (λ (ns : List Node). IsRight ns other kept) nodes
    (subst (λ (q : Question). IsRight old q kept) (sym same_question) (subst (IsRight old question) (sym same_answer) right))
