-- What is expected can come: a computation over the table.
use Rattle.std.proofs.Common.{◌≡◌, ℕ, zero, suc, ◌+◌, ◌<◌, ◌≤◌, Bool, true, false, nat_lt, List, [], ◌∷◌, ◌++◌, inl, inr, Option, None, Some, cond, refl, arith}
use Rattle.std.proofs.lemmas.Bool.{ltb-true}
use Rattle.std.specs.Prelude.{is_some}
use Rattle.rz_lex.specs.declared.token.Tok.{Tok}
use Rattle.rz_syntax.specs.declared.action.Step.{Step}
use Rattle.rz_syntax.specs.declared.action.Step.TheVariants.{Take, Act}
use Rattle.rz_syntax.specs.declared.grammar.Symbol.{Symbol}
use Rattle.rz_syntax.specs.declared.grammar.Symbol.TheVariants.{One, Sub, Do}
use Rattle.rz_syntax.specs.declared.grammar.Rule.{Rule}
use Rattle.rz_syntax.specs.declared.grammar.Rule.TheVariants as rule
use Rattle.rz_syntax.specs.Grammar.{IsOneOf, alternatives}
use Rattle.rz_syntax.specs.Threads.{Goes, ends, takes, acts, opens, onto}

-- A rule has an alternative that takes fewer steps than its rank.
abbrev rank : Rule → ℕ
rank rule.File = 5
rank rule.Semicolons = 1
rank rule.Commands = 1
rank rule.Command = 5
rank rule.Uses = 1
rank rule.Words = 1
rank rule.Title = 1
rank rule.Binders = 1
rank rule.Binder = 32
rank rule.Tope = 2
rank rule.Patterns = 1
rank rule.Pattern = 3
rank rule.Term = 20
rank rule.Tail = 1
rank rule.Parameters = 1
rank rule.Parameter = 5
rank rule.Rest = 18
rank rule.Faces = 1
rank rule.MoreFaces = 1
rank rule.Face = 39
rank rule.Disjunction = 16
rank rule.MoreDisjunction = 1
rank rule.Conjunction = 14
rank rule.MoreConjunction = 1
rank rule.Relation = 12
rank rule.RightSide = 1
rank rule.Product = 10
rank rule.MoreProduct = 1
rank rule.Application = 8
rank rule.Head = 4
rank rule.Arguments = 1
rank rule.Atom = 3
rank rule.ReflEnd = 3
rank rule.Closing = 3
rank rule.Sequent = 26
rank rule.Entries = 1
rank rule.MoreEntries = 1
rank rule.Names = 26
rank rule.Hypotheses = 1
rank rule.MoreHypotheses = 1

abbrev size : List Symbol → ℕ
size [] = 0
size (One kind ∷ symbols) = 1 + size symbols
size (Sub inner ∷ symbols) = rank inner + size symbols
size (Do act ∷ symbols) = 1 + size symbols

size-append : (one others : List Symbol) → size (one ++ others) ≡ size one + size others
size-append [] others = omega arith
size-append (One kind ∷ one) others = omega (arith, size-append one others)
size-append (Sub inner ∷ one) others = omega (arith, size-append one others)
size-append (Do act ∷ one) others = omega (arith, size-append one others)

-- the first alternative of those that is smaller than a bound
abbrev smallest : ℕ → List (List Symbol) → Option (List Symbol)
smallest bound [] = None
smallest bound (one ∷ others) = cond (nat_lt (size one) bound) (Some one) (smallest bound others)

record Smaller (bound : ℕ) (alts : List (List Symbol)) : Type 0 where
  one : List Symbol
  among : IsOneOf one alts
  less : size one < bound

smaller : (bound : ℕ) (alts : List (List Symbol)) → is_some (smallest bound alts) ≡ true → Smaller bound alts
smaller bound [] h = cc
smaller bound (first ∷ others) h = by_test (nat_lt (size first) bound) refl h (smaller bound others)
  where
    by_test : (b : Bool) → nat_lt (size first) bound ≡ b → is_some (cond b (Some first) (smallest bound others)) ≡ true → (is_some (smallest bound others) ≡ true → Smaller bound others) → Smaller bound (first ∷ others)
    by_test true e h later = record { one = first; among = inl refl; less = ltb-true _ _ e }
    by_test false e h later = let s = later h in record { one = s.one; among = inr s.among; less = s.less }

-- the test: each rule has one
has_smaller : (inner : Rule) → is_some (smallest (rank inner) (alternatives inner)) ≡ true
unfolding alternatives
has_smaller rule.File = refl
has_smaller inner = refl

pub record Completes (symbols : List Symbol) (done : List Step) : Type 0 where
  pub kinds : List Tok
  pub script : List Step
  pub goes : Goes symbols done kinds script

completes_within : (fuel : ℕ) (symbols : List Symbol) (done : List Step) → size symbols ≤ fuel → Completes symbols done
completes_within fuel [] done h = record { kinds = []; script = onto done []; goes = ends }
completes_within zero (One kind ∷ symbols) done h = absurd (omega arith)
completes_within zero (Do act ∷ symbols) done h = absurd (omega arith)
completes_within zero (Sub inner ∷ symbols) done h =
    let s = smaller (rank inner) (alternatives inner) (has_smaller inner) in
    absurd (omega (arith, s.less, h))
completes_within (suc fuel) (One kind ∷ symbols) done h =
    let c = completes_within fuel symbols (Take ∷ done) (omega arith) in
    record { kinds = kind ∷ c.kinds; script = c.script; goes = takes c.goes }
completes_within (suc fuel) (Do act ∷ symbols) done h =
    let c = completes_within fuel symbols (Act act ∷ done) (omega arith) in
    record { kinds = c.kinds; script = c.script; goes = acts c.goes }
completes_within (suc fuel) (Sub inner ∷ symbols) done h =
    let s = smaller (rank inner) (alternatives inner) (has_smaller inner) in
    let c = completes_within fuel (s.one ++ symbols) done (omega (arith, size-append s.one symbols, s.less, h)) in
    record { kinds = c.kinds; script = c.script; goes = opens s.one s.among c.goes }

pub completes : (symbols : List Symbol) (done : List Step) → Completes symbols done
completes symbols done = completes_within (size symbols) symbols done (omega arith)
