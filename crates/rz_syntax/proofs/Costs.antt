-- Each way that is looked at leaves less to look at: a computation over the table.
use Rattle.std.proofs.Common.{◌≡◌, ℕ, ◌+◌, ◌*◌, ◌<◌, ◌≤◌, Bool, true, false, ◌&&◌, nat_lt, nat_le, cond, List, [], ◌∷◌, ◌++◌, Option, refl, ap, ◌∙◌, arith}
use Rattle.std.proofs.lemmas.Bool.{ltb-true, leb-true}
use Rattle.std.proofs.Math.Nat.{mul-le-mul_right}
use Rattle.rz_lex.specs.declared.token.Tok.{Tok}
use Rattle.rz_syntax.specs.declared.action.Step.{Step}
use Rattle.rz_syntax.specs.declared.grammar.Symbol.{Symbol}
use Rattle.rz_syntax.specs.declared.grammar.Symbol.TheVariants.{One, Sub, Do}
use Rattle.rz_syntax.specs.declared.grammar.Rule.{Rule}
use Rattle.rz_syntax.specs.declared.grammar.Rule.TheVariants as rule
use Rattle.rz_syntax.specs.Grammar.{alternatives}
use Rattle.rz_syntax.specs.Threads.{begins, opened, opening, passing, cost, costs}

-- what some symbols cost before others: so much, and so many times the cost of the others
abbrev own : List Symbol → ℕ
own [] = 0
own (One kind ∷ symbols) = 1
own (Sub inner ∷ symbols) = opening inner + passing inner * own symbols
own (Do act ∷ symbols) = 1 + own symbols

abbrev passed : List Symbol → ℕ
passed [] = 1
passed (One kind ∷ symbols) = 0
passed (Sub inner ∷ symbols) = passing inner * passed symbols
passed (Do act ∷ symbols) = passed symbols

regroup : (o p a b c : ℕ) → o + p * (a + b * c) ≡ (o + p * a) + (p * b) * c
regroup o p a b c = grind arith

cost-append : (one others : List Symbol) → cost (one ++ others) ≡ own one + passed one * cost others
cost-append [] others = omega arith
cost-append (One kind ∷ one) others = omega arith
cost-append (Sub inner ∷ one) others = ap (λ (n : ℕ). opening inner + passing inner * n) (cost-append one others) ∙ regroup (opening inner) (passing inner) (own one) (passed one) (cost others)
cost-append (Do act ∷ one) others = omega (arith, cost-append one others)

abbrev owns : List (List Symbol) → ℕ
owns [] = 0
owns (one ∷ others) = own one + owns others

abbrev passes : List (List Symbol) → ℕ
passes [] = 0
passes (one ∷ others) = passed one + passes others

spread : (a b x y c : ℕ) → (a + b * c) + (x + y * c) ≡ (a + x) + (b + y) * c
spread a b x y c = grind arith

costs-by_test : (one : List Symbol) (others : List (List Symbol)) (ahead : Option Tok) (symbols : List Symbol) (done : List Step) (b : Bool) → costs (opened others ahead (symbols, done)) ≤ owns others + passes others * cost symbols
    → costs (cond b ((one ++ symbols, done) ∷ opened others ahead (symbols, done)) (opened others ahead (symbols, done))) ≤ (own one + owns others) + (passed one + passes others) * cost symbols
costs-by_test one others ahead symbols done true later = omega (arith, cost-append one symbols, later, spread (own one) (passed one) (owns others) (passes others) (cost symbols))
costs-by_test one others ahead symbols done false later = omega (arith, later, spread (own one) (passed one) (owns others) (passes others) (cost symbols))

costs-opened : (alts : List (List Symbol)) (ahead : Option Tok) (symbols : List Symbol) (done : List Step) → costs (opened alts ahead (symbols, done)) ≤ owns alts + passes alts * cost symbols
costs-opened [] ahead symbols done = omega arith
costs-opened (one ∷ others) ahead symbols done = costs-by_test one others ahead symbols done (begins one ahead) (costs-opened others ahead symbols done)

-- the test: the alternatives of a rule cost less than the rule
is_weighed : Rule → Bool
is_weighed inner = nat_lt (owns (alternatives inner)) (opening inner) && nat_le (passes (alternatives inner)) (passing inner)

weighed : (inner : Rule) → is_weighed inner ≡ true
unfolding is_weighed alternatives
weighed rule.File = refl
weighed inner = refl

both : (a b : Bool) → (a && b) ≡ true → (a ≡ true) × (b ≡ true)
both true b h = (refl, h)
both false b h = cc

-- what a rule opens costs less than it
pub costs-rule : (inner : Rule) (ahead : Option Tok) (symbols : List Symbol) (done : List Step) → costs (opened (alternatives inner) ahead (symbols, done)) < cost (Sub inner ∷ symbols)
unfolding is_weighed
costs-rule inner ahead symbols done =
    let parts = both (nat_lt (owns (alternatives inner)) (opening inner)) (nat_le (passes (alternatives inner)) (passing inner)) (weighed inner) in
    let less : owns (alternatives inner) < opening inner = ltb-true _ _ parts.0 in
    let few : passes (alternatives inner) ≤ passing inner = leb-true _ _ parts.1 in
    omega (arith, costs-opened (alternatives inner) ahead symbols done, less, mul-le-mul_right (cost symbols) few)
