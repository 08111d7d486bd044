-- Where a bracket opens, what stands behind it tells a binder from a term: behind patterns alone a colon comes, or not.
use Rattle.std.proofs.Common.{◌≡◌, ℕ, zero, suc, Bool, true, false, ◌&&◌, List, [], ◌∷◌, ◌++◌, inl, inr, refl, sym, ap, ◌∙◌, subst, append_assoc}
use Rattle.rz_lex.specs.declared.token.Tok.{Tok}
use Rattle.rz_lex.specs.declared.token.Tok.TheVariants as token
use Rattle.rz_syntax.specs.declared.action.Step.{Step}
use Rattle.rz_syntax.specs.declared.grammar.Symbol.{Symbol}
use Rattle.rz_syntax.specs.declared.grammar.Symbol.TheVariants.{One, Sub, Do}
use Rattle.rz_syntax.specs.declared.grammar.Rule.{Rule}
use Rattle.rz_syntax.specs.declared.grammar.Rule.TheVariants as rule
use Rattle.rz_syntax.specs.Grammar.{IsOneOf, alternatives, Phrase, nothing, token, action, part}
use Rattle.rz_syntax.proofs.Starts.{two}

pub data Mark : Type 0 where
  Plain : Mark
  Comma : Mark
  Opening : Mark
  Ending : Mark
  Colon : Mark
  Other : Mark

abbrev pub mark : Tok → Mark
mark token.Name = Plain
mark token.Blank = Plain
mark token.Comma = Comma
mark token.OpenParen = Opening
mark token.CloseParen = Ending
mark token.Colon = Colon
mark _ = Other

-- how a token goes on, in so many brackets
abbrev pub goes_by : Mark → ℕ → (ℕ → Bool) → Bool
goes_by Plain depth next = next depth
goes_by Comma zero next = false
goes_by Comma (suc depth) next = next (suc depth)
goes_by Opening depth next = next (suc depth)
goes_by Ending zero next = false
goes_by Ending (suc depth) next = next depth
goes_by Colon zero next = true
goes_by Colon (suc depth) next = false
goes_by Other depth next = false

-- Names, blanks, brackets and commas inside brackets come, and then a colon, outside so many brackets.
abbrev pub colon_at : ℕ → List Tok → Bool
colon_at depth [] = false
colon_at depth (kind ∷ kinds) = goes_by (mark kind) depth (λ (d : ℕ). colon_at d kinds)

abbrev pub deep : ℕ → ℕ → ℕ
deep zero depth = depth
deep (suc more) depth = suc (deep more depth)

-- ---- what keeps the depth: patterns

abbrev pub steady_by : Mark → ℕ → (ℕ → Bool) → Bool
steady_by Plain more next = next more
steady_by Comma zero next = false
steady_by Comma (suc more) next = next (suc more)
steady_by Opening more next = next (suc more)
steady_by Ending zero next = false
steady_by Ending (suc more) next = next more
steady_by Colon more next = false
steady_by Other more next = false

abbrev pub is_pattern : Rule → Bool
is_pattern rule.Pattern = true
is_pattern rule.Patterns = true
is_pattern _ = false

abbrev pub steady : ℕ → List Symbol → Bool
steady zero [] = true
steady (suc more) [] = false
steady more (One kind ∷ symbols) = steady_by (mark kind) more (λ (m : ℕ). steady m symbols)
steady more (Sub inner ∷ symbols) = is_pattern inner && steady more symbols
steady more (Do act ∷ symbols) = steady more symbols

abbrev pub all_steady : List (List Symbol) → Bool
all_steady [] = true
all_steady (one ∷ others) = steady zero one && all_steady others

steady-patterns : (inner : Rule) → is_pattern inner ≡ true → all_steady (alternatives inner) ≡ true
unfolding alternatives
steady-patterns rule.Pattern h = refl
steady-patterns rule.Patterns h = refl
steady-patterns inner h = cc

steady-at : (alts : List (List Symbol)) (one : List Symbol) → all_steady alts ≡ true → IsOneOf one alts → steady zero one ≡ true
steady-at [] one h among = absurd among
steady-at (x ∷ xs) one h (inl same) = subst (λ (y : List Symbol). steady zero y ≡ true) (sym same) (two (steady zero x) (all_steady xs) h).0
steady-at (x ∷ xs) one h (inr among) = steady-at xs one (two (steady zero x) (all_steady xs) h).1 among

steady_token : (m : Mark) (more depth : ℕ) (symbols : List Symbol) (kinds rest : List Tok) → steady_by m more (λ (n : ℕ). steady n symbols) ≡ true
    → ((n : ℕ) → steady n symbols ≡ true → colon_at (deep n depth) kinds ≡ colon_at depth rest)
    → goes_by m (deep more depth) (λ (d : ℕ). colon_at d kinds) ≡ colon_at depth rest
steady_token Plain more depth symbols kinds rest h later = later more h
steady_token Comma zero depth symbols kinds rest h later = cc
steady_token Comma (suc more) depth symbols kinds rest h later = later (suc more) h
steady_token Opening more depth symbols kinds rest h later = later (suc more) h
steady_token Ending zero depth symbols kinds rest h later = cc
steady_token Ending (suc more) depth symbols kinds rest h later = later more h
steady_token Colon more depth symbols kinds rest h later = cc
steady_token Other more depth symbols kinds rest h later = cc

pub colon-steady : {symbols : List Symbol} {front : List Tok} {steps : List Step} → Phrase symbols front steps → (more depth : ℕ) (rest : List Tok) → steady more symbols ≡ true → colon_at (deep more depth) (front ++ rest) ≡ colon_at depth rest
colon-steady nothing zero depth rest h = refl
colon-steady nothing (suc more) depth rest h = cc
colon-steady (token {kind} {symbols} {kinds} p) more depth rest h = steady_token (mark kind) more depth symbols (kinds ++ rest) rest (any_steady more h) (λ n s. colon-steady p n depth rest s)
  where
    any_steady : (more : ℕ) → steady more (One kind ∷ symbols) ≡ true → steady_by (mark kind) more (λ (n : ℕ). steady n symbols) ≡ true
    any_steady zero h = h
    any_steady (suc more) h = h
colon-steady (action {act} {symbols} p) more depth rest h = colon-steady p more depth rest (any_steady more h)
  where
    any_steady : (more : ℕ) → steady more (Do act ∷ symbols) ≡ true → steady more symbols ≡ true
    any_steady zero h = h
    any_steady (suc more) h = h
colon-steady (part {rule} {symbols} {inner} {front} {rest = behind} among p q) more depth rest h =
    let parts = two (is_pattern rule) (steady more symbols) (any_steady more h) in
    let inside : steady zero inner ≡ true = steady-at (alternatives rule) inner (steady-patterns rule parts.0) among in
    ap (colon_at (deep more depth)) (append_assoc front behind rest)
    ∙ colon-steady p zero (deep more depth) (behind ++ rest) inside
    ∙ colon-steady q more depth rest parts.1
  where
    any_steady : (more : ℕ) → steady more (Sub rule ∷ symbols) ≡ true → (is_pattern rule && steady more symbols) ≡ true
    any_steady zero h = h
    any_steady (suc more) h = h

-- ---- what lets no colon through at its own depth: terms

pub data Gap : Type 0 where
  Level : Gap
  Falls : Gap
  Loud : Gap

abbrev pub gap : Rule → Gap
gap rule.File = Loud
gap rule.Semicolons = Loud
gap rule.Commands = Loud
gap rule.Command = Loud
gap rule.Uses = Loud
gap rule.Words = Loud
gap rule.Title = Loud
gap rule.Binders = Level
gap rule.Binder = Level
gap rule.Tope = Level
gap rule.Patterns = Level
gap rule.Pattern = Level
gap rule.Term = Level
gap rule.Tail = Level
gap rule.Parameters = Level
gap rule.Parameter = Level
gap rule.Rest = Level
gap rule.Faces = Level
gap rule.MoreFaces = Level
gap rule.Face = Level
gap rule.Disjunction = Level
gap rule.MoreDisjunction = Level
gap rule.Conjunction = Level
gap rule.MoreConjunction = Level
gap rule.Relation = Level
gap rule.RightSide = Level
gap rule.Product = Level
gap rule.MoreProduct = Level
gap rule.Application = Level
gap rule.Head = Level
gap rule.Arguments = Level
gap rule.Atom = Level
gap rule.ReflEnd = Loud
gap rule.Closing = Falls
gap rule.Sequent = Loud
gap rule.Entries = Loud
gap rule.MoreEntries = Loud
gap rule.Names = Loud
gap rule.Hypotheses = Loud
gap rule.MoreHypotheses = Loud

abbrev pub quiet_by : Mark → ℕ → (ℕ → Bool) → Bool
quiet_by Plain more next = next more
quiet_by Comma more next = next more
quiet_by Opening more next = next (suc more)
quiet_by Ending zero next = false
quiet_by Ending (suc more) next = next more
quiet_by Colon zero next = false
quiet_by Colon (suc more) next = true
quiet_by Other more next = true

abbrev pub quiet_past : Gap → ℕ → (ℕ → Bool) → Bool
quiet_past Level more next = next more
quiet_past Falls zero next = false
quiet_past Falls (suc more) next = next more
quiet_past Loud more next = false

abbrev pub quiet : ℕ → List Symbol → Bool
quiet zero [] = true
quiet (suc more) [] = false
quiet more (One kind ∷ symbols) = quiet_by (mark kind) more (λ (m : ℕ). quiet m symbols)
quiet more (Sub inner ∷ symbols) = quiet_past (gap inner) more (λ (m : ℕ). quiet m symbols)
quiet more (Do act ∷ symbols) = quiet more symbols

abbrev pub all_quiet : ℕ → List (List Symbol) → Bool
all_quiet more [] = true
all_quiet more (one ∷ others) = quiet more one && all_quiet more others

abbrev pub keeps_quiet : Gap → List (List Symbol) → Bool
keeps_quiet Level alts = all_quiet zero alts
keeps_quiet Falls alts = all_quiet (suc zero) alts
keeps_quiet Loud alts = true

quietness : (inner : Rule) → keeps_quiet (gap inner) (alternatives inner) ≡ true
unfolding alternatives
quietness rule.File = refl
quietness inner = refl

quiet-at : (more : ℕ) (alts : List (List Symbol)) (one : List Symbol) → all_quiet more alts ≡ true → IsOneOf one alts → quiet more one ≡ true
quiet-at more [] one h among = absurd among
quiet-at more (x ∷ xs) one h (inl same) = subst (λ (y : List Symbol). quiet more y ≡ true) (sym same) (two (quiet more x) (all_quiet more xs) h).0
quiet-at more (x ∷ xs) one h (inr among) = quiet-at more xs one (two (quiet more x) (all_quiet more xs) h).1 among

-- what stands before tokens lets their colon through, if it is there
Through : List Symbol → List Tok → Type 0
Through symbols front = (more depth : ℕ) (rest : List Tok) → quiet more symbols ≡ true → colon_at (deep more depth) (front ++ rest) ≡ true → colon_at depth rest ≡ true

quiet_token : (m : Mark) (more depth : ℕ) (symbols : List Symbol) (kinds rest : List Tok) → quiet_by m more (λ (n : ℕ). quiet n symbols) ≡ true
    → ((n : ℕ) → quiet n symbols ≡ true → colon_at (deep n depth) kinds ≡ true → colon_at depth rest ≡ true)
    → goes_by m (deep more depth) (λ (d : ℕ). colon_at d kinds) ≡ true → colon_at depth rest ≡ true
quiet_token Plain more depth symbols kinds rest h later c = later more h c
quiet_token Comma zero zero symbols kinds rest h later c = cc
quiet_token Comma zero (suc depth) symbols kinds rest h later c = later zero h c
quiet_token Comma (suc more) depth symbols kinds rest h later c = later (suc more) h c
quiet_token Opening more depth symbols kinds rest h later c = later (suc more) h c
quiet_token Ending zero depth symbols kinds rest h later c = cc
quiet_token Ending (suc more) depth symbols kinds rest h later c = later more h c
quiet_token Colon zero depth symbols kinds rest h later c = cc
quiet_token Colon (suc more) depth symbols kinds rest h later c = cc
quiet_token Other more depth symbols kinds rest h later c = cc

quiet_rule : (g : Gap) (more depth : ℕ) (symbols : List Symbol) (alts : List (List Symbol)) (inner : List Symbol) (front behind rest : List Tok) → keeps_quiet g alts ≡ true → IsOneOf inner alts
    → ((n d : ℕ) (r : List Tok) → quiet n inner ≡ true → colon_at (deep n d) (front ++ r) ≡ true → colon_at d r ≡ true)
    → ((n : ℕ) → quiet n symbols ≡ true → colon_at (deep n depth) (behind ++ rest) ≡ true → colon_at depth rest ≡ true)
    → quiet_past g more (λ (n : ℕ). quiet n symbols) ≡ true → colon_at (deep more depth) (front ++ (behind ++ rest)) ≡ true → colon_at depth rest ≡ true
quiet_rule Level more depth symbols alts inner front behind rest k among x y h c = y more h (x zero (deep more depth) (behind ++ rest) (quiet-at zero alts inner k among) c)
quiet_rule Falls zero depth symbols alts inner front behind rest k among x y h c = cc
quiet_rule Falls (suc more) depth symbols alts inner front behind rest k among x y h c = y more h (x (suc zero) (deep more depth) (behind ++ rest) (quiet-at (suc zero) alts inner k among) c)
quiet_rule Loud more depth symbols alts inner front behind rest k among x y h c = cc

pub colon-through : {symbols : List Symbol} {front : List Tok} {steps : List Step} → Phrase symbols front steps → (more depth : ℕ) (rest : List Tok) → quiet more symbols ≡ true → colon_at (deep more depth) (front ++ rest) ≡ true → colon_at depth rest ≡ true
colon-through nothing zero depth rest h c = c
colon-through nothing (suc more) depth rest h c = cc
colon-through (token {kind} {symbols} {kinds} p) more depth rest h c = quiet_token (mark kind) more depth symbols (kinds ++ rest) rest (any_quiet more h) (λ n s. colon-through p n depth rest s) c
  where
    any_quiet : (more : ℕ) → quiet more (One kind ∷ symbols) ≡ true → quiet_by (mark kind) more (λ (n : ℕ). quiet n symbols) ≡ true
    any_quiet zero h = h
    any_quiet (suc more) h = h
colon-through (action {act} {symbols} p) more depth rest h c = colon-through p more depth rest (any_quiet more h) c
  where
    any_quiet : (more : ℕ) → quiet more (Do act ∷ symbols) ≡ true → quiet more symbols ≡ true
    any_quiet zero h = h
    any_quiet (suc more) h = h
colon-through (part {rule} {symbols} {inner} {front} {rest = behind} among p q) more depth rest h c =
    quiet_rule (gap rule) more depth symbols (alternatives rule) inner front behind rest (quietness rule) among (λ n d r. colon-through p n d r) (λ n. colon-through q n depth rest) (any_quiet more h)
    (subst (λ (ks : List Tok). colon_at (deep more depth) ks ≡ true) (append_assoc front behind rest) c)
  where
    any_quiet : (more : ℕ) → quiet more (Sub rule ∷ symbols) ≡ true → quiet_past (gap rule) more (λ (n : ℕ). quiet n symbols) ≡ true
    any_quiet zero h = h
    any_quiet (suc more) h = h
