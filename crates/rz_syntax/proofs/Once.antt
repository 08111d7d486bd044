-- Tokens are what a rule gives in one way, and so a file or a sequent in one way.
use Rattle.std.proofs.Common.{◌≡◌, ℕ, zero, Bool, true, false, cond, ◌||◌, List, [], ◌∷◌, ◌++◌, inl, inr, refl, sym, ap, ◌∙◌, subst}
use Rattle.rz_lex.specs.declared.token.Tok.{Tok}
use Rattle.rz_lex.specs.declared.token.Tok.TheVariants as token
use Rattle.rz_lex.specs.declared.token.Token.{Token}
use Rattle.rz_syntax.specs.declared.action.Action.TheVariants as act
use Rattle.rz_syntax.specs.declared.action.Step.{Step}
use Rattle.rz_syntax.specs.declared.forms.Commands.{Commands}
use Rattle.rz_syntax.specs.declared.forms.RawSequent.{RawSequent}
use Rattle.rz_syntax.specs.declared.grammar.Symbol.{Symbol}
use Rattle.rz_syntax.specs.declared.grammar.Symbol.TheVariants.{One, Sub, Do}
use Rattle.rz_syntax.specs.declared.grammar.Rule.{Rule}
use Rattle.rz_syntax.specs.declared.grammar.Rule.TheVariants as rule
use Rattle.rz_syntax.specs.Grammar.{IsOneOf, alternatives, Phrase, token, part, Gives, kinds_of}
use Rattle.rz_syntax.specs.Threads.{Goes, ends, takes, acts, opens, onto}
use Rattle.rz_syntax.specs.Building.{commands_by, sequent_by}
use Rattle.rz_syntax.specs.Source.{IsFile, IsSequent}
use Rattle.rz_syntax.proofs.Ways.{took, acted, opened_by}
use Rattle.rz_syntax.proofs.Phrases.{goes_of, phrase_of, splits}
use Rattle.rz_syntax.proofs.Starts.{one_of, none_of, is_in, firsts, firsts-append, passes, starts, Fits, fits_on, shared, Heads, choice}
use Rattle.rz_syntax.proofs.Colons.{colon_at, colon-steady, colon-through}

-- ---- behind an opening bracket

-- another token than the one that is expected
other_token : (kind : Tok) (symbols : List Symbol) (done : List Step) (rest : List Tok) (script : List Step) → (token.OpenParen ≡ kind → ⊥) → Goes (One kind ∷ symbols) done (token.OpenParen ∷ rest) script → ⊥
other_token kind symbols done rest script differs h = differs (took kind token.OpenParen symbols done rest script h).0

comma_blocks : (t : List Symbol) (kinds : List Tok) (steps : List Step) → Phrase (One token.Comma ∷ t) kinds steps → colon_at zero kinds ≡ false
comma_blocks t _ _ (token p) = refl

paren_blocks : (t : List Symbol) (kinds : List Tok) (steps : List Step) → Phrase (One token.CloseParen ∷ t) kinds steps → colon_at zero kinds ≡ false
paren_blocks t _ _ (token p) = refl

colon_comes : (t : List Symbol) (kinds : List Tok) (steps : List Step) → Phrase (One token.Colon ∷ t) kinds steps → colon_at zero kinds ≡ true
colon_comes t _ _ (token p) = refl

append_blocks : (front rest : List Tok) (t : List Symbol) (kind : Tok) (steps : List Step) → ((ks : List Tok) → colon_at zero (kind ∷ ks) ≡ false) → Phrase (One kind ∷ t) front steps → colon_at zero (front ++ rest) ≡ false
append_blocks _ rest t kind _ blocks (token {kinds} p) = blocks (kinds ++ rest)

closing_blocks : (t : List Symbol) (kinds : List Tok) (steps : List Step) → Phrase (Sub rule.Closing ∷ t) kinds steps → colon_at zero kinds ≡ false
unfolding alternatives
closing_blocks t _ _ (part {front} {rest} {before} among p q) = elim among [
  | inl a ↦ append_blocks front rest _ token.CloseParen before (λ ks. refl) (subst (λ (s : List Symbol). Phrase s front before) a p)
  | inr later ↦ elim later [
    | inl b ↦ append_blocks front rest _ token.Comma before (λ ks. refl) (subst (λ (s : List Symbol). Phrase s front before) b p)
    | inr none ↦ absurd none
  ]
]

false_true : {b : Bool} → b ≡ false → b ≡ true → ⊥
false_true x y = cc

is_false : (b : Bool) → (b ≡ true → ⊥) → b ≡ false
is_false true h = absurd (h refl)
is_false false h = refl

-- a term behind the bracket, and what closes it
pub term_without_colon : (t : List Symbol) (done : List Step) (kinds : List Tok) (script : List Step) → Goes (Sub rule.Term ∷ Sub rule.Closing ∷ t) done kinds script → colon_at zero kinds ≡ false
term_without_colon t done kinds script h =
    let p = phrase_of h in
    let s = splits (Sub rule.Term ∷ []) (Sub rule.Closing ∷ t) kinds p.steps p.phrase in
    is_false (colon_at zero kinds) (λ c.
    false_true (closing_blocks t s.rest s.after s.second)
    (colon-through s.first zero zero s.rest refl (subst (λ (ks : List Tok). colon_at zero ks ≡ true) s.kinds_are c)))

-- patterns behind the bracket, and a colon
pub binder_with_colon : (t : List Symbol) (done : List Step) (rest : List Tok) (script : List Step) → Goes (Sub rule.Binder ∷ t) done (token.OpenParen ∷ rest) script → colon_at zero rest ≡ true
unfolding alternatives
binder_with_colon t done rest script h =
    let by = opened_by h in
    elim by.1 [
      | inl a ↦
          (let g = subst (λ (s : List Symbol). Goes (s ++ t) done (token.OpenParen ∷ rest) script) a by.2 in
          let inside = (took _ _ _ _ _ _ g).1 in
          let p = phrase_of inside in
          let s = splits (Do act.OpenPatterns ∷ Sub rule.Pattern ∷ Do act.AddPattern ∷ Sub rule.Patterns ∷ []) _ rest p.steps p.phrase in
          ap (colon_at zero) s.kinds_are ∙ colon-steady s.first zero zero s.rest refl ∙ colon_comes _ s.rest s.after s.second)
      | inr later ↦ elim later [
        | inl b ↦ absurd (other_token token.OpenBrace _ _ _ _ (λ e. cc) (subst (λ (s : List Symbol). Goes (s ++ t) done (token.OpenParen ∷ rest) script) b by.2))
        | inr none ↦ absurd none
      ]
    ]

-- one pattern behind the bracket, and a comma
pub pattern_without_colon : (t : List Symbol) (done : List Step) (rest : List Tok) (script : List Step) → Goes (Sub rule.Pattern ∷ t) done (token.OpenParen ∷ rest) script → colon_at zero rest ≡ false
unfolding alternatives
pattern_without_colon t done rest script h =
    let by = opened_by h in
    elim by.1 [
      | inl a ↦ absurd (other_token token.Name _ _ _ _ (λ e. cc) (subst (λ (s : List Symbol). Goes (s ++ t) done (token.OpenParen ∷ rest) script) a by.2))
      | inr l ↦ elim l [
        | inl b ↦ absurd (other_token token.Blank _ _ _ _ (λ e. cc) (subst (λ (s : List Symbol). Goes (s ++ t) done (token.OpenParen ∷ rest) script) b by.2))
        | inr m ↦ elim m [
          | inl d ↦
              (let g = subst (λ (s : List Symbol). Goes (s ++ t) done (token.OpenParen ∷ rest) script) d by.2 in
              let inside = (took _ _ _ _ _ _ (acted g)).1 in
              let p = phrase_of inside in
              let s = splits (Sub rule.Pattern ∷ []) _ rest p.steps p.phrase in
              ap (colon_at zero) s.kinds_are ∙ colon-steady s.first zero zero s.rest refl ∙ comma_blocks _ s.rest s.after s.second)
          | inr none ↦ absurd none
        ]
      ]
    ]

-- ---- down to the bracket that a form begins with

abbrev Paren : List Symbol → List Step → List Tok → List Step → Type 0
Paren symbols done rest script = Goes symbols done (token.OpenParen ∷ rest) script

-- what is found behind the bracket, whatever was done before it
abbrev Blocked : List Tok → Type 0
Blocked rest = colon_at zero rest ≡ false

-- the alternatives that may begin with the bracket
abbrev bracketed : List (List Symbol) → List (List Symbol)
bracketed [] = []
bracketed (one ∷ others) = cond (is_in token.OpenParen (firsts one) || passes one) (one ∷ bracketed others) (bracketed others)

bracketed-in : (alts : List (List Symbol)) (one symbols : List Symbol) → IsOneOf one alts → is_in token.OpenParen (firsts (one ++ symbols)) ≡ true → IsOneOf one (bracketed alts)
bracketed-in [] one symbols among h = absurd among
bracketed-in (x ∷ xs) one symbols (inl same) h = by_test (is_in token.OpenParen (firsts x) || passes x) refl
  where
    by_test : (b : Bool) → (is_in token.OpenParen (firsts x) || passes x) ≡ b → IsOneOf one (cond b (x ∷ bracketed xs) (bracketed xs))
    by_test true e = inl same
    by_test false e = absurd (none_of (is_in token.OpenParen (firsts x)) (passes x) e (firsts-append token.OpenParen x symbols (subst (λ (s : List Symbol). is_in token.OpenParen (firsts (s ++ symbols)) ≡ true) same h)))
bracketed-in (x ∷ xs) one symbols (inr among) h = by_test (is_in token.OpenParen (firsts x) || passes x) (bracketed-in xs one symbols among h)
  where
    by_test : (b : Bool) → IsOneOf one (bracketed xs) → IsOneOf one (cond b (x ∷ bracketed xs) (bracketed xs))
    by_test true i = inr i
    by_test false i = i

-- the one alternative that may begin with the bracket is taken
only : (inner : Rule) (one t : List Symbol) (done : List Step) (rest : List Tok) (script : List Step) → bracketed (alternatives inner) ≡ one ∷ [] → Paren (Sub inner ∷ t) done rest script → Paren (one ++ t) done rest script
only inner one t done rest script e h =
    let by = opened_by h in
    let among : IsOneOf by.0 (one ∷ []) = subst (λ (alts : List (List Symbol)). IsOneOf by.0 alts) e (bracketed-in (alternatives inner) by.0 t by.1 (starts by.2)) in
    elim among [ inl same ↦ subst (λ (s : List Symbol). Paren (s ++ t) done rest script) same by.2 | inr none ↦ absurd none ]

-- a form behind the bracket, down to the bracket
rest_without_colon : (t : List Symbol) (done : List Step) (rest : List Tok) (script : List Step) → Paren (Sub rule.Rest ∷ t) done rest script → Blocked rest
unfolding alternatives
rest_without_colon t done rest script h =
    let a = only rule.Rest (Sub rule.Disjunction ∷ Sub rule.Faces ∷ []) t done rest script refl h in
    let b = only rule.Disjunction (Sub rule.Conjunction ∷ Sub rule.MoreDisjunction ∷ []) _ done rest script refl a in
    let c = only rule.Conjunction (Sub rule.Relation ∷ Sub rule.MoreConjunction ∷ []) _ done rest script refl b in
    let d = only rule.Relation (Sub rule.Product ∷ Sub rule.RightSide ∷ []) _ done rest script refl c in
    let e = only rule.Product (Sub rule.Application ∷ Sub rule.MoreProduct ∷ []) _ done rest script refl d in
    let f = only rule.Application (Do act.OpenArguments ∷ Sub rule.Head ∷ Sub rule.Arguments ∷ Do act.Apply ∷ []) _ done rest script refl e in
    let g = only rule.Head (Sub rule.Atom ∷ []) _ _ rest script refl (acted f) in
    let i = only rule.Atom (Do act.Here ∷ One token.OpenParen ∷ Sub rule.Term ∷ Sub rule.Closing ∷ []) _ _ rest script refl g in
    term_without_colon _ _ rest script ((took _ _ _ _ _ _ (acted i)).1)

-- ---- the two rules that begin alike with a bracket

-- where a term begins with a bracket: a binder, or not
term_by_colon : (one t : List Symbol) (done : List Step) (rest : List Tok) (script : List Step) → IsOneOf one (alternatives rule.Term) → Paren (one ++ t) done rest script
    → one ≡ cond (colon_at zero rest) (Do act.Here ∷ Do act.OpenBinds ∷ Sub rule.Binder ∷ One token.Arrow ∷ Sub rule.Term ∷ Do act.Arrows ∷ []) (Sub rule.Rest ∷ Sub rule.Tail ∷ [])
unfolding alternatives
term_by_colon one t done rest script among h = elim among [
  | inl a ↦ absurd (other_token token.Lambda _ _ _ _ (λ e. cc) (acted (acted (subst (λ (s : List Symbol). Paren (s ++ t) done rest script) a h))))
  | inr l ↦ elim l [
    | inl b ↦ (let yes : colon_at zero rest ≡ true = binder_with_colon _ _ rest script (acted (acted (subst (λ (s : List Symbol). Paren (s ++ t) done rest script) b h))) in rw yes b)
    | inr m ↦ elim m [
      | inl d ↦ absurd (other_token token.Sigma _ _ _ _ (λ e. cc) (acted (subst (λ (s : List Symbol). Paren (s ++ t) done rest script) d h)))
      | inr n ↦ elim n [
        | inl f ↦ (let not_so : colon_at zero rest ≡ false = rest_without_colon _ _ rest script (subst (λ (s : List Symbol). Paren (s ++ t) done rest script) f h) in rw not_so f)
        | inr none ↦ absurd none
      ]
    ]
  ]
]

-- where a parameter begins with a bracket: a binder, or a pattern
parameter_by_colon : (one t : List Symbol) (done : List Step) (rest : List Tok) (script : List Step) → IsOneOf one (alternatives rule.Parameter) → Paren (one ++ t) done rest script
    → one ≡ cond (colon_at zero rest) (Sub rule.Binder ∷ []) (Sub rule.Pattern ∷ Do act.AddUntyped ∷ [])
unfolding alternatives
parameter_by_colon one t done rest script among h = elim among [
  | inl a ↦ (let not_so : colon_at zero rest ≡ false = pattern_without_colon _ _ rest script (subst (λ (s : List Symbol). Paren (s ++ t) done rest script) a h) in rw not_so a)
  | inr l ↦ elim l [
    | inl b ↦ (let yes : colon_at zero rest ≡ true = binder_with_colon _ _ rest script (subst (λ (s : List Symbol). Paren (s ++ t) done rest script) b h) in rw yes b)
    | inr none ↦ absurd none
  ]
]

-- the token is the bracket
bracket : (kinds : List Tok) → Heads kinds (token.OpenParen ∷ []) → (rest : List Tok) × (kinds ≡ token.OpenParen ∷ rest)
bracket [] h = absurd h
bracket (kind ∷ kinds) h = (kinds, ap (λ (k : Tok). k ∷ kinds) (one_of kind h))

term_choice : (one other t : List Symbol) (done done' : List Step) (kinds : List Tok) (a b : List Step) → IsOneOf one (alternatives rule.Term) → IsOneOf other (alternatives rule.Term)
    → Goes (one ++ t) done kinds a → Goes (other ++ t) done' kinds b → Heads kinds (token.OpenParen ∷ []) → one ≡ other
term_choice one other t done done' kinds a b i j x y h =
    let k = bracket kinds h in
    term_by_colon one t done k.0 a i (subst (λ (ks : List Tok). Goes (one ++ t) done ks a) k.1 x)
    ∙ sym (term_by_colon other t done' k.0 b j (subst (λ (ks : List Tok). Goes (other ++ t) done' ks b) k.1 y))

parameter_choice : (one other t : List Symbol) (done done' : List Step) (kinds : List Tok) (a b : List Step) → IsOneOf one (alternatives rule.Parameter) → IsOneOf other (alternatives rule.Parameter)
    → Goes (one ++ t) done kinds a → Goes (other ++ t) done' kinds b → Heads kinds (token.OpenParen ∷ []) → one ≡ other
parameter_choice one other t done done' kinds a b i j x y h =
    let k = bracket kinds h in
    parameter_by_colon one t done k.0 a i (subst (λ (ks : List Tok). Goes (one ++ t) done ks a) k.1 x)
    ∙ sym (parameter_by_colon other t done' k.0 b j (subst (λ (ks : List Tok). Goes (other ++ t) done' ks b) k.1 y))

no_heads : (kinds : List Tok) → Heads kinds [] → ⊥
no_heads [] h = h
no_heads (kind ∷ kinds) h = cc

-- ---- one alternative, and so one script

abbrev Settled : Rule → Type 0
Settled inner = (one other t : List Symbol) (done done' : List Step) (kinds : List Tok) (a b : List Step) → IsOneOf one (alternatives inner) → IsOneOf other (alternatives inner)
    → Goes (one ++ t) done kinds a → Goes (other ++ t) done' kinds b → Heads kinds (shared inner) → one ≡ other

settled : (inner : Rule) → Settled inner
settled rule.Term = term_choice
settled rule.Parameter = parameter_choice
settled inner = λ one other t done done' kinds a b i j x y h. absurd (no_heads kinds h)

one_choice : (inner : Rule) (one other t : List Symbol) (done done' : List Step) (kinds : List Tok) (a b : List Step) → Fits (Sub inner ∷ t) → IsOneOf one (alternatives inner) → IsOneOf other (alternatives inner)
    → Goes (one ++ t) done kinds a → Goes (other ++ t) done' kinds b → one ≡ other
one_choice inner one other t done done' kinds a b f i j x y = elim (choice inner one other t kinds f i j (starts x) (starts y)) [
  | inl same ↦ same
  | inr heads ↦ settled inner one other t done done' kinds a b i j x y heads
]

ended : (done : List Step) (kinds : List Tok) (script : List Step) → Goes [] done kinds script → script ≡ onto done []
ended done _ _ ends = refl

once : {symbols : List Symbol} {done : List Step} {kinds : List Tok} {a : List Step} → Goes symbols done kinds a → (b : List Step) → Fits symbols → Goes symbols done kinds b → a ≡ b
once (ends {done}) b f y = sym (ended done [] b y)
once (takes {kind} {symbols} {done} {kinds} h) b f y = once h b f (took kind kind symbols done kinds b y).1
once (acts h) b f y = once h b f (acted y)
once (opens {rule} {symbols} {done} {kinds} {script} inner among h) b f y =
    let by = opened_by y in
    let same = one_choice rule inner by.0 symbols done done kinds script b f among by.1 h by.2 in
    once h b (fits_on rule symbols inner among f) (subst (λ (s : List Symbol). Goes (s ++ symbols) done kinds b) (sym same) by.2)

-- what a rule gives with nothing behind it
pub one_script : (start : Rule) (kinds : List Tok) (a b : List Step) → Gives start kinds a → Gives start kinds b → a ≡ b
one_script start kinds a b x y = once (goes_of start kinds a x) b ((λ kind h. cc), tt) (goes_of start kinds b y)

pub one_file : (text : List ℕ) (tokens : List Token) (a b : Commands) → IsFile text tokens a → IsFile text tokens b → a ≡ b
one_file text tokens a b x y = x.are ∙ ap (commands_by text tokens) (one_script rule.File (kinds_of tokens) x.steps y.steps x.gives y.gives) ∙ sym y.are

pub one_sequent : (text : List ℕ) (tokens : List Token) (a b : RawSequent) → IsSequent text tokens a → IsSequent text tokens b → a ≡ b
one_sequent text tokens a b x y = x.is ∙ ap (sequent_by text tokens) (one_script rule.Sequent (kinds_of tokens) x.steps y.steps x.gives y.gives) ∙ sym y.is
