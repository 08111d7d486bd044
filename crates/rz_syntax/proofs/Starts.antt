-- With which tokens that begin what is expected: a computation over the table, with a token of lookahead.
use Rattle.std.proofs.Common.{◌≡◌, Bool, true, false, not, cond, ◌&&◌, ◌||◌, List, [], ◌∷◌, ◌++◌, ◌⊎◌, inl, inr, refl, sym, ◌∙◌, subst, rules}
use denote.Enum.Bare.{sameb, same_true, true_same}
use Rattle.rz_lex.specs.declared.token.Tok.{Tok}
use Rattle.rz_lex.specs.declared.token.Tok.TheVariants as token
use Rattle.rz_lex.specs.contracts.token.Tok.{the_type}
use Rattle.rz_syntax.specs.declared.action.Step.{Step}
use Rattle.rz_syntax.specs.declared.grammar.Symbol.{Symbol}
use Rattle.rz_syntax.specs.declared.grammar.Symbol.TheVariants.{One, Sub, Do}
use Rattle.rz_syntax.specs.declared.grammar.Rule.{Rule}
use Rattle.rz_syntax.specs.declared.grammar.Rule.TheVariants as rule
use Rattle.rz_syntax.specs.Grammar.{IsOneOf, alternatives}
use Rattle.rz_syntax.specs.Threads.{Goes, ends, takes, acts, opens}

-- ---- sets of tokens

abbrev pub is_in : Tok → List Tok → Bool
is_in kind [] = false
is_in kind (first ∷ others) = sameb the_type kind first || is_in kind others

abbrev are_in : List Tok → List Tok → Bool
are_in [] kinds = true
are_in (first ∷ others) kinds = is_in first kinds && are_in others kinds

-- no token is in both, but for some
abbrev are_apart : List Tok → List Tok → List Tok → Bool
are_apart but [] kinds = true
are_apart but (first ∷ others) kinds = (is_in first but || not (is_in first kinds)) && are_apart but others kinds

either : (a b : Bool) → (a || b) ≡ true → (a ≡ true) ⊎ (b ≡ true)
either true b h = inl refl
either false b h = inr h

first_of_two : (a b : Bool) → a ≡ true → (a || b) ≡ true
first_of_two true b h = refl
first_of_two false b h = cc

second_of_two : (a b : Bool) → b ≡ true → (a || b) ≡ true
second_of_two true b h = refl
second_of_two false b h = h

pub two : (a b : Bool) → (a && b) ≡ true → (a ≡ true) × (b ≡ true)
two true b h = (refl, h)
two false b h = cc

both_are : (a b : Bool) → a ≡ true → b ≡ true → (a && b) ≡ true
both_are true b x y = y
both_are false b x y = cc

same_kind : (a b : Tok) → sameb the_type a b ≡ true → a ≡ b
same_kind a b h = same_true the_type (search rules) a b h

is_in-append : (kind : Tok) (xs ys : List Tok) → is_in kind (xs ++ ys) ≡ true → (is_in kind xs ≡ true) ⊎ (is_in kind ys ≡ true)
is_in-append kind [] ys h = inr h
is_in-append kind (x ∷ xs) ys h = elim (either (sameb the_type kind x) (is_in kind (xs ++ ys)) h) [
  | inl same ↦ inl (first_of_two (sameb the_type kind x) (is_in kind xs) same)
  | inr later ↦ elim (is_in-append kind xs ys later) [ inl a ↦ inl (second_of_two (sameb the_type kind x) (is_in kind xs) a) | inr b ↦ inr b ]
]

is_in-left : (kind : Tok) (xs ys : List Tok) → is_in kind xs ≡ true → is_in kind (xs ++ ys) ≡ true
is_in-left kind [] ys h = cc
is_in-left kind (x ∷ xs) ys h = elim (either (sameb the_type kind x) (is_in kind xs) h) [
  | inl same ↦ first_of_two (sameb the_type kind x) (is_in kind (xs ++ ys)) same
  | inr later ↦ second_of_two (sameb the_type kind x) (is_in kind (xs ++ ys)) (is_in-left kind xs ys later)
]

is_in-right : (kind : Tok) (xs ys : List Tok) → is_in kind ys ≡ true → is_in kind (xs ++ ys) ≡ true
is_in-right kind [] ys h = h
is_in-right kind (x ∷ xs) ys h = second_of_two (sameb the_type kind x) (is_in kind (xs ++ ys)) (is_in-right kind xs ys h)

is_in-all : (kind : Tok) (xs ys : List Tok) → are_in xs ys ≡ true → is_in kind xs ≡ true → is_in kind ys ≡ true
is_in-all kind [] ys a h = cc
is_in-all kind (x ∷ xs) ys a h =
    let parts = two (is_in x ys) (are_in xs ys) a in
    elim (either (sameb the_type kind x) (is_in kind xs) h) [
      | inl same ↦ subst (λ (k : Tok). is_in k ys ≡ true) (sym (same_kind kind x same)) parts.0
      | inr later ↦ is_in-all kind xs ys parts.1 later
    ]

not_false : (b : Bool) → not b ≡ true → b ≡ true → ⊥
not_false true h x = cc
not_false false h x = cc

pub apart-in : (but : List Tok) (kind : Tok) (xs ys : List Tok) → are_apart but xs ys ≡ true → is_in kind xs ≡ true → is_in kind ys ≡ true → is_in kind but ≡ true
apart-in but kind [] ys a h k = cc
apart-in but kind (x ∷ xs) ys a h k =
    let parts = two (is_in x but || not (is_in x ys)) (are_apart but xs ys) a in
    elim (either (sameb the_type kind x) (is_in kind xs) h) [
      | inl same ↦
          (let e : x ≡ kind = sym (same_kind kind x same) in
          elim (either (is_in x but) (not (is_in x ys)) parts.0) [
            | inl excused ↦ subst (λ (k : Tok). is_in k but ≡ true) e excused
            | inr outside ↦ absurd (not_false (is_in x ys) outside (subst (λ (k : Tok). is_in k ys ≡ true) (sym e) k))
          ])
      | inr later ↦ apart-in but kind xs ys parts.1 later k
    ]

pub one_of_one : (kind other : Tok) → is_in kind (other ∷ []) ≡ true → kind ≡ other
one_of_one kind other h = elim (either (sameb the_type kind other) false h) [ inl same ↦ same_kind kind other same | inr none ↦ cc ]

pub one_of : (kind : Tok) → is_in kind (token.OpenParen ∷ []) ≡ true → kind ≡ token.OpenParen
one_of kind h = one_of_one kind token.OpenParen h

false_is_true : false ≡ true → ⊥
false_is_true h = cc

pub none_of : {A : Type 0} (a b : Bool) → (a || b) ≡ false → (a ≡ true) ⊎ ((b ≡ true) × A) → ⊥
none_of true b e h = cc
none_of false true e h = cc
none_of false false e (inl h) = cc
none_of false false e (inr h) = false_is_true h.0

-- ---- the tokens with which each rule begins, those that may follow it, and whether it may give no token

abbrev first : Rule → List Tok
first rule.File = token.LangCommand ∷ []
first rule.Semicolons = token.Semicolon ∷ []
first rule.Commands = token.AssumeCommand ∷ token.CheckCommand ∷ token.ComputeCommand ∷ token.ComputeNfCommand ∷ token.ComputeWhnfCommand ∷ token.DefCommand ∷ token.DefineCommand ∷ token.EndCommand ∷ token.PostulateCommand ∷ token.SectionCommand ∷ token.SetOptionCommand ∷ token.UnsetOptionCommand ∷ token.VariableCommand ∷ token.VariablesCommand ∷ []
first rule.Command = token.AssumeCommand ∷ token.CheckCommand ∷ token.ComputeCommand ∷ token.ComputeNfCommand ∷ token.ComputeWhnfCommand ∷ token.DefCommand ∷ token.DefineCommand ∷ token.EndCommand ∷ token.PostulateCommand ∷ token.SectionCommand ∷ token.SetOptionCommand ∷ token.UnsetOptionCommand ∷ token.VariableCommand ∷ token.VariablesCommand ∷ []
first rule.Uses = token.Uses ∷ []
first rule.Words = token.Name ∷ []
first rule.Title = token.Name ∷ []
first rule.Binders = token.OpenBrace ∷ token.OpenParen ∷ []
first rule.Binder = token.OpenBrace ∷ token.OpenParen ∷ []
first rule.Tope = token.Bar ∷ []
first rule.Patterns = token.Blank ∷ token.Name ∷ token.OpenParen ∷ []
first rule.Pattern = token.Blank ∷ token.Name ∷ token.OpenParen ∷ []
first rule.Term = token.Bottom ∷ token.CubeOne ∷ token.CubeSort ∷ token.CubeTwo ∷ token.EndOne ∷ token.EndZero ∷ token.First ∷ token.IdJ ∷ token.Lambda ∷ token.Name ∷ token.OpenBrace ∷ token.OpenParen ∷ token.RecBot ∷ token.RecOr ∷ token.Refl ∷ token.ReflAt ∷ token.Second ∷ token.Sigma ∷ token.Star ∷ token.Top ∷ token.TopeSort ∷ token.UnitTerm ∷ token.UnitType ∷ token.Universe ∷ []
first rule.Tail = token.Arrow ∷ token.As ∷ []
first rule.Parameters = token.Blank ∷ token.Name ∷ token.OpenBrace ∷ token.OpenParen ∷ []
first rule.Parameter = token.Blank ∷ token.Name ∷ token.OpenBrace ∷ token.OpenParen ∷ []
first rule.Rest = token.Bottom ∷ token.CubeOne ∷ token.CubeSort ∷ token.CubeTwo ∷ token.EndOne ∷ token.EndZero ∷ token.First ∷ token.IdJ ∷ token.Name ∷ token.OpenParen ∷ token.RecBot ∷ token.RecOr ∷ token.Refl ∷ token.ReflAt ∷ token.Second ∷ token.Star ∷ token.Top ∷ token.TopeSort ∷ token.UnitTerm ∷ token.UnitType ∷ token.Universe ∷ []
first rule.Faces = token.OpenBracket ∷ []
first rule.MoreFaces = token.Comma ∷ []
first rule.Face = token.Bottom ∷ token.CubeOne ∷ token.CubeSort ∷ token.CubeTwo ∷ token.EndOne ∷ token.EndZero ∷ token.First ∷ token.IdJ ∷ token.Name ∷ token.OpenParen ∷ token.RecBot ∷ token.RecOr ∷ token.Refl ∷ token.ReflAt ∷ token.Second ∷ token.Star ∷ token.Top ∷ token.TopeSort ∷ token.UnitTerm ∷ token.UnitType ∷ token.Universe ∷ []
first rule.Disjunction = token.Bottom ∷ token.CubeOne ∷ token.CubeSort ∷ token.CubeTwo ∷ token.EndOne ∷ token.EndZero ∷ token.First ∷ token.IdJ ∷ token.Name ∷ token.OpenParen ∷ token.RecBot ∷ token.RecOr ∷ token.Refl ∷ token.ReflAt ∷ token.Second ∷ token.Star ∷ token.Top ∷ token.TopeSort ∷ token.UnitTerm ∷ token.UnitType ∷ token.Universe ∷ []
first rule.MoreDisjunction = token.Or ∷ []
first rule.Conjunction = token.Bottom ∷ token.CubeOne ∷ token.CubeSort ∷ token.CubeTwo ∷ token.EndOne ∷ token.EndZero ∷ token.First ∷ token.IdJ ∷ token.Name ∷ token.OpenParen ∷ token.RecBot ∷ token.RecOr ∷ token.Refl ∷ token.ReflAt ∷ token.Second ∷ token.Star ∷ token.Top ∷ token.TopeSort ∷ token.UnitTerm ∷ token.UnitType ∷ token.Universe ∷ []
first rule.MoreConjunction = token.And ∷ []
first rule.Relation = token.Bottom ∷ token.CubeOne ∷ token.CubeSort ∷ token.CubeTwo ∷ token.EndOne ∷ token.EndZero ∷ token.First ∷ token.IdJ ∷ token.Name ∷ token.OpenParen ∷ token.RecBot ∷ token.RecOr ∷ token.Refl ∷ token.ReflAt ∷ token.Second ∷ token.Star ∷ token.Top ∷ token.TopeSort ∷ token.UnitTerm ∷ token.UnitType ∷ token.Universe ∷ []
first rule.RightSide = token.AtMost ∷ token.Equal ∷ token.EqualAt ∷ token.SamePoint ∷ []
first rule.Product = token.Bottom ∷ token.CubeOne ∷ token.CubeSort ∷ token.CubeTwo ∷ token.EndOne ∷ token.EndZero ∷ token.First ∷ token.IdJ ∷ token.Name ∷ token.OpenParen ∷ token.RecBot ∷ token.RecOr ∷ token.Refl ∷ token.ReflAt ∷ token.Second ∷ token.Star ∷ token.Top ∷ token.TopeSort ∷ token.UnitTerm ∷ token.UnitType ∷ token.Universe ∷ []
first rule.MoreProduct = token.Product ∷ []
first rule.Application = token.Bottom ∷ token.CubeOne ∷ token.CubeSort ∷ token.CubeTwo ∷ token.EndOne ∷ token.EndZero ∷ token.First ∷ token.IdJ ∷ token.Name ∷ token.OpenParen ∷ token.RecBot ∷ token.RecOr ∷ token.Refl ∷ token.ReflAt ∷ token.Second ∷ token.Star ∷ token.Top ∷ token.TopeSort ∷ token.UnitTerm ∷ token.UnitType ∷ token.Universe ∷ []
first rule.Head = token.Bottom ∷ token.CubeOne ∷ token.CubeSort ∷ token.CubeTwo ∷ token.EndOne ∷ token.EndZero ∷ token.First ∷ token.IdJ ∷ token.Name ∷ token.OpenParen ∷ token.RecBot ∷ token.RecOr ∷ token.Refl ∷ token.ReflAt ∷ token.Second ∷ token.Star ∷ token.Top ∷ token.TopeSort ∷ token.UnitTerm ∷ token.UnitType ∷ token.Universe ∷ []
first rule.Arguments = token.Bottom ∷ token.CubeOne ∷ token.CubeSort ∷ token.CubeTwo ∷ token.EndOne ∷ token.EndZero ∷ token.IdJ ∷ token.Name ∷ token.OpenParen ∷ token.RecBot ∷ token.RecOr ∷ token.Refl ∷ token.ReflAt ∷ token.Star ∷ token.Top ∷ token.TopeSort ∷ token.UnitTerm ∷ token.UnitType ∷ token.Universe ∷ []
first rule.Atom = token.Bottom ∷ token.CubeOne ∷ token.CubeSort ∷ token.CubeTwo ∷ token.EndOne ∷ token.EndZero ∷ token.IdJ ∷ token.Name ∷ token.OpenParen ∷ token.RecBot ∷ token.RecOr ∷ token.Refl ∷ token.ReflAt ∷ token.Star ∷ token.Top ∷ token.TopeSort ∷ token.UnitTerm ∷ token.UnitType ∷ token.Universe ∷ []
first rule.ReflEnd = token.CloseBrace ∷ token.Colon ∷ []
first rule.Closing = token.CloseParen ∷ token.Comma ∷ []
first rule.Sequent = token.Bar ∷ token.Name ∷ []
first rule.Entries = token.Name ∷ []
first rule.MoreEntries = token.Comma ∷ []
first rule.Names = token.Name ∷ []
first rule.Hypotheses = token.Bottom ∷ token.CubeOne ∷ token.CubeSort ∷ token.CubeTwo ∷ token.EndOne ∷ token.EndZero ∷ token.First ∷ token.IdJ ∷ token.Lambda ∷ token.Name ∷ token.OpenBrace ∷ token.OpenParen ∷ token.RecBot ∷ token.RecOr ∷ token.Refl ∷ token.ReflAt ∷ token.Second ∷ token.Sigma ∷ token.Star ∷ token.Top ∷ token.TopeSort ∷ token.UnitTerm ∷ token.UnitType ∷ token.Universe ∷ []
first rule.MoreHypotheses = token.Comma ∷ []

abbrev follow : Rule → List Tok
follow rule.File = []
follow rule.Semicolons = token.AssumeCommand ∷ token.CheckCommand ∷ token.ComputeCommand ∷ token.ComputeNfCommand ∷ token.ComputeWhnfCommand ∷ token.DefCommand ∷ token.DefineCommand ∷ token.EndCommand ∷ token.PostulateCommand ∷ token.SectionCommand ∷ token.SetOptionCommand ∷ token.UnsetOptionCommand ∷ token.VariableCommand ∷ token.VariablesCommand ∷ []
follow rule.Commands = []
follow rule.Command = token.AssumeCommand ∷ token.CheckCommand ∷ token.ComputeCommand ∷ token.ComputeNfCommand ∷ token.ComputeWhnfCommand ∷ token.DefCommand ∷ token.DefineCommand ∷ token.EndCommand ∷ token.PostulateCommand ∷ token.SectionCommand ∷ token.Semicolon ∷ token.SetOptionCommand ∷ token.UnsetOptionCommand ∷ token.VariableCommand ∷ token.VariablesCommand ∷ []
follow rule.Uses = token.Colon ∷ token.OpenBrace ∷ token.OpenParen ∷ []
follow rule.Words = token.CloseParen ∷ token.Colon ∷ []
follow rule.Title = token.AssumeCommand ∷ token.CheckCommand ∷ token.ComputeCommand ∷ token.ComputeNfCommand ∷ token.ComputeWhnfCommand ∷ token.DefCommand ∷ token.DefineCommand ∷ token.EndCommand ∷ token.PostulateCommand ∷ token.SectionCommand ∷ token.Semicolon ∷ token.SetOptionCommand ∷ token.UnsetOptionCommand ∷ token.VariableCommand ∷ token.VariablesCommand ∷ []
follow rule.Binders = token.Colon ∷ []
follow rule.Binder = token.Arrow ∷ token.Blank ∷ token.Colon ∷ token.Name ∷ token.OpenBrace ∷ token.OpenParen ∷ []
follow rule.Tope = token.CloseParen ∷ []
follow rule.Patterns = token.Colon ∷ []
follow rule.Pattern = token.Arrow ∷ token.Blank ∷ token.CloseParen ∷ token.Colon ∷ token.Comma ∷ token.Name ∷ token.OpenBrace ∷ token.OpenParen ∷ []
follow rule.Term = token.AssumeCommand ∷ token.Bar ∷ token.CheckCommand ∷ token.CloseBrace ∷ token.CloseBracket ∷ token.CloseParen ∷ token.Colon ∷ token.ColonEqual ∷ token.Comma ∷ token.ComputeCommand ∷ token.ComputeNfCommand ∷ token.ComputeWhnfCommand ∷ token.DefCommand ∷ token.DefineCommand ∷ token.EndCommand ∷ token.PostulateCommand ∷ token.SectionCommand ∷ token.Semicolon ∷ token.SetOptionCommand ∷ token.Turnstile ∷ token.UnsetOptionCommand ∷ token.VariableCommand ∷ token.VariablesCommand ∷ []
follow rule.Tail = token.AssumeCommand ∷ token.Bar ∷ token.CheckCommand ∷ token.CloseBrace ∷ token.CloseBracket ∷ token.CloseParen ∷ token.Colon ∷ token.ColonEqual ∷ token.Comma ∷ token.ComputeCommand ∷ token.ComputeNfCommand ∷ token.ComputeWhnfCommand ∷ token.DefCommand ∷ token.DefineCommand ∷ token.EndCommand ∷ token.PostulateCommand ∷ token.SectionCommand ∷ token.Semicolon ∷ token.SetOptionCommand ∷ token.Turnstile ∷ token.UnsetOptionCommand ∷ token.VariableCommand ∷ token.VariablesCommand ∷ []
follow rule.Parameters = token.Arrow ∷ []
follow rule.Parameter = token.Arrow ∷ token.Blank ∷ token.Name ∷ token.OpenBrace ∷ token.OpenParen ∷ []
follow rule.Rest = token.Arrow ∷ token.As ∷ token.AssumeCommand ∷ token.Bar ∷ token.CheckCommand ∷ token.CloseBrace ∷ token.CloseBracket ∷ token.CloseParen ∷ token.Colon ∷ token.ColonEqual ∷ token.Comma ∷ token.ComputeCommand ∷ token.ComputeNfCommand ∷ token.ComputeWhnfCommand ∷ token.DefCommand ∷ token.DefineCommand ∷ token.EndCommand ∷ token.PostulateCommand ∷ token.SectionCommand ∷ token.Semicolon ∷ token.SetOptionCommand ∷ token.Turnstile ∷ token.UnsetOptionCommand ∷ token.VariableCommand ∷ token.VariablesCommand ∷ []
follow rule.Faces = token.Arrow ∷ token.As ∷ token.AssumeCommand ∷ token.Bar ∷ token.CheckCommand ∷ token.CloseBrace ∷ token.CloseBracket ∷ token.CloseParen ∷ token.Colon ∷ token.ColonEqual ∷ token.Comma ∷ token.ComputeCommand ∷ token.ComputeNfCommand ∷ token.ComputeWhnfCommand ∷ token.DefCommand ∷ token.DefineCommand ∷ token.EndCommand ∷ token.PostulateCommand ∷ token.SectionCommand ∷ token.Semicolon ∷ token.SetOptionCommand ∷ token.Turnstile ∷ token.UnsetOptionCommand ∷ token.VariableCommand ∷ token.VariablesCommand ∷ []
follow rule.MoreFaces = token.CloseBracket ∷ token.CloseParen ∷ []
follow rule.Face = token.CloseBracket ∷ token.CloseParen ∷ token.Comma ∷ []
follow rule.Disjunction = token.Arrow ∷ token.As ∷ token.AssumeCommand ∷ token.Bar ∷ token.CheckCommand ∷ token.CloseBrace ∷ token.CloseBracket ∷ token.CloseParen ∷ token.Colon ∷ token.ColonEqual ∷ token.Comma ∷ token.ComputeCommand ∷ token.ComputeNfCommand ∷ token.ComputeWhnfCommand ∷ token.DefCommand ∷ token.DefineCommand ∷ token.EndCommand ∷ token.MapsTo ∷ token.OpenBracket ∷ token.PostulateCommand ∷ token.SectionCommand ∷ token.Semicolon ∷ token.SetOptionCommand ∷ token.Turnstile ∷ token.UnsetOptionCommand ∷ token.VariableCommand ∷ token.VariablesCommand ∷ []
follow rule.MoreDisjunction = token.Arrow ∷ token.As ∷ token.AssumeCommand ∷ token.Bar ∷ token.CheckCommand ∷ token.CloseBrace ∷ token.CloseBracket ∷ token.CloseParen ∷ token.Colon ∷ token.ColonEqual ∷ token.Comma ∷ token.ComputeCommand ∷ token.ComputeNfCommand ∷ token.ComputeWhnfCommand ∷ token.DefCommand ∷ token.DefineCommand ∷ token.EndCommand ∷ token.MapsTo ∷ token.OpenBracket ∷ token.PostulateCommand ∷ token.SectionCommand ∷ token.Semicolon ∷ token.SetOptionCommand ∷ token.Turnstile ∷ token.UnsetOptionCommand ∷ token.VariableCommand ∷ token.VariablesCommand ∷ []
follow rule.Conjunction = token.Arrow ∷ token.As ∷ token.AssumeCommand ∷ token.Bar ∷ token.CheckCommand ∷ token.CloseBrace ∷ token.CloseBracket ∷ token.CloseParen ∷ token.Colon ∷ token.ColonEqual ∷ token.Comma ∷ token.ComputeCommand ∷ token.ComputeNfCommand ∷ token.ComputeWhnfCommand ∷ token.DefCommand ∷ token.DefineCommand ∷ token.EndCommand ∷ token.MapsTo ∷ token.OpenBracket ∷ token.Or ∷ token.PostulateCommand ∷ token.SectionCommand ∷ token.Semicolon ∷ token.SetOptionCommand ∷ token.Turnstile ∷ token.UnsetOptionCommand ∷ token.VariableCommand ∷ token.VariablesCommand ∷ []
follow rule.MoreConjunction = token.Arrow ∷ token.As ∷ token.AssumeCommand ∷ token.Bar ∷ token.CheckCommand ∷ token.CloseBrace ∷ token.CloseBracket ∷ token.CloseParen ∷ token.Colon ∷ token.ColonEqual ∷ token.Comma ∷ token.ComputeCommand ∷ token.ComputeNfCommand ∷ token.ComputeWhnfCommand ∷ token.DefCommand ∷ token.DefineCommand ∷ token.EndCommand ∷ token.MapsTo ∷ token.OpenBracket ∷ token.Or ∷ token.PostulateCommand ∷ token.SectionCommand ∷ token.Semicolon ∷ token.SetOptionCommand ∷ token.Turnstile ∷ token.UnsetOptionCommand ∷ token.VariableCommand ∷ token.VariablesCommand ∷ []
follow rule.Relation = token.And ∷ token.Arrow ∷ token.As ∷ token.AssumeCommand ∷ token.Bar ∷ token.CheckCommand ∷ token.CloseBrace ∷ token.CloseBracket ∷ token.CloseParen ∷ token.Colon ∷ token.ColonEqual ∷ token.Comma ∷ token.ComputeCommand ∷ token.ComputeNfCommand ∷ token.ComputeWhnfCommand ∷ token.DefCommand ∷ token.DefineCommand ∷ token.EndCommand ∷ token.MapsTo ∷ token.OpenBracket ∷ token.Or ∷ token.PostulateCommand ∷ token.SectionCommand ∷ token.Semicolon ∷ token.SetOptionCommand ∷ token.Turnstile ∷ token.UnsetOptionCommand ∷ token.VariableCommand ∷ token.VariablesCommand ∷ []
follow rule.RightSide = token.And ∷ token.Arrow ∷ token.As ∷ token.AssumeCommand ∷ token.Bar ∷ token.CheckCommand ∷ token.CloseBrace ∷ token.CloseBracket ∷ token.CloseParen ∷ token.Colon ∷ token.ColonEqual ∷ token.Comma ∷ token.ComputeCommand ∷ token.ComputeNfCommand ∷ token.ComputeWhnfCommand ∷ token.DefCommand ∷ token.DefineCommand ∷ token.EndCommand ∷ token.MapsTo ∷ token.OpenBracket ∷ token.Or ∷ token.PostulateCommand ∷ token.SectionCommand ∷ token.Semicolon ∷ token.SetOptionCommand ∷ token.Turnstile ∷ token.UnsetOptionCommand ∷ token.VariableCommand ∷ token.VariablesCommand ∷ []
follow rule.Product = token.And ∷ token.Arrow ∷ token.As ∷ token.AssumeCommand ∷ token.AtMost ∷ token.Bar ∷ token.CheckCommand ∷ token.CloseBrace ∷ token.CloseBracket ∷ token.CloseParen ∷ token.Colon ∷ token.ColonEqual ∷ token.Comma ∷ token.ComputeCommand ∷ token.ComputeNfCommand ∷ token.ComputeWhnfCommand ∷ token.DefCommand ∷ token.DefineCommand ∷ token.EndCommand ∷ token.Equal ∷ token.EqualAt ∷ token.MapsTo ∷ token.OpenBracket ∷ token.Or ∷ token.PostulateCommand ∷ token.SamePoint ∷ token.SectionCommand ∷ token.Semicolon ∷ token.SetOptionCommand ∷ token.Turnstile ∷ token.UnsetOptionCommand ∷ token.VariableCommand ∷ token.VariablesCommand ∷ []
follow rule.MoreProduct = token.And ∷ token.Arrow ∷ token.As ∷ token.AssumeCommand ∷ token.AtMost ∷ token.Bar ∷ token.CheckCommand ∷ token.CloseBrace ∷ token.CloseBracket ∷ token.CloseParen ∷ token.Colon ∷ token.ColonEqual ∷ token.Comma ∷ token.ComputeCommand ∷ token.ComputeNfCommand ∷ token.ComputeWhnfCommand ∷ token.DefCommand ∷ token.DefineCommand ∷ token.EndCommand ∷ token.Equal ∷ token.EqualAt ∷ token.MapsTo ∷ token.OpenBracket ∷ token.Or ∷ token.PostulateCommand ∷ token.SamePoint ∷ token.SectionCommand ∷ token.Semicolon ∷ token.SetOptionCommand ∷ token.Turnstile ∷ token.UnsetOptionCommand ∷ token.VariableCommand ∷ token.VariablesCommand ∷ []
follow rule.Application = token.And ∷ token.Arrow ∷ token.As ∷ token.AssumeCommand ∷ token.AtMost ∷ token.Bar ∷ token.CheckCommand ∷ token.CloseBrace ∷ token.CloseBracket ∷ token.CloseParen ∷ token.Colon ∷ token.ColonEqual ∷ token.Comma ∷ token.ComputeCommand ∷ token.ComputeNfCommand ∷ token.ComputeWhnfCommand ∷ token.DefCommand ∷ token.DefineCommand ∷ token.EndCommand ∷ token.Equal ∷ token.EqualAt ∷ token.MapsTo ∷ token.OpenBracket ∷ token.Or ∷ token.PostulateCommand ∷ token.Product ∷ token.SamePoint ∷ token.SectionCommand ∷ token.Semicolon ∷ token.SetOptionCommand ∷ token.Turnstile ∷ token.UnsetOptionCommand ∷ token.VariableCommand ∷ token.VariablesCommand ∷ []
follow rule.Head = token.And ∷ token.Arrow ∷ token.As ∷ token.AssumeCommand ∷ token.AtMost ∷ token.Bar ∷ token.Bottom ∷ token.CheckCommand ∷ token.CloseBrace ∷ token.CloseBracket ∷ token.CloseParen ∷ token.Colon ∷ token.ColonEqual ∷ token.Comma ∷ token.ComputeCommand ∷ token.ComputeNfCommand ∷ token.ComputeWhnfCommand ∷ token.CubeOne ∷ token.CubeSort ∷ token.CubeTwo ∷ token.DefCommand ∷ token.DefineCommand ∷ token.EndCommand ∷ token.EndOne ∷ token.EndZero ∷ token.Equal ∷ token.EqualAt ∷ token.IdJ ∷ token.MapsTo ∷ token.Name ∷ token.OpenBracket ∷ token.OpenParen ∷ token.Or ∷ token.PostulateCommand ∷ token.Product ∷ token.RecBot ∷ token.RecOr ∷ token.Refl ∷ token.ReflAt ∷ token.SamePoint ∷ token.SectionCommand ∷ token.Semicolon ∷ token.SetOptionCommand ∷ token.Star ∷ token.Top ∷ token.TopeSort ∷ token.Turnstile ∷ token.UnitTerm ∷ token.UnitType ∷ token.Universe ∷ token.UnsetOptionCommand ∷ token.VariableCommand ∷ token.VariablesCommand ∷ []
follow rule.Arguments = token.And ∷ token.Arrow ∷ token.As ∷ token.AssumeCommand ∷ token.AtMost ∷ token.Bar ∷ token.CheckCommand ∷ token.CloseBrace ∷ token.CloseBracket ∷ token.CloseParen ∷ token.Colon ∷ token.ColonEqual ∷ token.Comma ∷ token.ComputeCommand ∷ token.ComputeNfCommand ∷ token.ComputeWhnfCommand ∷ token.DefCommand ∷ token.DefineCommand ∷ token.EndCommand ∷ token.Equal ∷ token.EqualAt ∷ token.MapsTo ∷ token.OpenBracket ∷ token.Or ∷ token.PostulateCommand ∷ token.Product ∷ token.SamePoint ∷ token.SectionCommand ∷ token.Semicolon ∷ token.SetOptionCommand ∷ token.Turnstile ∷ token.UnsetOptionCommand ∷ token.VariableCommand ∷ token.VariablesCommand ∷ []
follow rule.Atom = token.And ∷ token.Arrow ∷ token.As ∷ token.AssumeCommand ∷ token.AtMost ∷ token.Bar ∷ token.Bottom ∷ token.CheckCommand ∷ token.CloseBrace ∷ token.CloseBracket ∷ token.CloseParen ∷ token.Colon ∷ token.ColonEqual ∷ token.Comma ∷ token.ComputeCommand ∷ token.ComputeNfCommand ∷ token.ComputeWhnfCommand ∷ token.CubeOne ∷ token.CubeSort ∷ token.CubeTwo ∷ token.DefCommand ∷ token.DefineCommand ∷ token.EndCommand ∷ token.EndOne ∷ token.EndZero ∷ token.Equal ∷ token.EqualAt ∷ token.IdJ ∷ token.MapsTo ∷ token.Name ∷ token.OpenBracket ∷ token.OpenParen ∷ token.Or ∷ token.PostulateCommand ∷ token.Product ∷ token.RecBot ∷ token.RecOr ∷ token.Refl ∷ token.ReflAt ∷ token.SamePoint ∷ token.SectionCommand ∷ token.Semicolon ∷ token.SetOptionCommand ∷ token.Star ∷ token.Top ∷ token.TopeSort ∷ token.Turnstile ∷ token.UnitTerm ∷ token.UnitType ∷ token.Universe ∷ token.UnsetOptionCommand ∷ token.VariableCommand ∷ token.VariablesCommand ∷ []
follow rule.ReflEnd = token.And ∷ token.Arrow ∷ token.As ∷ token.AssumeCommand ∷ token.AtMost ∷ token.Bar ∷ token.Bottom ∷ token.CheckCommand ∷ token.CloseBrace ∷ token.CloseBracket ∷ token.CloseParen ∷ token.Colon ∷ token.ColonEqual ∷ token.Comma ∷ token.ComputeCommand ∷ token.ComputeNfCommand ∷ token.ComputeWhnfCommand ∷ token.CubeOne ∷ token.CubeSort ∷ token.CubeTwo ∷ token.DefCommand ∷ token.DefineCommand ∷ token.EndCommand ∷ token.EndOne ∷ token.EndZero ∷ token.Equal ∷ token.EqualAt ∷ token.IdJ ∷ token.MapsTo ∷ token.Name ∷ token.OpenBracket ∷ token.OpenParen ∷ token.Or ∷ token.PostulateCommand ∷ token.Product ∷ token.RecBot ∷ token.RecOr ∷ token.Refl ∷ token.ReflAt ∷ token.SamePoint ∷ token.SectionCommand ∷ token.Semicolon ∷ token.SetOptionCommand ∷ token.Star ∷ token.Top ∷ token.TopeSort ∷ token.Turnstile ∷ token.UnitTerm ∷ token.UnitType ∷ token.Universe ∷ token.UnsetOptionCommand ∷ token.VariableCommand ∷ token.VariablesCommand ∷ []
follow rule.Closing = token.And ∷ token.Arrow ∷ token.As ∷ token.AssumeCommand ∷ token.AtMost ∷ token.Bar ∷ token.Bottom ∷ token.CheckCommand ∷ token.CloseBrace ∷ token.CloseBracket ∷ token.CloseParen ∷ token.Colon ∷ token.ColonEqual ∷ token.Comma ∷ token.ComputeCommand ∷ token.ComputeNfCommand ∷ token.ComputeWhnfCommand ∷ token.CubeOne ∷ token.CubeSort ∷ token.CubeTwo ∷ token.DefCommand ∷ token.DefineCommand ∷ token.EndCommand ∷ token.EndOne ∷ token.EndZero ∷ token.Equal ∷ token.EqualAt ∷ token.IdJ ∷ token.MapsTo ∷ token.Name ∷ token.OpenBracket ∷ token.OpenParen ∷ token.Or ∷ token.PostulateCommand ∷ token.Product ∷ token.RecBot ∷ token.RecOr ∷ token.Refl ∷ token.ReflAt ∷ token.SamePoint ∷ token.SectionCommand ∷ token.Semicolon ∷ token.SetOptionCommand ∷ token.Star ∷ token.Top ∷ token.TopeSort ∷ token.Turnstile ∷ token.UnitTerm ∷ token.UnitType ∷ token.Universe ∷ token.UnsetOptionCommand ∷ token.VariableCommand ∷ token.VariablesCommand ∷ []
follow rule.Sequent = []
follow rule.Entries = token.Bar ∷ []
follow rule.MoreEntries = token.Bar ∷ []
follow rule.Names = token.Bar ∷ token.Comma ∷ []
follow rule.Hypotheses = token.Turnstile ∷ []
follow rule.MoreHypotheses = token.Turnstile ∷ []

abbrev may_pass : Rule → Bool
may_pass rule.File = false
may_pass rule.Semicolons = true
may_pass rule.Commands = true
may_pass rule.Command = false
may_pass rule.Uses = true
may_pass rule.Words = true
may_pass rule.Title = true
may_pass rule.Binders = true
may_pass rule.Binder = false
may_pass rule.Tope = true
may_pass rule.Patterns = true
may_pass rule.Pattern = false
may_pass rule.Term = false
may_pass rule.Tail = true
may_pass rule.Parameters = true
may_pass rule.Parameter = false
may_pass rule.Rest = false
may_pass rule.Faces = true
may_pass rule.MoreFaces = true
may_pass rule.Face = false
may_pass rule.Disjunction = false
may_pass rule.MoreDisjunction = true
may_pass rule.Conjunction = false
may_pass rule.MoreConjunction = true
may_pass rule.Relation = false
may_pass rule.RightSide = true
may_pass rule.Product = false
may_pass rule.MoreProduct = true
may_pass rule.Application = false
may_pass rule.Head = false
may_pass rule.Arguments = true
may_pass rule.Atom = false
may_pass rule.ReflEnd = false
may_pass rule.Closing = false
may_pass rule.Sequent = false
may_pass rule.Entries = true
may_pass rule.MoreEntries = true
may_pass rule.Names = false
may_pass rule.Hypotheses = true
may_pass rule.MoreHypotheses = true

-- the tokens with which symbols begin, and whether they may give none
abbrev pub firsts : List Symbol → List Tok
firsts [] = []
firsts (One kind ∷ symbols) = kind ∷ []
firsts (Sub inner ∷ symbols) = cond (may_pass inner) (first inner ++ firsts symbols) (first inner)
firsts (Do act ∷ symbols) = firsts symbols

abbrev pub passes : List Symbol → Bool
passes [] = true
passes (One kind ∷ symbols) = false
passes (Sub inner ∷ symbols) = may_pass inner && passes symbols
passes (Do act ∷ symbols) = passes symbols

firsts-sub : (kind : Tok) (inner : Rule) (symbols : List Symbol) → is_in kind (first inner) ≡ true → is_in kind (firsts (Sub inner ∷ symbols)) ≡ true
firsts-sub kind inner symbols h = by_case (may_pass inner)
  where
    by_case : (b : Bool) → is_in kind (cond b (first inner ++ firsts symbols) (first inner)) ≡ true
    by_case true = is_in-left kind (first inner) (firsts symbols) h
    by_case false = h

firsts-past : (kind : Tok) (inner : Rule) (symbols : List Symbol) → may_pass inner ≡ true → is_in kind (firsts symbols) ≡ true → is_in kind (firsts (Sub inner ∷ symbols)) ≡ true
firsts-past kind inner symbols e h = rw e (is_in-right kind (first inner) (firsts symbols) h)

-- the first token of two lists of symbols
pub firsts-append : (kind : Tok) (one symbols : List Symbol) → is_in kind (firsts (one ++ symbols)) ≡ true → (is_in kind (firsts one) ≡ true) ⊎ ((passes one ≡ true) × (is_in kind (firsts symbols) ≡ true))
firsts-append kind [] symbols h = inr (refl, h)
firsts-append kind (One k ∷ one) symbols h = inl h
firsts-append kind (Do act ∷ one) symbols h = firsts-append kind one symbols h
firsts-append kind (Sub inner ∷ one) symbols h = by_case (may_pass inner) h (firsts-append kind one symbols)
  where
    by_case : (b : Bool) → is_in kind (cond b (first inner ++ firsts (one ++ symbols)) (first inner)) ≡ true
        → (is_in kind (firsts (one ++ symbols)) ≡ true → (is_in kind (firsts one) ≡ true) ⊎ ((passes one ≡ true) × (is_in kind (firsts symbols) ≡ true)))
        → (is_in kind (cond b (first inner ++ firsts one) (first inner)) ≡ true) ⊎ (((b && passes one) ≡ true) × (is_in kind (firsts symbols) ≡ true))
    by_case true h later = elim (is_in-append kind (first inner) (firsts (one ++ symbols)) h) [
      | inl a ↦ inl (is_in-left kind (first inner) (firsts one) a)
      | inr b ↦ elim (later b) [ inl c ↦ inl (is_in-right kind (first inner) (firsts one) c) | inr d ↦ inr d ]
    ]
    by_case false h later = inl h

pub passes-append : (one symbols : List Symbol) → passes (one ++ symbols) ≡ true → (passes one ≡ true) × (passes symbols ≡ true)
passes-append [] symbols h = (refl, h)
passes-append (One k ∷ one) symbols h = cc
passes-append (Do act ∷ one) symbols h = passes-append one symbols h
passes-append (Sub inner ∷ one) symbols h =
    let parts = two (may_pass inner) (passes (one ++ symbols)) h in
    let rest = passes-append one symbols parts.1 in
    (both_are (may_pass inner) (passes one) parts.0 rest.0, rest.1)

-- ---- the test on first tokens

abbrev implied : Bool → Bool → Bool
implied a b = not a || b

abbrev covers : Rule → List (List Symbol) → Bool
covers inner [] = true
covers inner (one ∷ others) = (are_in (firsts one) (first inner) && implied (passes one) (may_pass inner)) && covers inner others

covered : (inner : Rule) → covers inner (alternatives inner) ≡ true
unfolding alternatives
covered rule.File = refl
covered inner = refl

record Covered (inner : Rule) (one : List Symbol) : Type 0 where
  begin : are_in (firsts one) (first inner) ≡ true
  pass : implied (passes one) (may_pass inner) ≡ true

covered-at : (inner : Rule) (alts : List (List Symbol)) (one : List Symbol) → covers inner alts ≡ true → IsOneOf one alts → Covered inner one
covered-at inner [] one c among = absurd among
covered-at inner (x ∷ xs) one c (inl same) =
    let parts = two (are_in (firsts x) (first inner) && implied (passes x) (may_pass inner)) (covers inner xs) c in
    let here = two (are_in (firsts x) (first inner)) (implied (passes x) (may_pass inner)) parts.0 in
    subst (λ (y : List Symbol). Covered inner y) (sym same) (record { begin = here.0; pass = here.1 })
covered-at inner (x ∷ xs) one c (inr among) = covered-at inner xs one (two (are_in (firsts x) (first inner) && implied (passes x) (may_pass inner)) (covers inner xs) c).1 among

use_implied : (a b : Bool) → implied a b ≡ true → a ≡ true → b ≡ true
use_implied true b h x = h
use_implied false b h x = cc

-- the tokens begin as the symbols may
abbrev pub Starts : List Tok → List Symbol → Type 0
Starts [] symbols = passes symbols ≡ true
Starts (kind ∷ kinds) symbols = is_in kind (firsts symbols) ≡ true

starts-sub : (kinds : List Tok) (inner : Rule) (symbols one : List Symbol) → Covered inner one → Starts kinds (one ++ symbols) → Starts kinds (Sub inner ∷ symbols)
starts-sub [] inner symbols one c h =
    let parts = passes-append one symbols h in
    both_are (may_pass inner) (passes symbols) (use_implied (passes one) (may_pass inner) c.pass parts.0) parts.1
starts-sub (kind ∷ kinds) inner symbols one c h = elim (firsts-append kind one symbols h) [
  | inl a ↦ firsts-sub kind inner symbols (is_in-all kind (firsts one) (first inner) c.begin a)
  | inr b ↦ firsts-past kind inner symbols (use_implied (passes one) (may_pass inner) c.pass b.0) b.1
]

pub starts : {symbols : List Symbol} {done : List Step} {kinds : List Tok} {script : List Step} → Goes symbols done kinds script → Starts kinds symbols
starts ends = refl
starts (takes {kind} h) = first_of_two (sameb the_type kind kind) false (true_same the_type kind kind refl)
starts (acts {act} {symbols} {done} {kinds} h) = same_starts kinds (starts h)
  where
    same_starts : (ks : List Tok) → Starts ks symbols → Starts ks (Do act ∷ symbols)
    same_starts [] h = h
    same_starts (k ∷ ks) h = h
starts (opens {rule} {symbols} {done} {kinds} inner among h) = starts-sub kinds rule symbols inner (covered-at rule (alternatives rule) inner (covered rule) among) (starts h)

-- ---- what follows

-- after each rule in the list come only tokens that may follow it
abbrev pub Fits : List Symbol → Type 0
Fits [] = Unit {0}
Fits (One kind ∷ symbols) = Fits symbols
Fits (Sub inner ∷ symbols) = ((kind : Tok) → is_in kind (firsts symbols) ≡ true → is_in kind (follow inner) ≡ true) × Fits symbols
Fits (Do act ∷ symbols) = Fits symbols

abbrev fits_before : List Tok → List Symbol → Bool
fits_before after [] = true
fits_before after (One kind ∷ symbols) = fits_before after symbols
fits_before after (Sub inner ∷ symbols) = (are_in (firsts symbols) (follow inner) && implied (passes symbols) (are_in after (follow inner))) && fits_before after symbols
fits_before after (Do act ∷ symbols) = fits_before after symbols

abbrev all_fit : List Tok → List (List Symbol) → Bool
all_fit after [] = true
all_fit after (one ∷ others) = fits_before after one && all_fit after others

fitting : (inner : Rule) → all_fit (follow inner) (alternatives inner) ≡ true
unfolding alternatives
fitting rule.File = refl
fitting inner = refl

fits-at : (after : List Tok) (alts : List (List Symbol)) (one : List Symbol) → all_fit after alts ≡ true → IsOneOf one alts → fits_before after one ≡ true
fits-at after [] one c among = absurd among
fits-at after (x ∷ xs) one c (inl same) = subst (λ (y : List Symbol). fits_before after y ≡ true) (sym same) (two (fits_before after x) (all_fit after xs) c).0
fits-at after (x ∷ xs) one c (inr among) = fits-at after xs one (two (fits_before after x) (all_fit after xs) c).1 among

fits-append : (after : List Tok) (one symbols : List Symbol) → fits_before after one ≡ true → ((kind : Tok) → is_in kind (firsts symbols) ≡ true → is_in kind after ≡ true) → Fits symbols → Fits (one ++ symbols)
fits-append after [] symbols c bound h = h
fits-append after (One kind ∷ one) symbols c bound h = fits-append after one symbols c bound h
fits-append after (Do act ∷ one) symbols c bound h = fits-append after one symbols c bound h
fits-append after (Sub inner ∷ one) symbols c bound h =
    let parts = two (are_in (firsts one) (follow inner) && implied (passes one) (are_in after (follow inner))) (fits_before after one) c in
    let here = two (are_in (firsts one) (follow inner)) (implied (passes one) (are_in after (follow inner))) parts.0 in
    let here_fits : (kind : Tok) → is_in kind (firsts (one ++ symbols)) ≡ true → is_in kind (follow inner) ≡ true = λ kind k.
    elim (firsts-append kind one symbols k) [
      | inl a ↦ is_in-all kind (firsts one) (follow inner) here.0 a
      | inr b ↦ is_in-all kind after (follow inner) (use_implied (passes one) (are_in after (follow inner)) here.1 b.0) (bound kind b.1)
    ] in
    (here_fits, fits-append after one symbols parts.1 bound h)

-- what fits still does when a rule is replaced by one of its alternatives
pub fits_on : (inner : Rule) (symbols one : List Symbol) → IsOneOf one (alternatives inner) → Fits (Sub inner ∷ symbols) → Fits (one ++ symbols)
fits_on inner symbols one among h = fits-append (follow inner) one symbols (fits-at (follow inner) (alternatives inner) one (fitting inner) among) h.0 h.1

-- ---- one alternative at most

-- the tokens with which more than one alternative of a rule begins
abbrev pub shared : Rule → List Tok
shared rule.Term = token.OpenParen ∷ []
shared rule.Parameter = token.OpenParen ∷ []
shared _ = []

abbrev differ : List Tok → List Tok → List Symbol → List Symbol → Bool
differ but after one other =
    (not (passes one && passes other) && are_apart but (firsts one) (firsts other))
    && (implied (passes one) (are_apart [] (firsts other) after) && implied (passes other) (are_apart [] (firsts one) after))

abbrev differ_from : List Tok → List Tok → List Symbol → List (List Symbol) → Bool
differ_from but after one [] = true
differ_from but after one (other ∷ others) = differ but after one other && differ_from but after one others

abbrev all_differ : List Tok → List Tok → List (List Symbol) → Bool
all_differ but after [] = true
all_differ but after (one ∷ others) = differ_from but after one others && all_differ but after others

differing : (inner : Rule) → all_differ (shared inner) (follow inner) (alternatives inner) ≡ true
unfolding alternatives
differing rule.Term = refl
differing rule.Parameter = refl
differing inner = refl

-- the first token is one of these
abbrev pub Heads : List Tok → List Tok → Type 0
Heads [] but = ⊥
Heads (kind ∷ kinds) but = is_in kind but ≡ true

clash : (but after : List Tok) (one other symbols : List Symbol) (kinds : List Tok) → differ but after one other ≡ true → ((kind : Tok) → is_in kind (firsts symbols) ≡ true → is_in kind after ≡ true)
    → Starts kinds (one ++ symbols) → Starts kinds (other ++ symbols) → Heads kinds but
clash but after one other symbols [] d bound x y =
    let parts = two (not (passes one && passes other) && are_apart but (firsts one) (firsts other)) (implied (passes one) (are_apart [] (firsts other) after) && implied (passes other) (are_apart [] (firsts one) after)) d in
    let here = two (not (passes one && passes other)) (are_apart but (firsts one) (firsts other)) parts.0 in
    not_false (passes one && passes other) here.0 (both_are (passes one) (passes other) (passes-append one symbols x).0 (passes-append other symbols y).0)
clash but after one other symbols (kind ∷ kinds) d bound x y =
    let parts = two (not (passes one && passes other) && are_apart but (firsts one) (firsts other)) (implied (passes one) (are_apart [] (firsts other) after) && implied (passes other) (are_apart [] (firsts one) after)) d in
    let here = two (not (passes one && passes other)) (are_apart but (firsts one) (firsts other)) parts.0 in
    let past = two (implied (passes one) (are_apart [] (firsts other) after)) (implied (passes other) (are_apart [] (firsts one) after)) parts.1 in
    elim (firsts-append kind one symbols x) [
      | inl a ↦ elim (firsts-append kind other symbols y) [
        | inl b ↦ apart-in but kind (firsts one) (firsts other) here.1 a b
        | inr b ↦ (let none : is_in kind [] ≡ true = apart-in [] kind (firsts one) after (use_implied (passes other) (are_apart [] (firsts one) after) past.1 b.0) a (bound kind b.1) in cc)
      ]
      | inr a ↦ elim (firsts-append kind other symbols y) [
        | inl b ↦ (let none : is_in kind [] ≡ true = apart-in [] kind (firsts other) after (use_implied (passes one) (are_apart [] (firsts other) after) past.0 a.0) b (bound kind a.1) in cc)
        | inr b ↦ absurd (not_false (passes one && passes other) here.0 (both_are (passes one) (passes other) a.0 b.0))
      ]
    ]

clash_from : (but after : List Tok) (one other symbols : List Symbol) (alts : List (List Symbol)) (kinds : List Tok) → differ_from but after one alts ≡ true → IsOneOf other alts → ((kind : Tok) → is_in kind (firsts symbols) ≡ true → is_in kind after ≡ true)
    → Starts kinds (one ++ symbols) → Starts kinds (other ++ symbols) → Heads kinds but
clash_from but after one other symbols [] kinds d among bound x y = absurd among
clash_from but after one other symbols (z ∷ zs) kinds d (inl same) bound x y =
    clash but after one z symbols kinds (two (differ but after one z) (differ_from but after one zs) d).0 bound x (subst (λ (s : List Symbol). Starts kinds (s ++ symbols)) same y)
clash_from but after one other symbols (z ∷ zs) kinds d (inr among) bound x y =
    clash_from but after one other symbols zs kinds (two (differ but after one z) (differ_from but after one zs) d).1 among bound x y

choose : (but after : List Tok) (alts : List (List Symbol)) (one other symbols : List Symbol) (kinds : List Tok) → all_differ but after alts ≡ true → IsOneOf one alts → IsOneOf other alts → ((kind : Tok) → is_in kind (firsts symbols) ≡ true → is_in kind after ≡ true)
    → Starts kinds (one ++ symbols) → Starts kinds (other ++ symbols) → (one ≡ other) ⊎ Heads kinds but
choose but after [] one other symbols kinds d i j bound x y = absurd i
choose but after (z ∷ zs) one other symbols kinds d (inl a) (inl b) bound x y = inl (a ∙ sym b)
choose but after (z ∷ zs) one other symbols kinds d (inl a) (inr j) bound x y =
    inr (clash_from but after z other symbols zs kinds (two (differ_from but after z zs) (all_differ but after zs) d).0 j bound (subst (λ (s : List Symbol). Starts kinds (s ++ symbols)) a x) y)
choose but after (z ∷ zs) one other symbols kinds d (inr i) (inl b) bound x y =
    inr (clash_from but after z one symbols zs kinds (two (differ_from but after z zs) (all_differ but after zs) d).0 i bound (subst (λ (s : List Symbol). Starts kinds (s ++ symbols)) b y) x)
choose but after (z ∷ zs) one other symbols kinds d (inr i) (inr j) bound x y = choose but after zs one other symbols kinds (two (differ_from but after z zs) (all_differ but after zs) d).1 i j bound x y

-- two alternatives that begin alike are one, unless the token is shared
pub choice : (inner : Rule) (one other symbols : List Symbol) (kinds : List Tok) → Fits (Sub inner ∷ symbols) → IsOneOf one (alternatives inner) → IsOneOf other (alternatives inner)
    → Starts kinds (one ++ symbols) → Starts kinds (other ++ symbols) → (one ≡ other) ⊎ Heads kinds (shared inner)
choice inner one other symbols kinds h i j x y = choose (shared inner) (follow inner) (alternatives inner) one other symbols kinds (differing inner) i j h.0 x y
