-- Tokens have one answer.
use Rattle.std.proofs.Common.{◌≡◌, ℕ, zero, suc, ◌+◌, ◌<◌, ◌≤◌, Bool, true, false, List, [], ◌∷◌, ◌++◌, inl, inr, Result, Ok, Err, take, drop, refl, sym, ap, ◌∙◌, subst, arith, append_assoc}
use Rattle.std.specs.Prelude.{IfOk, OnOk, IfErr}
use Rattle.std.proofs.lemmas.List.{take-append-drop}
use Rattle.std.proofs.lemmas.Bool.{cases_lt}
use Rattle.rz_lex.specs.declared.token.Tok.{Tok}
use Rattle.rz_lex.specs.declared.token.Tok.TheVariants as token
use Rattle.rz_lex.specs.declared.token.Token.{Token}
use Rattle.rz_syntax.specs.declared.action.Step.{Step}
use Rattle.rz_syntax.specs.declared.fault.ParseFault.{ParseFault}
use Rattle.rz_syntax.specs.declared.fault.ParseFault.TheVariants.{NoLang, TooNested, Syntax, OutOfMemory}
use Rattle.rz_syntax.specs.declared.forms.Commands.{Commands}
use Rattle.rz_syntax.specs.declared.forms.RawSequent.{RawSequent}
use Rattle.rz_syntax.specs.declared.grammar.Symbol.TheVariants.{Sub}
use Rattle.rz_syntax.specs.declared.grammar.Rule.{Rule}
use Rattle.rz_syntax.specs.declared.grammar.Rule.TheVariants as rule
use Rattle.rz_syntax.specs.Grammar.{Gives, MayBegin, StopsAt, kinds_of}
use Rattle.rz_syntax.specs.Levels.{IsTooNestedAt, IsShallow}
use Rattle.rz_syntax.specs.Source.{IsFile, begins_file, IsRefusal, IsFaultOf, IsSequent, IsSequentRefusal, IsSequentFaultOf, UnlessMemory}
use Rattle.rz_syntax.proofs.Phrases.{goes_of}
use Rattle.rz_syntax.proofs.Starts.{Starts, starts, one_of_one}
use Rattle.rz_syntax.proofs.Once.{one_file, one_sequent}

-- a file begins with its first token
begins_by : (kinds : List Tok) → Starts kinds (Sub rule.File ∷ []) → begins_file kinds ≡ true
begins_by [] h = cc
begins_by (kind ∷ kinds) h = ap (λ (k : Tok). begins_file (k ∷ kinds)) (one_of_one kind token.LangCommand h)

file_begins : (kinds : List Tok) (steps : List Step) → Gives rule.File kinds steps → begins_file kinds ≡ true
file_begins kinds steps h = begins_by kinds (starts (goes_of rule.File kinds steps h))

deep_or_shallow : (kinds : List Tok) (number : ℕ) → IsTooNestedAt kinds number → IsShallow kinds → ⊥
deep_or_shallow kinds number deep shallow = shallow number deep.within deep.here

one_depth : (kinds : List Tok) (a b : ℕ) → IsTooNestedAt kinds a → IsTooNestedAt kinds b → a ≡ b
one_depth kinds a b x y = elim (cases_lt a b) [
  | inl less ↦ absurd (y.first a less x.here)
  | inr more ↦ elim (cases_lt b a) [ inl less ↦ absurd (x.first b less y.here) | inr least ↦ omega (arith, more, least) ]
]

may_begin_front : (inner : Rule) (front rest : List Tok) → MayBegin inner (front ++ rest) → MayBegin inner front
may_begin_front inner front rest h = (rest ++ h.0, h.1, subst (λ (ks : List Tok). Gives inner ks h.1) (append_assoc front rest h.0) h.2)

-- what begins something doesn't stop before
not_before : (inner : Rule) (kinds : List Tok) (a b : ℕ) → StopsAt inner kinds a → StopsAt inner kinds b → a < b → ⊥
not_before inner kinds a b x y less =
    let cut : take (a + 1) (take b kinds) ++ drop (a + 1) (take b kinds) ≡ take b kinds = take-append-drop (a + 1) (take b kinds) in
    let same : take (a + 1) (take b kinds) ≡ take (a + 1) kinds = take_fewer (a + 1) b kinds (omega (arith, less)) in
    x.here (omega (arith, less, y.within)) (subst (λ (ks : List Tok). MayBegin inner ks) same (may_begin_front inner (take (a + 1) (take b kinds)) (drop (a + 1) (take b kinds)) (subst (λ (ks : List Tok). MayBegin inner ks) (sym cut) y.before)))
  where
    take_fewer : (i j : ℕ) (ks : List Tok) → i ≤ j → take i (take j ks) ≡ take i ks
    take_fewer zero j ks h = refl
    take_fewer (suc i) zero ks h = absurd (omega (arith, h))
    take_fewer (suc i) (suc j) [] h = refl
    take_fewer (suc i) (suc j) (k ∷ ks) h = ap (λ (xs : List Tok). k ∷ xs) (take_fewer i j ks (omega (arith, h)))

one_stop : (inner : Rule) (kinds : List Tok) (a b : ℕ) → StopsAt inner kinds a → StopsAt inner kinds b → a ≡ b
one_stop inner kinds a b x y = elim (cases_lt a b) [
  | inl less ↦ absurd (not_before inner kinds a b x y less)
  | inr more ↦ elim (cases_lt b a) [ inl less ↦ absurd (not_before inner kinds b a y x less) | inr least ↦ omega (arith, more, least) ]
]

false_or_true : {b : Bool} → b ≡ false → b ≡ true → ⊥
false_or_true x y = cc

-- ---- refusals of tokens that are read by a rule

-- a token is nested too deep, or none is and the rule stops
abbrev Refuses : Rule → List Tok → ParseFault → Type 0
Refuses start kinds NoLang = ⊥
Refuses start kinds (TooNested token) = IsTooNestedAt kinds token
Refuses start kinds (Syntax token) = IsShallow kinds × StopsAt start kinds token
Refuses start kinds OutOfMemory = ⊥

-- two refusals of the same tokens are one
one_refusal : (start : Rule) (kinds : List Tok) (a b : ParseFault) → Refuses start kinds a → Refuses start kinds b → a ≡ b
one_refusal start kinds NoLang b x y = absurd x
one_refusal start kinds (TooNested s) NoLang x y = absurd y
one_refusal start kinds (TooNested s) (TooNested t) x y = ap (λ (n : ℕ). TooNested n) (one_depth kinds s t x y)
one_refusal start kinds (TooNested s) (Syntax t) x y = absurd (deep_or_shallow kinds s x y.0)
one_refusal start kinds (TooNested s) OutOfMemory x y = absurd y
one_refusal start kinds (Syntax s) NoLang x y = absurd y
one_refusal start kinds (Syntax s) (TooNested t) x y = absurd (deep_or_shallow kinds t y x.0)
one_refusal start kinds (Syntax s) (Syntax t) x y = ap (λ (n : ℕ). Syntax n) (one_stop start kinds s t x.1 y.1)
one_refusal start kinds (Syntax s) OutOfMemory x y = absurd y
one_refusal start kinds OutOfMemory b x y = absurd x

-- what the rule gives is not refused where no token is too deep
not_refused : (start : Rule) (kinds : List Tok) (steps : List Step) (fault : ParseFault) → IsShallow kinds → Gives start kinds steps → Refuses start kinds fault → ⊥
not_refused start kinds steps NoLang shallow gives x = x
not_refused start kinds steps (TooNested t) shallow gives x = deep_or_shallow kinds t x shallow
not_refused start kinds steps (Syntax t) shallow gives x = x.1.none steps gives
not_refused start kinds steps OutOfMemory shallow gives x = x

-- ---- answers, of whatever is read

-- the fault is such a refusal, or memory ran out
abbrev OrMemory : (ParseFault → Type 0) → ParseFault → Type 0
OrMemory Refused OutOfMemory = Unit {0}
OrMemory Refused fault = Refused fault

-- What is right of a reader: it answers what the tokens are, which is one, and tokens that are
-- something have no refusal, and others have one.
record Reader (T : Type 0) (Is : T → Type 0) (Refused : ParseFault → Type 0) : Type 0 where
  one : (a b : T) → Is a → Is b → a ≡ b
  one_fault : (a b : ParseFault) → Refused a → Refused b → a ≡ b
  never_both : (a : T) (fault : ParseFault) → Is a → Refused fault → ⊥

only_value : (T : Type 0) (Is : T → Type 0) (Refused : ParseFault → Type 0) → Reader T Is Refused → (answer : Result T ParseFault) → IfOk answer Is → IfErr answer (OrMemory Refused)
    → (wanted : T) → Is wanted → UnlessMemory answer (Ok wanted)
only_value T Is Refused r (Ok a) right fault wanted w = ap (λ (t : T). Ok t) (r.one a wanted right w)
only_value T Is Refused r (Err NoLang) right fault wanted w = absurd (r.never_both wanted NoLang w fault)
only_value T Is Refused r (Err (TooNested t)) right fault wanted w = absurd (r.never_both wanted (TooNested t) w fault)
only_value T Is Refused r (Err (Syntax t)) right fault wanted w = absurd (r.never_both wanted (Syntax t) w fault)
only_value T Is Refused r (Err OutOfMemory) right fault wanted w = tt

refusal : (T : Type 0) → ParseFault → Result T ParseFault
refusal T fault = Err fault

same_refusal : (T : Type 0) (a b : ParseFault) → a ≡ b → refusal T a ≡ refusal T b
same_refusal T a b e = ap (refusal T) e

only_fault : (T : Type 0) (Is : T → Type 0) (Refused : ParseFault → Type 0) → Reader T Is Refused → (answer : Result T ParseFault) → IfOk answer Is → IfErr answer (OrMemory Refused)
    → (wanted : ParseFault) → Refused wanted → UnlessMemory answer (Err wanted)
unfolding refusal
only_fault T Is Refused r (Ok a) right fault wanted w = absurd (r.never_both a wanted right w)
only_fault T Is Refused r (Err NoLang) right fault wanted w = same_refusal T NoLang wanted (r.one_fault NoLang wanted fault w)
only_fault T Is Refused r (Err (TooNested t)) right fault wanted w = same_refusal T (TooNested t) wanted (r.one_fault (TooNested t) wanted fault w)
only_fault T Is Refused r (Err (Syntax t)) right fault wanted w = same_refusal T (Syntax t) wanted (r.one_fault (Syntax t) wanted fault w)
only_fault T Is Refused r (Err OutOfMemory) right fault wanted w = tt

-- ---- files

-- where the text begins a file, another fault than NoLang comes
past_lang : (kinds : List Tok) (fault : ParseFault) → begins_file kinds ≡ true → IsRefusal kinds fault → Refuses rule.File kinds fault
past_lang kinds NoLang begins x = absurd (false_or_true x begins)
past_lang kinds (TooNested t) begins x = x.1
past_lang kinds (Syntax t) begins x = (x.1, x.2)
past_lang kinds OutOfMemory begins x = x

no_lang : (kinds : List Tok) (fault : ParseFault) → begins_file kinds ≡ false → IsRefusal kinds fault → fault ≡ NoLang
no_lang kinds NoLang none x = refl
no_lang kinds (TooNested t) none x = absurd (false_or_true none x.0)
no_lang kinds (Syntax t) none x = absurd (false_or_true none x.0)
no_lang kinds OutOfMemory none x = absurd x

one_file_refusal : (kinds : List Tok) (a b : ParseFault) → IsRefusal kinds a → IsRefusal kinds b → a ≡ b
one_file_refusal kinds a b x y = by_test (begins_file kinds) refl
  where
    by_test : (begins : Bool) → begins_file kinds ≡ begins → a ≡ b
    by_test true e = one_refusal rule.File kinds a b (past_lang kinds a e x) (past_lang kinds b e y)
    by_test false e = no_lang kinds a e x ∙ sym (no_lang kinds b e y)

-- the commands of tokens of which none is too deep
abbrev ShallowFile : List ℕ → List Token → Commands → Type 0
ShallowFile text tokens commands = IsShallow (kinds_of tokens) × IsFile text tokens commands

file_reader : (text : List ℕ) (tokens : List Token) → Reader Commands (ShallowFile text tokens) (IsRefusal (kinds_of tokens))
file_reader text tokens = record {
  one = λ a b x y. one_file text tokens a b x.1 y.1;
  one_fault = one_file_refusal (kinds_of tokens);
  never_both = λ a fault x refused.
      let kinds = kinds_of tokens in
      not_refused rule.File kinds x.1.steps fault x.0 x.1.gives (past_lang kinds fault (file_begins kinds x.1.steps x.1.gives) refused);
}

pub record Answer (text : List ℕ) (tokens : List Token) (answer : Result Commands ParseFault) : Type 0 where
  pub file : IfOk answer (IsFile text tokens)
  pub shallow : OnOk answer (IsShallow (kinds_of tokens))
  pub fault : IfErr answer (IsFaultOf (kinds_of tokens))

both : {T : Type 0} (Is : T → Type 0) (Shallow : Type 0) (answer : Result T ParseFault) → IfOk answer Is → OnOk answer Shallow → IfOk answer (λ (t : T). Shallow × Is t)
both Is Shallow (Ok t) x y = (y, x)
both Is Shallow (Err fault) x y = tt

pub only_file : (text : List ℕ) (tokens : List Token) (answer : Result Commands ParseFault) → Answer text tokens answer → (commands : Commands) → IsShallow (kinds_of tokens) → IsFile text tokens commands → UnlessMemory answer (Ok commands)
only_file text tokens answer a commands shallow file =
    only_value Commands (ShallowFile text tokens) (IsRefusal (kinds_of tokens)) (file_reader text tokens) answer (both (IsFile text tokens) (IsShallow (kinds_of tokens)) answer a.file a.shallow) a.fault commands (shallow, file)

pub only_refusal : (text : List ℕ) (tokens : List Token) (answer : Result Commands ParseFault) → Answer text tokens answer → (fault : ParseFault) → IsRefusal (kinds_of tokens) fault → UnlessMemory answer (Err fault)
only_refusal text tokens answer a fault x =
    only_fault Commands (ShallowFile text tokens) (IsRefusal (kinds_of tokens)) (file_reader text tokens) answer (both (IsFile text tokens) (IsShallow (kinds_of tokens)) answer a.file a.shallow) a.fault fault x

-- ---- sequents

-- the sequent of tokens of which none is too deep
abbrev ShallowSequent : List ℕ → List Token → RawSequent → Type 0
ShallowSequent text tokens sequent = IsShallow (kinds_of tokens) × IsSequent text tokens sequent

sequent_reader : (text : List ℕ) (tokens : List Token) → Reader RawSequent (ShallowSequent text tokens) (IsSequentRefusal (kinds_of tokens))
sequent_reader text tokens = record {
  one = λ a b x y. one_sequent text tokens a b x.1 y.1;
  one_fault = one_refusal rule.Sequent (kinds_of tokens);
  never_both = λ a fault x refused. not_refused rule.Sequent (kinds_of tokens) x.1.steps fault x.0 x.1.gives refused;
}

pub record SequentAnswer (text : List ℕ) (tokens : List Token) (answer : Result RawSequent ParseFault) : Type 0 where
  pub sequent : IfOk answer (IsSequent text tokens)
  pub shallow : OnOk answer (IsShallow (kinds_of tokens))
  pub fault : IfErr answer (IsSequentFaultOf (kinds_of tokens))

pub only_sequent : (text : List ℕ) (tokens : List Token) (answer : Result RawSequent ParseFault) → SequentAnswer text tokens answer → (sequent : RawSequent) → IsShallow (kinds_of tokens) → IsSequent text tokens sequent
    → UnlessMemory answer (Ok sequent)
only_sequent text tokens answer a sequent shallow is =
    only_value RawSequent (ShallowSequent text tokens) (IsSequentRefusal (kinds_of tokens)) (sequent_reader text tokens) answer (both (IsSequent text tokens) (IsShallow (kinds_of tokens)) answer a.sequent a.shallow) a.fault
    sequent (shallow, is)

pub only_sequent_refusal : (text : List ℕ) (tokens : List Token) (answer : Result RawSequent ParseFault) → SequentAnswer text tokens answer → (fault : ParseFault) → IsSequentRefusal (kinds_of tokens) fault
    → UnlessMemory answer (Err fault)
only_sequent_refusal text tokens answer a fault x =
    only_fault RawSequent (ShallowSequent text tokens) (IsSequentRefusal (kinds_of tokens)) (sequent_reader text tokens) answer (both (IsSequent text tokens) (IsShallow (kinds_of tokens)) answer a.sequent a.shallow) a.fault
    fault x
