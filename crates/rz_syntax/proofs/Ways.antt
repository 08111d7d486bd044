-- The ways in which tokens may go on, and what becomes of one that is looked at.
use Rattle.std.proofs.Common.{◌≡◌, Bool, true, false, List, [], ◌∷◌, ◌++◌, ◌⊎◌, inl, inr, Option, None, Some, refl, sym, subst, rules}
use Rattle.std.specs.Prelude.{is_some}
use denote.Enum.Bare.{sameb, same_true, true_same}
use Rattle.rz_lex.specs.declared.token.Tok.{Tok}
use Rattle.rz_lex.specs.contracts.token.Tok.{the_type}
use Rattle.rz_syntax.specs.declared.action.Action.{Action}
use Rattle.rz_syntax.specs.declared.action.Step.{Step}
use Rattle.rz_syntax.specs.declared.action.Step.TheVariants.{Take, Act}
use Rattle.rz_syntax.specs.declared.grammar.Symbol.{Symbol}
use Rattle.rz_syntax.specs.declared.grammar.Symbol.TheVariants.{One, Sub, Do}
use Rattle.rz_syntax.specs.declared.grammar.Rule.{Rule}
use Rattle.rz_syntax.specs.Grammar.{IsOneOf, alternatives}
use Rattle.rz_syntax.specs.Threads.{Goes, takes, acts, opens, Way, Lives, from_here, from_next, Open, Keeps, is_ahead, begins, opened}

-- ---- lists of ways

pub lives_left : (xs ys : List Way) (kinds : List Tok) (script : List Step) → Lives xs kinds script → Lives (xs ++ ys) kinds script
lives_left [] ys kinds script h = absurd h
lives_left (x ∷ xs) ys kinds script (inl h) = inl h
lives_left (x ∷ xs) ys kinds script (inr h) = inr (lives_left xs ys kinds script h)

pub lives_right : (xs ys : List Way) (kinds : List Tok) (script : List Step) → Lives ys kinds script → Lives (xs ++ ys) kinds script
lives_right [] ys kinds script h = h
lives_right (x ∷ xs) ys kinds script h = inr (lives_right xs ys kinds script h)

pub lives_split : (xs ys : List Way) (kinds : List Tok) (script : List Step) → Lives (xs ++ ys) kinds script → Lives xs kinds script ⊎ Lives ys kinds script
lives_split [] ys kinds script h = inr h
lives_split (x ∷ xs) ys kinds script (inl h) = inl (inl h)
lives_split (x ∷ xs) ys kinds script (inr h) = elim (lives_split xs ys kinds script h) [ inl a ↦ inl (inr a) | inr b ↦ inr b ]

pub keeps_all : (ahead : Option Tok) (pending live : List Way) → Keeps ahead pending live pending live
keeps_all ahead pending live = record { forth = λ rest script h. h; back = λ rest script h. h }

pub keeps_on : (ahead : Option Tok) (p d p' d' p'' d'' : List Way) → Keeps ahead p d p' d' → Keeps ahead p' d' p'' d'' → Keeps ahead p d p'' d''
keeps_on ahead p d p' d' p'' d'' x y = record { forth = λ rest script h. y.forth rest script (x.forth rest script h); back = λ rest script h. x.back rest script (y.back rest script h) }

-- what one way becomes, beside others
pub record Becomes (ahead : Option Tok) (way : Way) (pending live : List Way) : Type 0 where
  pub forth : (rest : List Tok) (script : List Step) → Goes way.0 way.1 (from_here ahead rest) script → Open ahead pending live rest script
  pub back : (rest : List Tok) (script : List Step) → Open ahead pending live rest script → Goes way.0 way.1 (from_here ahead rest) script

keeps_one : (ahead : Option Tok) (way : Way) (others done pending live : List Way) → Becomes ahead way pending live → Keeps ahead (others ++ way ∷ []) done (others ++ pending) (done ++ live)
keeps_one ahead way others done pending live one = record {
  forth = λ rest script h. elim h [
    | inl before ↦ elim (lives_split others (way ∷ []) (from_here ahead rest) script before) [
      | inl other ↦ inl (lives_left others pending (from_here ahead rest) script other)
      | inr here ↦ elim here [
        | inl goes ↦ elim (one.forth rest script goes) [
          | inl p ↦ inl (lives_right others pending (from_here ahead rest) script p)
          | inr l ↦ inr (lives_right done live (from_next ahead rest) script l)
        ]
        | inr none ↦ absurd none
      ]
    ]
    | inr after ↦ inr (lives_left done live (from_next ahead rest) script after)
  ];
  back = λ rest script h. elim h [
    | inl before ↦ elim (lives_split others pending (from_here ahead rest) script before) [
      | inl other ↦ inl (lives_left others (way ∷ []) (from_here ahead rest) script other)
      | inr p ↦ inl (lives_right others (way ∷ []) (from_here ahead rest) script (inl (one.back rest script (inl p))))
    ]
    | inr after ↦ elim (lives_split done live (from_next ahead rest) script after) [
      | inl other ↦ inr other
      | inr l ↦ inl (lives_right others (way ∷ []) (from_here ahead rest) script (inl (one.back rest script (inr l))))
    ]
  ];
}

-- the same, for the lists as they are then
pub keeps_way : (ahead : Option Tok) (way : Way) (others done pending live p d : List Way) → Becomes ahead way pending live → p ≡ others ++ pending → d ≡ done ++ live → Keeps ahead (others ++ way ∷ []) done p d
keeps_way ahead way others done pending live p d one x y =
    subst (λ (ws : List Way). Keeps ahead (others ++ way ∷ []) done ws d) (sym x)
    (subst (λ (ws : List Way). Keeps ahead (others ++ way ∷ []) done (others ++ pending) ws) (sym y) (keeps_one ahead way others done pending live one))

-- ---- what one way becomes

ended_goes : (done : List Step) (kind : Tok) (rest : List Tok) (script : List Step) → Goes [] done (kind ∷ rest) script → ⊥
ended_goes done kind rest script h = elim h [ ]

-- nothing is expected and nothing comes
pub ended_at_end : (done : List Step) → Becomes None ([], done) [] (([], done) ∷ [])
ended_at_end done = record {
  forth = λ rest script h. inr (inl h);
  back = λ rest script h. elim h [ inl none ↦ absurd none | inr l ↦ elim l [ inl goes ↦ goes | inr none ↦ absurd none ] ];
}

-- nothing is expected, and a token comes
pub ended_before : (kind : Tok) (done : List Step) → Becomes (Some kind) ([], done) [] []
ended_before kind done = record {
  forth = λ rest script h. absurd (ended_goes done kind rest script h);
  back = λ rest script h. elim h [ inl none ↦ absurd none | inr none ↦ absurd none ];
}

pub took : (kind next : Tok) (symbols : List Symbol) (done : List Step) (rest : List Tok) (script : List Step) → Goes (One kind ∷ symbols) done (next ∷ rest) script → (next ≡ kind) × Goes symbols (Take ∷ done) rest script
took kind next symbols done rest script (takes h) = (refl, h)

took_none : (kind : Tok) (symbols : List Symbol) (done : List Step) (script : List Step) → Goes (One kind ∷ symbols) done [] script → ⊥
took_none kind symbols done script h = elim h [ ]

-- the token that is expected comes
pub taken : (kind : Tok) (symbols : List Symbol) (done : List Step) → Becomes (Some kind) (One kind ∷ symbols, done) [] ((symbols, Take ∷ done) ∷ [])
taken kind symbols done = record {
  forth = λ rest script h. inr (inl ((took kind kind symbols done rest script h).1));
  back = λ rest script h. elim h [ inl none ↦ absurd none | inr l ↦ elim l [ inl goes ↦ takes goes | inr none ↦ absurd none ] ];
}

barred : (ahead : Option Tok) (kind : Tok) (symbols : List Symbol) (done : List Step) (rest : List Tok) (script : List Step) → is_ahead kind ahead ≡ false → Goes (One kind ∷ symbols) done (from_here ahead rest) script → ⊥
barred None kind symbols done rest script fails h = took_none kind symbols done script h
barred (Some next) kind symbols done rest script fails h =
    let passes : sameb the_type next kind ≡ true = true_same the_type next kind (took kind next symbols done rest script h).0 in
    cc

-- another comes, or none
pub missed : (ahead : Option Tok) (kind : Tok) (symbols : List Symbol) (done : List Step) → is_ahead kind ahead ≡ false → Becomes ahead (One kind ∷ symbols, done) [] []
missed ahead kind symbols done fails = record {
  forth = λ rest script h. absurd (barred ahead kind symbols done rest script fails h);
  back = λ rest script h. elim h [ inl none ↦ absurd none | inr none ↦ absurd none ];
}

pub acted : {action : Action} {symbols : List Symbol} {done : List Step} {kinds : List Tok} {script : List Step} → Goes (Do action ∷ symbols) done kinds script → Goes symbols (Act action ∷ done) kinds script
acted (acts h) = h

-- an action is done
pub does : (ahead : Option Tok) (action : Action) (symbols : List Symbol) (done : List Step) → Becomes ahead (Do action ∷ symbols, done) ((symbols, Act action ∷ done) ∷ []) []
does ahead action symbols done = record {
  forth = λ rest script h. inl (inl (acted h));
  back = λ rest script h. elim h [ inl l ↦ elim l [ inl goes ↦ acts goes | inr none ↦ absurd none ] | inr none ↦ absurd none ];
}

-- symbols whose first token may not stand ahead
closed : (one symbols : List Symbol) (ahead : Option Tok) (done : List Step) (rest : List Tok) (script : List Step) → begins one ahead ≡ false → Goes (one ++ symbols) done (from_here ahead rest) script → ⊥
closed [] symbols ahead done rest script fails h = cc
closed (One kind ∷ one) symbols ahead done rest script fails h = barred ahead kind (one ++ symbols) done rest script fails h
closed (Sub rule ∷ one) symbols ahead done rest script fails h = cc
closed (Do action ∷ one) symbols ahead done rest script fails h = closed one symbols ahead (Act action ∷ done) rest script fails (acted h)

-- some alternative goes on so
abbrev pub GoesBy : List (List Symbol) → List Symbol → List Step → List Tok → List Step → Type 0
GoesBy alternatives symbols done kinds script = (inner : List Symbol) × IsOneOf inner alternatives × Goes (inner ++ symbols) done kinds script

pub opened_by : {rule : Rule} {symbols : List Symbol} {done : List Step} {kinds : List Tok} {script : List Step} → Goes (Sub rule ∷ symbols) done kinds script → GoesBy (alternatives rule) symbols done kinds script
opened_by (opens inner among h) = (inner, among, h)

opened_forth : (alts : List (List Symbol)) (ahead : Option Tok) (symbols : List Symbol) (done : List Step) (rest : List Tok) (script : List Step) (inner : List Symbol) → IsOneOf inner alts
    → Goes (inner ++ symbols) done (from_here ahead rest) script → Lives (opened alts ahead (symbols, done)) (from_here ahead rest) script
opened_forth [] ahead symbols done rest script inner among h = absurd among
opened_forth (one ∷ others) ahead symbols done rest script inner (inl same) h =
    let goes : Goes (one ++ symbols) done (from_here ahead rest) script = subst (λ (x : List Symbol). Goes (x ++ symbols) done (from_here ahead rest) script) same h in
    opened_first one others ahead symbols done rest script (begins one ahead) refl goes
  where
    opened_first : (one : List Symbol) (others : List (List Symbol)) (ahead : Option Tok) (symbols : List Symbol) (done : List Step) (rest : List Tok) (script : List Step) (b : Bool) → begins one ahead ≡ b
        → Goes (one ++ symbols) done (from_here ahead rest) script → Lives (opened (one ∷ others) ahead (symbols, done)) (from_here ahead rest) script
    opened_first one others ahead symbols done rest script true e h = rw e (inl h)
    opened_first one others ahead symbols done rest script false e h = absurd (closed one symbols ahead done rest script e h)
opened_forth (one ∷ others) ahead symbols done rest script inner (inr among) h =
    opened_later one others ahead symbols done rest script (begins one ahead) refl (opened_forth others ahead symbols done rest script inner among h)
  where
    opened_later : (one : List Symbol) (others : List (List Symbol)) (ahead : Option Tok) (symbols : List Symbol) (done : List Step) (rest : List Tok) (script : List Step) (b : Bool) → begins one ahead ≡ b
        → Lives (opened others ahead (symbols, done)) (from_here ahead rest) script → Lives (opened (one ∷ others) ahead (symbols, done)) (from_here ahead rest) script
    opened_later one others ahead symbols done rest script true e h = rw e (inr h)
    opened_later one others ahead symbols done rest script false e h = rw e h

goes_by_later : (one : List Symbol) (others : List (List Symbol)) (symbols : List Symbol) (done : List Step) (kinds : List Tok) (script : List Step) → GoesBy others symbols done kinds script → GoesBy (one ∷ others) symbols done kinds script
goes_by_later one others symbols done kinds script (inner, among, goes) = (inner, inr among, goes)

opened_by_test : (one : List Symbol) (others : List (List Symbol)) (ahead : Option Tok) (symbols : List Symbol) (done : List Step) (rest : List Tok) (script : List Step) (b : Bool) → begins one ahead ≡ b
    → (Lives (opened others ahead (symbols, done)) (from_here ahead rest) script → GoesBy others symbols done (from_here ahead rest) script)
    → Lives (opened (one ∷ others) ahead (symbols, done)) (from_here ahead rest) script → GoesBy (one ∷ others) symbols done (from_here ahead rest) script
opened_by_test one others ahead symbols done rest script true e later h =
    elim (rw e at h) [ inl goes ↦ (one, inl refl, goes) | inr l ↦ goes_by_later one others symbols done (from_here ahead rest) script (later l) ]
opened_by_test one others ahead symbols done rest script false e later h = goes_by_later one others symbols done (from_here ahead rest) script (later (rw e at h))

opened_back : (alts : List (List Symbol)) (ahead : Option Tok) (symbols : List Symbol) (done : List Step) (rest : List Tok) (script : List Step)
    → Lives (opened alts ahead (symbols, done)) (from_here ahead rest) script → GoesBy alts symbols done (from_here ahead rest) script
opened_back [] ahead symbols done rest script h = absurd h
opened_back (one ∷ others) ahead symbols done rest script h = opened_by_test one others ahead symbols done rest script (begins one ahead) refl (opened_back others ahead symbols done rest script) h

-- a rule is replaced by its alternatives
pub replaced : (ahead : Option Tok) (rule : Rule) (symbols : List Symbol) (done : List Step) → Becomes ahead (Sub rule ∷ symbols, done) (opened (alternatives rule) ahead (symbols, done)) []
replaced ahead rule symbols done = record {
  forth = λ rest script h. let by = opened_by h in inl (opened_forth (alternatives rule) ahead symbols done rest script by.0 by.1 by.2);
  back = λ rest script h. elim h [ inl l ↦ (let by = opened_back (alternatives rule) ahead symbols done rest script l in opens by.0 by.1 by.2) | inr none ↦ absurd none ];
}

-- ---- the same, for a way as it is known

pub ended_way : (ahead : Option Tok) (way : Way) → way.0 ≡ [] → is_some ahead ≡ false → Becomes ahead way [] (way ∷ [])
ended_way None way e none = subst (λ (s : List Symbol). Becomes None (s, way.1) [] ((s, way.1) ∷ [])) (sym e) (ended_at_end way.1)
ended_way (Some kind) way e none = cc

pub left_way : (ahead : Option Tok) (way : Way) → way.0 ≡ [] → is_some ahead ≡ true → Becomes ahead way [] []
left_way None way e some = cc
left_way (Some kind) way e some = subst (λ (s : List Symbol). Becomes (Some kind) (s, way.1) [] []) (sym e) (ended_before kind way.1)

pub taken_way : (ahead : Option Tok) (way : Way) (kind : Tok) (symbols : List Symbol) → way.0 ≡ One kind ∷ symbols → is_ahead kind ahead ≡ true → Becomes ahead way [] ((symbols, Take ∷ way.1) ∷ [])
taken_way None way kind symbols e fails = cc
taken_way (Some next) way kind symbols e passes =
    let same : kind ≡ next = sym (same_true the_type (search rules) next kind passes) in
    subst (λ (s : List Symbol). Becomes (Some next) (s, way.1) [] ((symbols, Take ∷ way.1) ∷ [])) (sym e)
    (subst (λ (k : Tok). Becomes (Some next) (One k ∷ symbols, way.1) [] ((symbols, Take ∷ way.1) ∷ [])) (sym same) (taken next symbols way.1))

pub missed_way : (ahead : Option Tok) (way : Way) (kind : Tok) (symbols : List Symbol) → way.0 ≡ One kind ∷ symbols → is_ahead kind ahead ≡ false → Becomes ahead way [] []
missed_way ahead way kind symbols e fails = subst (λ (s : List Symbol). Becomes ahead (s, way.1) [] []) (sym e) (missed ahead kind symbols way.1 fails)

pub does_way : (ahead : Option Tok) (way : Way) (act : Action) (symbols : List Symbol) → way.0 ≡ Do act ∷ symbols → Becomes ahead way ((symbols, Act act ∷ way.1) ∷ []) []
does_way ahead way act symbols e = subst (λ (s : List Symbol). Becomes ahead (s, way.1) ((symbols, Act act ∷ way.1) ∷ []) []) (sym e) (does ahead act symbols way.1)

pub replaced_way : (ahead : Option Tok) (way : Way) (rule : Rule) (symbols : List Symbol) → way.0 ≡ Sub rule ∷ symbols → Becomes ahead way (opened (alternatives rule) ahead (symbols, way.1)) []
replaced_way ahead way rule symbols e = subst (λ (s : List Symbol). Becomes ahead (s, way.1) (opened (alternatives rule) ahead (symbols, way.1)) []) (sym e) (replaced ahead rule symbols way.1)
