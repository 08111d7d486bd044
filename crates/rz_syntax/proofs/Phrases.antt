-- What symbols give, and what is read from a list of them.
use Rattle.std.proofs.Common.{◌≡◌, List, [], ◌∷◌, ◌++◌, refl, sym, ap, ◌∙◌, subst, append-nil, append_assoc}
use Rattle.rz_lex.specs.declared.token.Tok.{Tok}
use Rattle.rz_syntax.specs.declared.action.Step.{Step}
use Rattle.rz_syntax.specs.declared.action.Step.TheVariants.{Take, Act}
use Rattle.rz_syntax.specs.declared.grammar.Symbol.{Symbol}
use Rattle.rz_syntax.specs.declared.grammar.Symbol.TheVariants.{One, Sub, Do}
use Rattle.rz_syntax.specs.declared.grammar.Rule.{Rule}
use Rattle.rz_syntax.specs.Grammar.{Phrase, nothing, token, action, part, Gives}
use Rattle.rz_syntax.specs.Threads.{Goes, ends, takes, acts, opens, onto}

onto-append : (xs ys done : List Step) → onto (xs ++ ys) done ≡ onto ys (onto xs done)
onto-append [] ys done = refl
onto-append (x ∷ xs) ys done = onto-append xs ys (x ∷ done)

onto-onto : (xs ys zs : List Step) → onto (onto xs ys) zs ≡ onto ys (xs ++ zs)
onto-onto [] ys zs = refl
onto-onto (x ∷ xs) ys zs = onto-onto xs (x ∷ ys) zs

-- a phrase is read from the front of a list of symbols
goes_by_phrase : {one : List Symbol} {front : List Tok} {before : List Step} → Phrase one front before
    → (symbols : List Symbol) (done : List Step) (rest : List Tok) (script : List Step) → Goes symbols (onto before done) rest script → Goes (one ++ symbols) done (front ++ rest) script
goes_by_phrase nothing symbols done rest script h = h
goes_by_phrase (token p) symbols done rest script h = takes (goes_by_phrase p symbols (Take ∷ done) rest script h)
goes_by_phrase (action {act} p) symbols done rest script h = acts (goes_by_phrase p symbols (Act act ∷ done) rest script h)
goes_by_phrase (part {rule} {symbols = later} {inner} {front} {rest = behind} {before} {after} among p q) symbols done rest script h =
    let second : Goes (later ++ symbols) (onto before done) (behind ++ rest) script = goes_by_phrase q symbols (onto before done) rest script (subst (λ (d : List Step). Goes symbols d rest script) (onto-append before after done) h) in
    let both : Goes (inner ++ (later ++ symbols)) done (front ++ (behind ++ rest)) script = goes_by_phrase p (later ++ symbols) done (behind ++ rest) script second in
    opens inner among (subst (λ (ks : List Tok). Goes (inner ++ (later ++ symbols)) done ks script) (sym (append_assoc front behind rest)) both)

-- a phrase of two lists of symbols
pub record Splits (one symbols : List Symbol) (kinds : List Tok) (steps : List Step) : Type 0 where
  pub front : List Tok
  pub rest : List Tok
  pub before : List Step
  pub after : List Step
  pub kinds_are : kinds ≡ front ++ rest
  pub steps_are : steps ≡ before ++ after
  pub first : Phrase one front before
  pub second : Phrase symbols rest after

pub splits : (one symbols : List Symbol) (kinds : List Tok) (steps : List Step) → Phrase (one ++ symbols) kinds steps → Splits one symbols kinds steps
splits [] symbols kinds steps p = record { front = []; rest = kinds; before = []; after = steps; kinds_are = refl; steps_are = refl; first = nothing; second = p }
splits (One kind ∷ one) symbols _ _ (token {kinds} {steps} p) =
    let s = splits one symbols kinds steps p in
    record { front = kind ∷ s.front; rest = s.rest; before = Take ∷ s.before; after = s.after; kinds_are = ap (λ (ks : List Tok). kind ∷ ks) s.kinds_are; steps_are = ap (λ (ts : List Step). Take ∷ ts) s.steps_are; first = token s.first; second = s.second }
splits (Do act ∷ one) symbols kinds _ (action {steps} p) =
    let s = splits one symbols kinds steps p in
    record { front = s.front; rest = s.rest; before = Act act ∷ s.before; after = s.after; kinds_are = s.kinds_are; steps_are = ap (λ (ts : List Step). Act act ∷ ts) s.steps_are; first = action s.first; second = s.second }
splits (Sub rule ∷ one) symbols _ _ (part {front} {rest} {before} {after} among p q) =
    let s = splits one symbols rest after q in
    record {
      front = front ++ s.front;
      rest = s.rest;
      before = before ++ s.before;
      after = s.after;
      kinds_are = ap (λ (ks : List Tok). front ++ ks) s.kinds_are ∙ sym (append_assoc front s.front s.rest);
      steps_are = ap (λ (ts : List Step). before ++ ts) s.steps_are ∙ sym (append_assoc before s.before s.after);
      first = part among p s.first;
      second = s.second;
    }

-- what is read from a list of symbols is a phrase
pub record PhraseOf (symbols : List Symbol) (done : List Step) (kinds : List Tok) (script : List Step) : Type 0 where
  pub steps : List Step
  pub phrase : Phrase symbols kinds steps
  pub are : script ≡ onto done steps

pub phrase_of : {symbols : List Symbol} {done : List Step} {kinds : List Tok} {script : List Step} → Goes symbols done kinds script → PhraseOf symbols done kinds script
phrase_of ends = record { steps = []; phrase = nothing; are = refl }
phrase_of (takes h) = let p = phrase_of h in record { steps = Take ∷ p.steps; phrase = token p.phrase; are = p.are }
phrase_of (acts {act} h) = let p = phrase_of h in record { steps = Act act ∷ p.steps; phrase = action p.phrase; are = p.are }
phrase_of (opens {rule} {symbols} {done} {kinds} inner among h) =
    let p = phrase_of h in
    let s = splits inner symbols kinds p.steps p.phrase in
    record {
      steps = s.before ++ s.after;
      phrase = subst (λ (ks : List Tok). Phrase (Sub rule ∷ symbols) ks (s.before ++ s.after)) (sym s.kinds_are) (part among s.first s.second);
      are = p.are ∙ ap (onto done) s.steps_are;
    }

-- the two are one
pub goes_of : (rule : Rule) (kinds : List Tok) (steps : List Step) → Gives rule kinds steps → Goes (Sub rule ∷ []) [] kinds steps
goes_of rule kinds steps p =
    let end : Goes [] (onto steps []) [] steps = subst (λ (s : List Step). Goes [] (onto steps []) [] s) (onto-onto steps [] [] ∙ append-nil steps) ends in
    subst (λ (ks : List Tok). Goes (Sub rule ∷ []) [] ks steps) (append-nil kinds) (goes_by_phrase p [] [] [] steps end)

pub gives_of : (rule : Rule) (kinds : List Tok) (steps : List Step) → Goes (Sub rule ∷ []) [] kinds steps → Gives rule kinds steps
gives_of rule kinds steps h =
    let p = phrase_of h in
    subst (λ (s : List Step). Phrase (Sub rule ∷ []) kinds s) (sym p.are) p.phrase
