-- The engine's steps over tokens, and the place where they stop.
use Rattle.std.proofs.Common.{◌≡◌, ℕ, zero, suc, ◌+◌, ◌<◌, ◌≤◌, List, [], ◌∷◌, ◌++◌, ◌⊎◌, inl, inr, None, Some, length, take, drop, get_or, map, refl, sym, ap, ◌∙◌, subst, arith, append-nil, append_assoc}
use Rattle.std.proofs.lemmas.List.{take_more, map-append, take_all, take-append-drop}
use Rattle.rz_lex.specs.declared.token.Tok.{Tok}
use Rattle.rz_lex.specs.declared.token.Token.{Token}
use Rattle.rz_syntax.specs.declared.grammar.Symbol.{Symbol}
use Rattle.rz_syntax.specs.declared.grammar.Symbol.TheVariants.{Sub}
use Rattle.rz_syntax.specs.declared.grammar.Rule.{Rule}
use Rattle.rz_syntax.specs.Grammar.{Gives, MayBegin, StopsAt, kinds_of}
use Rattle.rz_syntax.specs.Threads.{Goes, ends, onto, Way, Lives, Keeps, AreEnded, Reaches}
use Rattle.rz_syntax.proofs.Phrases.{goes_of, gives_of}
use Rattle.rz_syntax.proofs.Completing.{completes}

-- one way that expects what the rule gives
pub reaches_start : (rule : Rule) → Reaches rule [] ((Sub rule ∷ [], []) ∷ [])
reaches_start rule = record {
  forth = λ rest steps h. inl (goes_of rule rest steps h);
  back = λ rest steps h. elim h [ inl goes ↦ gives_of rule rest steps goes | inr none ↦ absurd none ];
}

only_live : {A : Type 0} → ⊥ ⊎ A → A
only_live (inl h) = absurd h
only_live (inr h) = h

only_pending : {A : Type 0} → A ⊎ ⊥ → A
only_pending (inl h) = h
only_pending (inr h) = absurd h

pub length-kinds : (tokens : List Token) → length (kinds_of tokens) ≡ length tokens
length-kinds [] = refl
length-kinds (t ∷ tokens) = ap suc (length-kinds tokens)

-- one more token
pub reaches_more : (rule : Rule) (kinds : List Tok) (kind : Tok) (live live' : List Way) → Reaches rule kinds live → Keeps (Some kind) live [] [] live' → Reaches rule (kinds ++ kind ∷ []) live'
reaches_more rule kinds kind live live' x k = record {
  forth = λ rest steps h. only_live (k.forth rest steps (inl (x.forth (kind ∷ rest) steps (subst (λ (ks : List Tok). Gives rule ks steps) (append_assoc kinds (kind ∷ []) rest) h))));
  back = λ rest steps h. subst (λ (ks : List Tok). Gives rule ks steps) (sym (append_assoc kinds (kind ∷ []) rest)) (x.back (kind ∷ rest) steps (only_pending (k.back rest steps (inr h))));
}

pub kinds-take : (tokens : List Token) (i : ℕ) → kinds_of (take i tokens) ≡ take i (kinds_of tokens)
kinds-take tokens i = map-take (λ (t : Token). t.kind) tokens i
  where
    map-take : (f : Token → Tok) (ts : List Token) (n : ℕ) → map f (take n ts) ≡ take n (map f ts)
    map-take f ts zero = refl
    map-take f [] (suc n) = refl
    map-take f (t ∷ ts) (suc n) = ap (λ (ks : List Tok). f t ∷ ks) (map-take f ts n)

pub kinds-more : (tokens : List Token) (i : ℕ) (d : Token) → i < length tokens → kinds_of (take (i + 1) tokens) ≡ kinds_of (take i tokens) ++ (get_or tokens i d).kind ∷ []
kinds-more tokens i d h = ap kinds_of (take_more tokens i d h) ∙ map-append (λ (t : Token). t.kind) (take i tokens) (get_or tokens i d ∷ [])

pub reaches_next : (rule : Rule) (tokens : List Token) (i : ℕ) (d : Token) (live live' : List Way) → i < length tokens → Reaches rule (kinds_of (take i tokens)) live
    → Keeps (Some (get_or tokens i d).kind) live [] [] live' → Reaches rule (kinds_of (take (i + 1) tokens)) live'
reaches_next rule tokens i d live live' h x k =
    subst (λ (ks : List Tok). Reaches rule ks live') (sym (kinds-more tokens i d h)) (reaches_more rule (kinds_of (take i tokens)) (get_or tokens i d).kind live live' x k)

-- what is expected can come, so the tokens so far begin something
may_begin : (rule : Rule) (kinds : List Tok) (live : List Way) → Reaches rule kinds live → 0 < length live → MayBegin rule kinds
may_begin rule kinds [] x h = absurd (omega (arith, h))
may_begin rule kinds (way ∷ ways) x h =
    let c = completes way.0 way.1 in
    (c.kinds, c.script, x.back c.kinds c.script (inl c.goes))

may_not_begin : (rule : Rule) (kinds : List Tok) (live : List Way) → live ≡ [] → Reaches rule kinds live → MayBegin rule kinds → ⊥
may_not_begin rule kinds live e x b = subst (λ (ws : List Way). Lives ws b.0 b.1) e (x.forth b.0 b.1 b.2)

-- no way is left after a token
pub stops_here : (rule : Rule) (tokens : List Token) (i : ℕ) (d : Token) (live live' : List Way) → i < length tokens → Reaches rule (kinds_of (take i tokens)) live → 0 < length live
    → Keeps (Some (get_or tokens i d).kind) live [] [] live' → live' ≡ [] → StopsAt rule (kinds_of tokens) i
stops_here rule tokens i d live live' h x alive k none =
    let next = reaches_next rule tokens i d live live' h x k in
    let barred : MayBegin rule (take (i + 1) (kinds_of tokens)) → ⊥ = λ b. may_not_begin rule (kinds_of (take (i + 1) tokens)) live' none next (subst (λ (ks : List Tok). MayBegin rule ks) (sym (kinds-take tokens (i + 1))) b) in
    record {
      within = omega (arith, h, length-kinds tokens);
      before = subst (λ (ks : List Tok). MayBegin rule ks) (kinds-take tokens i) (may_begin rule (kinds_of (take i tokens)) live x alive);
      here = λ _. barred;
      none = λ steps gives. barred (drop (i + 1) (kinds_of tokens), steps, subst (λ (ks : List Tok). Gives rule ks steps) (sym (take-append-drop (i + 1) (kinds_of tokens))) gives);
    }

all_kinds : (tokens : List Token) (n : ℕ) → length tokens ≤ n → kinds_of (take n tokens) ≡ kinds_of tokens
all_kinds tokens n h = ap kinds_of (take_all n tokens h)

-- no way is left at the end
pub stops_at_end : (rule : Rule) (tokens : List Token) (n : ℕ) (live live' : List Way) → n ≡ length tokens → Reaches rule (kinds_of (take n tokens)) live → 0 < length live
    → Keeps None live [] [] live' → live' ≡ [] → StopsAt rule (kinds_of tokens) n
stops_at_end rule tokens n live live' e x alive k none =
    let y : Reaches rule (kinds_of tokens) live = subst (λ (ks : List Tok). Reaches rule ks live) (all_kinds tokens n (omega (arith, e))) x in
    record {
      within = omega (arith, e, length-kinds tokens);
      before = subst (λ (ks : List Tok). MayBegin rule ks) (kinds-take tokens n) (may_begin rule (kinds_of (take n tokens)) live x alive);
      here = λ less. absurd (omega (arith, less, e, length-kinds tokens));
      none = λ steps gives. subst (λ (ws : List Way). Lives ws [] steps) none (only_live (k.forth [] steps (inl (y.forth [] steps (subst (λ (ks : List Tok). Gives rule ks steps) (sym (append-nil (kinds_of tokens))) gives)))));
    }

-- a way that expects nothing at the end gives its steps
pub gives_at_end : (rule : Rule) (tokens : List Token) (n : ℕ) (live live' ways : List Way) (way : Way) → n ≡ length tokens → Reaches rule (kinds_of (take n tokens)) live
    → Keeps None live [] [] live' → AreEnded live' → live' ≡ way ∷ ways → Gives rule (kinds_of tokens) (onto way.1 [])
gives_at_end rule tokens n live live' ways way e x k ended is =
    let y : Reaches rule (kinds_of tokens) live = subst (λ (ks : List Tok). Reaches rule ks live) (all_kinds tokens n (omega (arith, e))) x in
    let nothing : way.0 ≡ [] = (subst AreEnded is ended).0 in
    let goes : Goes way.0 way.1 [] (onto way.1 []) = subst (λ (s : List Symbol). Goes s way.1 [] (onto way.1 [])) (sym nothing) ends in
    let lives : Lives live' [] (onto way.1 []) = subst (λ (ws : List Way). Lives ws [] (onto way.1 [])) (sym is) (inl goes) in
    subst (λ (ks : List Tok). Gives rule ks (onto way.1 [])) (append-nil (kinds_of tokens)) (y.back [] (onto way.1 []) (only_pending (k.back [] (onto way.1 []) (inr lives))))
