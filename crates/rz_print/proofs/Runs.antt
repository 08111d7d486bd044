-- What symbols of the grammar make of words.
use Rattle.std.proofs.Common.{◌≡◌, ℕ, ◌+◌, ◌-◌, suc, List, [], ◌∷◌, ◌++◌, length, map, take, sym, ap, ◌∙◌, subst, arith, add-zero, append_assoc, append-nil, length-append}
use Rattle.std.specs.Prelude.{slice_get, unwrap_or}
use Rattle.std.proofs.lemmas.List.{map-append}
use Rattle.std.proofs.lemmas.Option.{unwrap_or-slice_get}
use Rattle.std.proofs.Math.Seq.{get_or-append_seam, take-append_seam}
use Rattle.rz_lex.specs.declared.token.Tok.{Tok}
use Rattle.rz_lex.specs.declared.token.Token.{Token}
use Rattle.rz_syntax.specs.declared.action.Action.{Action}
use Rattle.rz_syntax.specs.declared.action.Step.{Step}
use Rattle.rz_syntax.specs.declared.action.Step.TheVariants.{Take, Act}
use Rattle.rz_syntax.specs.declared.builder.Builder.{Builder}
use Rattle.rz_syntax.specs.declared.grammar.Symbol.{Symbol}
use Rattle.rz_syntax.specs.declared.grammar.Symbol.TheVariants.{One, Sub, Do}
use Rattle.rz_syntax.specs.declared.grammar.Rule.{Rule}
use Rattle.rz_syntax.specs.Grammar.{IsOneOf, Phrase, nothing, token, action, part, alternatives}
use Rattle.rz_syntax.specs.Building.{built, after, top, below}
use Rattle.rz_print.specs.Text.{Word}

abbrev pub kinds : List Word → List Tok
kinds words = map (λ word. word.kind) words

-- With so many tokens taken, the words are a phrase of the symbols, whose steps make the one
-- builder of the other.
pub record Runs (symbols : List Symbol) (words : List Word) (text : List ℕ) (tokens : List Token) (read : ℕ) (b b' : Builder) : Type 0 where
  pub steps : List Step
  pub phrase : Phrase symbols (kinds words) steps
  pub makes : (rest : List Step) → built text tokens read (steps ++ rest) b ≡ built text tokens (read + length words) rest b'

pub runs_nothing : {text : List ℕ} {tokens : List Token} (read : ℕ) (b : Builder) → Runs [] [] text tokens read b b
runs_nothing {text} {tokens} read b = record {
  steps = [];
  phrase = nothing;
  makes = λ rest. ap (λ (n : ℕ). built text tokens n rest b) (sym (add-zero read));
}

pub runs_token : {symbols : List Symbol} {words : List Word} {text : List ℕ} {tokens : List Token} (word : Word) (read : ℕ) (b b' : Builder)
    → Runs symbols words text tokens (read + 1) b b' → Runs (One word.kind ∷ symbols) (word ∷ words) text tokens read b b'
runs_token {words} {text} {tokens} word read b b' r = record {
  steps = Take ∷ r.steps;
  phrase = token r.phrase;
  makes = λ rest. r.makes rest ∙ ap (λ (n : ℕ). built text tokens n rest b') (later (length words));
}
  where
    later : (n : ℕ) → (read + 1) + n ≡ read + suc n
    later n = omega arith

pub runs_action : {symbols : List Symbol} {words : List Word} {text : List ℕ} {tokens : List Token} (act : Action) (read : ℕ) (b b' : Builder)
    → Runs symbols words text tokens read (after text tokens read act b) b' → Runs (Do act ∷ symbols) words text tokens read b b'
runs_action act read b b' r = record {
  steps = Act act ∷ r.steps;
  phrase = action r.phrase;
  makes = λ rest. r.makes rest;
}

pub runs_part : {symbols inner : List Symbol} {front behind : List Word} {text : List ℕ} {tokens : List Token} (rule : Rule) (read : ℕ) (b b1 b2 : Builder)
    → IsOneOf inner (alternatives rule) → Runs inner front text tokens read b b1 → Runs symbols behind text tokens (read + length front) b1 b2
    → Runs (Sub rule ∷ symbols) (front ++ behind) text tokens read b b2
runs_part {symbols} {front} {behind} {text} {tokens} rule read b b1 b2 among p q = record {
  steps = p.steps ++ q.steps;
  phrase = subst (λ (ks : List Tok). Phrase (Sub rule ∷ symbols) ks (p.steps ++ q.steps)) (sym (map-append (λ (w : Word). w.kind) front behind)) (part among p.phrase q.phrase);
  makes = λ rest.
      ap (λ (s : List Step). built text tokens read s b) (append_assoc p.steps q.steps rest)
      ∙ p.makes (q.steps ++ rest)
      ∙ q.makes rest
      ∙ ap (λ (n : ℕ). built text tokens n rest b2) (sums (length front) (length behind) (length (front ++ behind)) (length-append front behind));
}
  where
    sums : (m n k : ℕ) → k ≡ m + n → (read + m) + n ≡ read + k
    sums m n k e = omega arith

-- ---- stacks

pub top_last : {T : Type 0} (other : T) (items : List T) (item : T) → top other (items ++ item ∷ []) ≡ item
top_last other items item =
    let count : length (items ++ item ∷ []) - 1 ≡ length items = omega (arith, length-append items (item ∷ [])) in
    ap (λ (n : ℕ). unwrap_or (slice_get (items ++ item ∷ []) n) other) count
    ∙ unwrap_or-slice_get (items ++ item ∷ []) (length items) other
    ∙ get_or-append_seam items item [] other

pub below_last : {T : Type 0} (items : List T) (item : T) → below (items ++ item ∷ []) ≡ items
below_last items item =
    let count : length (items ++ item ∷ []) - 1 ≡ length items = omega (arith, length-append items (item ∷ [])) in
    ap (λ (n : ℕ). take n (items ++ item ∷ [])) count ∙ take-append_seam items (item ∷ [])

-- ---- phrases in a row

pub phrases : {xs ys : List Symbol} {ks ls : List Tok} {ss ts : List Step} → Phrase xs ks ss → Phrase ys ls ts → Phrase (xs ++ ys) (ks ++ ls) (ss ++ ts)
phrases nothing q = q
phrases (token p) q = token (phrases p q)
phrases (action p) q = action (phrases p q)
phrases {ys} {ls} {ts} (part {rule} {symbols} {front} {rest} {before} {after = behind} among p q) r =
    subst (λ (ks : List Tok). Phrase (Sub rule ∷ (symbols ++ ys)) ks ((before ++ behind) ++ ts)) (sym (append_assoc front rest ls))
    (subst (λ (ss : List Step). Phrase (Sub rule ∷ (symbols ++ ys)) (front ++ (rest ++ ls)) ss) (sym (append_assoc before behind ts)) (part among p (phrases q r)))

pub runs_append : {xs ys : List Symbol} {front behind : List Word} {text : List ℕ} {tokens : List Token} (read : ℕ) (b b1 b2 : Builder)
    → Runs xs front text tokens read b b1 → Runs ys behind text tokens (read + length front) b1 b2 → Runs (xs ++ ys) (front ++ behind) text tokens read b b2
runs_append {xs} {ys} {front} {behind} {text} {tokens} read b b1 b2 p q = record {
  steps = p.steps ++ q.steps;
  phrase = subst (λ (ks : List Tok). Phrase (xs ++ ys) ks (p.steps ++ q.steps)) (sym (map-append (λ (w : Word). w.kind) front behind)) (phrases p.phrase q.phrase);
  makes = λ rest.
      ap (λ (s : List Step). built text tokens read s b) (append_assoc p.steps q.steps rest)
      ∙ p.makes (q.steps ++ rest)
      ∙ q.makes rest
      ∙ ap (λ (n : ℕ). built text tokens n rest b2) (sums (length front) (length behind) (length (front ++ behind)) (length-append front behind));
}
  where
    sums : (m n k : ℕ) → k ≡ m + n → (read + m) + n ≡ read + k
    sums m n k e = omega arith

pub runs_to : {symbols : List Symbol} {words : List Word} {text : List ℕ} {tokens : List Token} {read : ℕ} {b b1 : Builder} (b2 : Builder)
    → b1 ≡ b2 → Runs symbols words text tokens read b b1 → Runs symbols words text tokens read b b2
runs_to {symbols} {words} {text} {tokens} {read} {b} b2 e r = subst (λ (c : Builder). Runs symbols words text tokens read b c) e r

pub runs_words : {symbols : List Symbol} {words : List Word} {text : List ℕ} {tokens : List Token} {read : ℕ} {b b1 : Builder} (others : List Word)
    → words ≡ others → Runs symbols words text tokens read b b1 → Runs symbols others text tokens read b b1
runs_words {symbols} {text} {tokens} {read} {b} {b1} others e r = subst (λ (ws : List Word). Runs symbols ws text tokens read b b1) e r

-- a rule gives what one of its alternatives gives
pub runs_rule : {inner : List Symbol} {words : List Word} {text : List ℕ} {tokens : List Token} (rule : Rule) (read : ℕ) (b b' : Builder)
    → IsOneOf inner (alternatives rule) → Runs inner words text tokens read b b' → Runs (Sub rule ∷ []) words text tokens read b b'
runs_rule {words} rule read b b' among r =
    runs_words words (append-nil words) (runs_part rule read b b' b' among r (runs_nothing (read + length words) b'))
