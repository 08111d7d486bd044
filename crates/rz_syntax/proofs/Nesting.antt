-- Levels of tokens, one after another.
use Rattle.std.proofs.Common.{◌≡◌, ℕ, zero, suc, ◌+◌, ◌-◌, ◌<◌, ◌≤◌, List, [], ◌∷◌, ◌++◌, length, take, get_or, slice_get, below_more, refl, sym, ap, ◌∙◌, arith}
use Rattle.std.specs.Prelude.{unwrap_or}
use Rattle.rz_lex.specs.declared.token.Tok.{Tok}
use Rattle.rz_lex.specs.declared.token.Token.{Token}
use Rattle.rz_syntax.specs.declared.levels.TheConstants.{TOO_DEEP}
use Rattle.rz_syntax.specs.declared.levels.Bend.{Bend}
use Rattle.rz_syntax.specs.declared.levels.Bend.TheVariants.{Restart, Open, Close, Rise, Stay}
use Rattle.rz_syntax.specs.declared.levels.Nesting.{Nesting}
use Rattle.rz_syntax.specs.Grammar.{kinds_of}
use Rattle.rz_syntax.specs.Levels.{bend_of, bent, nested, outermost, level_of, AreLow, IsLow, IsTooNestedAt, IsShallow}
use Rattle.rz_syntax.proofs.Reading.{kinds-take, kinds-more, length-kinds}

nested-push : (nesting : Nesting) (kinds : List Tok) (kind : Tok) → nested nesting (kinds ++ kind ∷ []) ≡ bent (bend_of kind) (nested nesting kinds)
nested-push nesting [] kind = refl
nested-push nesting (first ∷ kinds) kind = nested-push (bent (bend_of first) nesting) kinds kind

low-push : (levels : List ℕ) (level : ℕ) → AreLow levels → level < TOO_DEEP → AreLow (levels ++ level ∷ [])
low-push [] level h l = (l, tt)
low-push (first ∷ levels) level h l = (h.0, low-push levels level h.1 l)

low-take : (levels : List ℕ) (n : ℕ) → AreLow levels → AreLow (take n levels)
low-take levels zero h = tt
low-take [] (suc n) h = tt
low-take (level ∷ levels) (suc n) h = (h.0, low-take levels n h.1)

low-at : (levels : List ℕ) (i other : ℕ) → AreLow levels → other < TOO_DEEP → unwrap_or (slice_get levels i) other < TOO_DEEP
low-at [] i other h o = o
low-at (level ∷ levels) zero other h o = h.0
low-at (level ∷ levels) (suc i) other h o = low-at levels i other h.1 o

-- a level rises by one at most
pub rises : (bend : Bend) (nesting : Nesting) → IsLow nesting → (bent bend nesting).level ≤ TOO_DEEP
rises Restart nesting low = omega arith
rises Open nesting low = omega (arith, low.level)
rises Close nesting low = omega (arith, low-at nesting.outer (length nesting.outer - 1) nesting.level low.outer low.level)
rises Rise nesting low = omega (arith, low.level)
rises Stay nesting low = omega (arith, low.level)

pub stays_low : (bend : Bend) (nesting : Nesting) → IsLow nesting → (bent bend nesting).level < TOO_DEEP → IsLow (bent bend nesting)
stays_low Restart nesting low h = record { level = h; outer = tt }
stays_low Open nesting low h = record { level = h; outer = low-push nesting.outer nesting.level low.outer low.level }
stays_low Close nesting low h = record { level = h; outer = low-take nesting.outer (length nesting.outer - 1) low.outer }
stays_low Rise nesting low h = record { level = h; outer = low.outer }
stays_low Stay nesting low h = low

pub nested-more : (tokens : List Token) (i : ℕ) (d : Token) → i < length tokens → nested outermost (kinds_of (take (i + 1) tokens)) ≡ bent (bend_of (get_or tokens i d).kind) (nested outermost (kinds_of (take i tokens)))
nested-more tokens i d h = ap (nested outermost) (kinds-more tokens i d h) ∙ nested-push outermost (kinds_of (take i tokens)) (get_or tokens i d).kind

-- the level after one more token, as the code has it
pub level-more : (tokens : List Token) (i : ℕ) (d : Token) (old new : Nesting) → i < length tokens → old ≡ nested outermost (kinds_of (take i tokens)) → new ≡ bent (bend_of (get_or tokens i d).kind) old
    → new ≡ nested outermost (kinds_of (take (i + 1) tokens))
level-more tokens i d old new h o n = n ∙ ap (bent (bend_of (get_or tokens i d).kind)) o ∙ sym (nested-more tokens i d h)

level-here : (tokens : List Token) (n : ℕ) (nesting : Nesting) → nesting ≡ nested outermost (kinds_of (take n tokens)) → level_of (take n (kinds_of tokens)) ≡ nesting.level
level-here tokens n nesting is = ap (λ (ks : List Tok). (nested outermost ks).level) (sym (kinds-take tokens n)) ∙ ap (λ (m : Nesting). m.level) (sym is)

abbrev NotBefore : List Token → ℕ → Type 0
NotBefore tokens i = (number : ℕ) → number < i → level_of (take (number + 1) (kinds_of tokens)) ≡ TOO_DEEP → ⊥

pub too_nested : (tokens : List Token) (i : ℕ) (new : Nesting) → i < length tokens → new ≡ nested outermost (kinds_of (take (i + 1) tokens)) → new.level ≡ TOO_DEEP → NotBefore tokens i → IsTooNestedAt (kinds_of tokens) i
too_nested tokens i new h is deep before = record { within = omega (arith, h, length-kinds tokens); here = level-here tokens (i + 1) new is ∙ deep; first = before }

pub not_more : (tokens : List Token) (i : ℕ) (new : Nesting) → new ≡ nested outermost (kinds_of (take (i + 1) tokens)) → new.level < TOO_DEEP → NotBefore tokens i → NotBefore tokens (i + 1)
not_more tokens i new is low before = below_more (λ (n : ℕ). level_of (take (n + 1) (kinds_of tokens)) ≡ TOO_DEEP → ⊥) i before (λ e. absurd (omega (arith, e, level-here tokens (i + 1) new is, low)))

pub shallow : (tokens : List Token) (n : ℕ) → length tokens ≤ n → NotBefore tokens n → IsShallow (kinds_of tokens)
shallow tokens n h before number within = before number (omega (arith, within, h, length-kinds tokens))
