-- A text in which each byte keeps its place.
use Rattle.std.proofs.Common.{◌≡◌, ◌≢◌, ℕ, zero, suc, Bool, true, false, cond, List, [], ◌∷◌, ◌++◌, length, eqb, ◌⊎◌, inl, inr, refl, sym, ap, ◌∙◌, subst, Option, None, arith}
use Rattle.std.proofs.lemmas.Bool.{false≢true}
use Rattle.std.specs.Prelude.{codes}
use Rattle.std.specs.List.{concat, onto_first, ends_with}
use Rattle.rz_literate.specs.declared.fence.Fence.{Fence}
use Rattle.rz_literate.specs.Fence.{line_feed, space}
use Rattle.rz_literate.specs.Code.{full_lines, is_line_end, blank, is_code_line, fence_after, code_lines, code_of, KeepsLineEnds, ChangesToSpaces}

-- a byte is the one before, or a space in the place of one that ends no line
abbrev Stays : ℕ → ℕ → Type 0
Stays b c = (c ≡ b) ⊎ ((c ≡ 32) × (is_line_end b ≡ false))

-- so is each byte of a text
abbrev pub Blanked : List ℕ → List ℕ → Type 0
Blanked [] [] = Unit {0}
Blanked [] (c ∷ text) = ⊥
Blanked (b ∷ bytes) [] = ⊥
Blanked (b ∷ bytes) (c ∷ text) = Stays b c × Blanked bytes text

blanked_same : (bytes : List ℕ) → Blanked bytes bytes
blanked_same [] = tt
blanked_same (b ∷ bytes) = (inl refl, blanked_same bytes)

stays_blank : (b : ℕ) (ends : Bool) → is_line_end b ≡ ends → Stays b (cond ends b space)
stays_blank b true e = inl refl
stays_blank b false e = inr (refl, e)

blanked_blank : (bytes : List ℕ) → Blanked bytes (blank bytes)
blanked_blank [] = tt
blanked_blank (b ∷ bytes) = (stays_blank b (is_line_end b) refl, blanked_blank bytes)

blanked_append : (bytes text more others : List ℕ) → Blanked bytes text → Blanked more others → Blanked (bytes ++ more) (text ++ others)
blanked_append [] [] more others h k = k
blanked_append [] (c ∷ text) more others h k = absurd h
blanked_append (b ∷ bytes) [] more others h k = absurd h
blanked_append (b ∷ bytes) (c ∷ text) more others h k = (h.0, blanked_append bytes text more others h.1 k)

blanked_line : (is_code : Bool) (line : List ℕ) → Blanked line (cond is_code line (blank line))
blanked_line true line = blanked_same line
blanked_line false line = blanked_blank line

blanked_lines : (fence : Option Fence) (lines : List (List ℕ)) → Blanked (concat lines) (code_lines fence lines)
blanked_lines fence [] = tt
blanked_lines fence (line ∷ lines) =
    blanked_append line (cond (is_code_line fence line) line (blank line)) (concat lines) (code_lines (fence_after fence line) lines)
    (blanked_line (is_code_line fence line) line) (blanked_lines (fence_after fence line) lines)

concat-onto_first : (b : ℕ) (lines : List (List ℕ)) → concat (onto_first b lines) ≡ b ∷ concat lines
concat-onto_first b [] = refl
concat-onto_first b (line ∷ lines) = refl

concat-cut : (ends : Bool) (b : ℕ) (lines : List (List ℕ)) → concat (cond ends ((b ∷ []) ∷ lines) (onto_first b lines)) ≡ b ∷ concat lines
concat-cut true b lines = refl
concat-cut false b lines = concat-onto_first b lines

-- the lines of a text are all of it
concat-full_lines : (bytes : List ℕ) → concat (full_lines bytes) ≡ bytes
concat-full_lines [] = refl
concat-full_lines (b ∷ bytes) = concat-cut (eqb b line_feed) b (full_lines bytes) ∙ ap (λ text. b ∷ text) (concat-full_lines bytes)

-- so is what is written of a text by its lines
pub blanked_code : (bytes text out : List ℕ) → text ≡ bytes → out ≡ code_lines None (full_lines text) → Blanked bytes out
blanked_code bytes text out same written =
    let lines : Blanked text (code_lines None (full_lines text)) = subst (λ all. Blanked all (code_lines None (full_lines text))) (concat-full_lines text) (blanked_lines None (full_lines text)) in
    rw written (subst (λ t. Blanked t (code_lines None (full_lines text))) same lines)

-- what follows from it
pub length-blanked : (bytes text : List ℕ) → Blanked bytes text → length text ≡ length bytes
length-blanked [] [] h = refl
length-blanked [] (c ∷ text) h = absurd h
length-blanked (b ∷ bytes) [] h = absurd h
length-blanked (b ∷ bytes) (c ∷ text) h = let e : length text ≡ length bytes = length-blanked bytes text h.1 in omega arith

stays_end : (b c : ℕ) → Stays b c → is_line_end b ≡ true → c ≡ b
stays_end b c (inl same) e = same
stays_end b c (inr changed) e = absurd (false≢true (sym changed.1 ∙ e))

pub blanked_ends : (bytes text : List ℕ) → Blanked bytes text → KeepsLineEnds bytes text
blanked_ends [] [] h i e = refl
blanked_ends [] (c ∷ text) h i e = absurd h
blanked_ends (b ∷ bytes) [] h i e = absurd h
blanked_ends (b ∷ bytes) (c ∷ text) h zero e = stays_end b c h.0 e
blanked_ends (b ∷ bytes) (c ∷ text) h (suc i) e = blanked_ends bytes text h.1 i e

stays_space : (b c : ℕ) → Stays b c → c ≢ b → c ≡ 32
stays_space b c (inl same) other = absurd (other same)
stays_space b c (inr changed) other = changed.0

pub blanked_spaces : (bytes text : List ℕ) → Blanked bytes text → ChangesToSpaces bytes text
blanked_spaces [] [] h i other = absurd (other refl)
blanked_spaces [] (c ∷ text) h i other = absurd h
blanked_spaces (b ∷ bytes) [] h i other = absurd h
blanked_spaces (b ∷ bytes) (c ∷ text) h zero other = stays_space b c h.0 other
blanked_spaces (b ∷ bytes) (c ∷ text) h (suc i) other = blanked_spaces bytes text h.1 i other

-- another file is read as it is
pub code_of_other : (name bytes : List ℕ) → ends_with eqb name (codes ".md") ≡ false → code_of name bytes ≡ bytes
code_of_other name bytes other = rw other refl
