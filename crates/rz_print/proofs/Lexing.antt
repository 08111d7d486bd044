-- The text of words is read as these words.
use Rattle.std.proofs.Common.{◌≡◌, ◌⊎◌, inl, inr, ℕ, ◌+◌, ◌-◌, ◌<◌, ◌≤◌, zero, suc, Bool, true, false, List, [], ◌∷◌, ◌++◌, Option, None, Some, length, take, drop, refl, sym, ap, ◌∙◌, subst, arith, length-append, append_assoc, append-nil}
use Rattle.std.specs.Prelude.{◌&&◌, ◌||◌, if◌then◌else◌, slice_range}
use Rattle.std.proofs.Math.Seq.{take-append_seam, drop-append_seam}
use Rattle.rz_lex.specs.declared.token.Tok.{Tok}
use Rattle.rz_lex.specs.declared.piece.Piece.{Piece}
use Rattle.rz_lex.specs.Spelling.{table, spelled, is_white, is_in_name, is_string}
use Rattle.rz_lex.specs.Pieces.{opens_gap, gap_len, Begins}
use Rattle.rz_lex.specs.Text.{Covers, tokens_among}
use Rattle.rz_print.specs.Text.{Word, SPACE, opens, closes, has_bracket, is_paren, is_glued, gap_between, text_behind, text_of}
use Rattle.rz_print.specs.Reading.{is_stop, EndsWell, BeginsWell, IsPrinted, ArePrinted, AreWords, ReadsAs}
use Rattle.rz_print.proofs.Spelled.{and_right, stopped, ended, is_longest}

-- ---- a word ends where it is cut off

-- what stands behind bytes cuts them off
abbrev CutOff : List ℕ → List ℕ → Type 0
CutOff bytes [] = Unit {0}
CutOff bytes (first ∷ rest) = EndsWell bytes ⊎ (is_stop first ≡ true)

cut : (bytes : List ℕ) (first : ℕ) (rest : List ℕ) → 0 < length bytes → is_string (bytes ++ first ∷ rest) ≡ false → EndsWell bytes ⊎ (is_stop first ≡ true)
    → spelled table (bytes ++ first ∷ rest) ≡ None
cut bytes first rest some string (inl (front, last, e, end)) =
    let same : bytes ++ first ∷ rest ≡ front ++ last ∷ first ∷ rest =
    ap (λ (bs : List ℕ). bs ++ first ∷ rest) e ∙ append_assoc front (last ∷ []) (first ∷ rest) in
    ap (spelled table) same ∙ ended front last first rest end (sym (ap is_string same) ∙ string)
cut [] first rest some string (inr stop) = absurd (omega (arith, some))
cut (byte ∷ word) first rest some string (inr stop) = stopped byte word first rest stop string

cut_off : (word : Word) (rest : List ℕ) → IsPrinted word → CutOff word.bytes rest → (more : ℕ) → 0 < more → more ≤ length rest → spelled table (word.bytes ++ take more rest) ≡ None
cut_off word [] printed c more some le = absurd (omega (arith, some, le))
cut_off word (first ∷ rest) printed c zero some le = absurd (omega (arith, some))
cut_off word (first ∷ rest) printed c (suc more) some le =
    cut word.bytes first (take more rest) printed.some (printed.no_string (first ∷ take more rest)) c

begins_word : (word : Word) (rest : List ℕ) → IsPrinted word → CutOff word.bytes rest → Begins (word.bytes ++ rest) (record { len = length word.bytes; kind = Some word.kind })
begins_word word rest printed c =
    (printed.no_gap rest, is_longest word.bytes rest word.kind printed.some printed.spelled_so (cut_off word rest printed c))

begins_space : (rest : List ℕ) → Begins (32 ∷ rest) (record { len = 1; kind = None })
unfolding opens_gap gap_len is_white
begins_space rest = (refl, refl)

-- ---- neighbours cut each other off

space_stops : is_stop 32 ≡ true
unfolding is_stop is_in_name is_white table
space_stops = refl

cut_by_end : (bytes rest : List ℕ) → EndsWell bytes → CutOff bytes rest
cut_by_end bytes [] e = tt
cut_by_end bytes (first ∷ rest) e = inl e

cut_by_next : (bytes next rest : List ℕ) → BeginsWell next → CutOff bytes (next ++ rest)
cut_by_next bytes next rest (first, others, e, stop) =
    subst (λ (bs : List ℕ). CutOff bytes (bs ++ rest)) (sym e) (inr stop)

cut_by_gap : (glued : Bool) (bytes next rest : List ℕ) → (glued ≡ true → EndsWell bytes ⊎ BeginsWell next) → CutOff bytes (((if glued then [] else SPACE) ++ next) ++ rest)
cut_by_gap false bytes next rest h = inr space_stops
cut_by_gap true bytes next rest h =
    elim (h refl) [ inl e ↦ cut_by_end bytes (next ++ rest) e | inr b ↦ cut_by_next bytes next rest b ]

either : (a b : Bool) → (a || b) ≡ true → (a ≡ true) ⊎ (b ≡ true)
either true b e = inl refl
either false b e = inr e

glued_well : (word next : Word) → IsPrinted word → IsPrinted next → is_glued word.kind next.kind ≡ true → EndsWell word.bytes ⊎ BeginsWell next.bytes
glued_well word next p q e =
    elim (either (opens word.kind || closes next.kind) (has_bracket word.kind && is_paren next.kind) e) [
      | inl f ↦ elim (either (opens word.kind) (closes next.kind) f) [ inl o ↦ inl (p.opening o) | inr c ↦ inr (q.closing c) ]
      | inr f ↦ inr (q.paren (and_right (has_bracket word.kind) (is_paren next.kind) f))
    ]

cut_by_words : (word : Word) (words : List Word) → IsPrinted word → ArePrinted words → CutOff word.bytes (text_behind (Some word.kind) words)
cut_by_words word [] p ps = tt
cut_by_words word (next ∷ words) p ps =
    cut_by_gap (is_glued word.kind next.kind) word.bytes next.bytes (text_behind (Some next.kind) words) (glued_well word next p ps.0)

-- ---- the whole text

-- from a place on the text is read as these words
record Lexes (text : List ℕ) (place : ℕ) (words : List Word) : Type 0 where
  pub pieces : List Piece
  pub covers : Covers text pieces place (length text)
  pub are : AreWords text (tokens_among text pieces place) words

lexes_at : (text : List ℕ) (a b : ℕ) (words : List Word) → a ≡ b → Lexes text a words → Lexes text b words
lexes_at text a b words e l = subst (λ (n : ℕ). Lexes text n words) e l

slice_middle : (front bytes rest : List ℕ) → slice_range (front ++ (bytes ++ rest)) (length front) (length front + length bytes) ≡ bytes
slice_middle front bytes rest =
    let count : length front + length bytes - length front ≡ length bytes = omega arith in
    ap (λ (n : ℕ). take n (drop (length front) (front ++ (bytes ++ rest)))) count
    ∙ ap (take (length bytes)) (drop-append_seam front (bytes ++ rest))
    ∙ take-append_seam bytes rest

lexes_word : (text front rest : List ℕ) (word : Word) (words : List Word) → text ≡ front ++ (word.bytes ++ rest) → IsPrinted word → CutOff word.bytes rest
    → Lexes text (length front + length word.bytes) words → Lexes text (length front) (word ∷ words)
lexes_word text front rest word words e printed c l = record {
  pieces = record { len = length word.bytes; kind = Some word.kind } ∷ l.pieces;
  covers = (subst (λ (bs : List ℕ). Begins bs (record { len = length word.bytes; kind = Some word.kind })) (sym (ap (drop (length front)) e ∙ drop-append_seam front (word.bytes ++ rest))) (begins_word word rest printed c), l.covers);
  are = (refl, ap (λ (bs : List ℕ). slice_range bs (length front) (length front + length word.bytes)) e ∙ slice_middle front word.bytes rest, l.are);
}

lexes_space : (text front rest : List ℕ) (words : List Word) → text ≡ front ++ (SPACE ++ rest) → Lexes text (length front + 1) words → Lexes text (length front) words
lexes_space text front rest words e l = record {
  pieces = record { len = 1; kind = None } ∷ l.pieces;
  covers = (subst (λ (bs : List ℕ). Begins bs (record { len = 1; kind = None })) (sym (ap (drop (length front)) e ∙ drop-append_seam front (SPACE ++ rest))) (begins_space rest), l.covers);
  are = l.are;
}

lexes_gap : (apart : Bool) (text front rest : List ℕ) (words : List Word) → text ≡ front ++ ((if apart then [] else SPACE) ++ rest)
    → Lexes text (length (front ++ (if apart then [] else SPACE))) words → Lexes text (length front) words
lexes_gap true text front rest words e l = lexes_at text (length (front ++ [])) (length front) words (ap length (append-nil front)) l
lexes_gap false text front rest words e l =
    lexes_space text front rest words e (lexes_at text (length (front ++ SPACE)) (length front + 1) words (length-append front SPACE) l)

lexes_before : (before : Option Tok) (kind : Tok) (text front rest : List ℕ) (words : List Word) → text ≡ front ++ (gap_between before kind ++ rest)
    → Lexes text (length (front ++ gap_between before kind)) words → Lexes text (length front) words
lexes_before None kind text front rest words e l = lexes_gap true text front rest words e l
lexes_before (Some last) kind text front rest words e l = lexes_gap (is_glued last kind) text front rest words e l

lexes : (text : List ℕ) (before : Option Tok) (words : List Word) (front : List ℕ) → text ≡ front ++ text_behind before words → ArePrinted words → Lexes text (length front) words
lexes text before [] front e ps = record { pieces = []; covers = sym (ap length (e ∙ append-nil front)); are = tt }
lexes text before (word ∷ words) front e ps =
    let gap = gap_between before word.kind in
    let behind = text_behind (Some word.kind) words in
    let here : text ≡ front ++ (gap ++ (word.bytes ++ behind)) = e ∙ ap (λ (bs : List ℕ). front ++ bs) (append_assoc gap word.bytes behind) in
    let there : text ≡ (front ++ gap) ++ (word.bytes ++ behind) = here ∙ sym (append_assoc front gap (word.bytes ++ behind)) in
    let beyond : text ≡ ((front ++ gap) ++ word.bytes) ++ behind = there ∙ sym (append_assoc (front ++ gap) word.bytes behind) in
    lexes_before before word.kind text front (word.bytes ++ behind) (word ∷ words) here
    (lexes_word text (front ++ gap) behind word words there ps.0 (cut_by_words word words ps.0 ps.1)
    (lexes_at text (length ((front ++ gap) ++ word.bytes)) (length (front ++ gap) + length word.bytes) words (length-append (front ++ gap) word.bytes)
    (lexes text (Some word.kind) words ((front ++ gap) ++ word.bytes) beyond ps.1)))

-- the text of words is read as these words
pub text_is_read : (words : List Word) → ArePrinted words → ReadsAs (text_of words) words
text_is_read words ps =
    let l = lexes (text_of words) None words [] refl ps in
    record {
      tokens = tokens_among (text_of words) l.pieces 0;
      lexed = record { pieces = l.pieces; covers = l.covers; are = refl };
      are = l.are;
    }
