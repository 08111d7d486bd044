-- What is written and what is left, while a form is taken apart.
use Rattle.std.proofs.Common.{◌≡◌, ◌≢◌, ℕ, ◌+◌, ◌-◌, ◌<◌, List, [], ◌∷◌, ◌++◌, Option, Some, length, get_or, take, reverse, refl, sym, ap, ◌∙◌, subst, append_assoc}
use Rattle.std.proofs.lemmas.List.{take_more, get_or-reverse, length-reverse}
use Rattle.rz_lex.specs.declared.token.Tok.{Tok}
use Rattle.rz_syntax.specs.declared.forms.Shape.{Shape}
use Rattle.rz_syntax.specs.declared.forms.Form.{Form}
use Rattle.rz_print.specs.declared.layout.Piece.{Piece}
use Rattle.rz_print.specs.Text.{Word, gap_between, text_behind}
use Rattle.rz_print.specs.Words.{Writes, Opens, Lost, opened, Spells, nothing, writes, opens, HasWords}
use Rattle.rz_print.specs.Printing.{last_kind}

-- one more piece is put, from the last one on
pub put : (items initial pieces new : List Piece) (count : ℕ) (d : Piece) → count < length pieces
    → items ≡ initial ++ take count (reverse pieces)
    → new ≡ items ++ get_or pieces (length pieces - 1 - count) d ∷ []
    → new ≡ initial ++ take (count + 1) (reverse pieces)
put items initial pieces new count d h old e =
    let within : count < length (reverse pieces) = subst (λ (n : ℕ). count < n) (sym (length-reverse pieces)) h in
    e
    ∙ ap (λ (xs : List Piece). xs ++ get_or pieces (length pieces - 1 - count) d ∷ []) old
    ∙ ap (λ (x : Piece). (initial ++ take count (reverse pieces)) ++ x ∷ []) (sym (get_or-reverse pieces count d h))
    ∙ append_assoc initial (take count (reverse pieces)) (get_or (reverse pieces) count d ∷ [])
    ∙ ap (λ (xs : List Piece). initial ++ xs) (sym (take_more (reverse pieces) count d within))

-- ---- words

pub text_behind-append : (before : Option Tok) (xs ys : List Word)
    → text_behind before (xs ++ ys) ≡ text_behind before xs ++ text_behind (last_kind before xs) ys
text_behind-append before [] ys = refl
text_behind-append before (x ∷ xs) ys =
    ap (λ (t : List ℕ). (gap_between before x.kind ++ x.bytes) ++ t) (text_behind-append (Some x.kind) xs ys)
    ∙ sym (append_assoc (gap_between before x.kind ++ x.bytes) (text_behind (Some x.kind) xs) (text_behind (last_kind (Some x.kind) xs) ys))

pub last_kind-append : (before : Option Tok) (xs ys : List Word)
    → last_kind before (xs ++ ys) ≡ last_kind (last_kind before xs) ys
last_kind-append before [] ys = refl
last_kind-append before (x ∷ xs) ys = last_kind-append (Some x.kind) xs ys

-- ---- pieces

-- the words of two lists of pieces
pub record Splits (shapes : List Shape) (forms : List Form) (ps qs : List Piece) (words : List Word) : Type 0 where
  pub front : List Word
  pub rest : List Word
  pub are : words ≡ front ++ rest
  pub first : Spells shapes forms ps front
  pub second : Spells shapes forms qs rest

pub splits : {shapes : List Shape} {forms : List Form} (ps qs : List Piece) {words : List Word} → Spells shapes forms (ps ++ qs) words → Splits shapes forms ps qs words
splits [] qs {words} s = record { front = []; rest = words; are = refl; first = nothing; second = s }
splits (p ∷ ps) qs (writes word e s) =
    let t = splits ps qs s in
    record { front = word ∷ t.front; rest = t.rest; are = ap (λ (ws : List Word). word ∷ ws) t.are; first = writes word e t.first; second = t.second }
splits (p ∷ ps) qs (opens {front} inner e s rest) =
    let t = splits ps qs rest in
    record {
      front = front ++ t.front;
      rest = t.rest;
      are = ap (λ (ws : List Word). front ++ ws) t.are ∙ sym (append_assoc front t.front t.rest);
      first = opens inner e s t.first;
      second = t.second;
    }

pub joins : {shapes : List Shape} {forms : List Form} {ps qs : List Piece} {front rest : List Word} → Spells shapes forms ps front → Spells shapes forms qs rest → Spells shapes forms (ps ++ qs) (front ++ rest)
joins nothing t = t
joins (writes word e s) t = writes word e (joins s t)
joins {shapes} {forms} {qs} {rest = behind} (opens {piece} {pieces} {front} {rest} inner e s u) t =
    subst (λ (ws : List Word). Spells shapes forms (piece ∷ (pieces ++ qs)) ws) (sym (append_assoc front rest behind)) (opens inner e s (joins u t))

pub not_lost : {shapes : List Shape} {forms : List Form} {piece : Piece} {pieces : List Piece} {words : List Word} → Spells shapes forms (piece ∷ pieces) words → opened shapes forms piece ≢ Lost
not_lost (writes word e s) lost = absurd (cc)
not_lost (opens inner e s t) lost = absurd (cc)

pub behind_word : {shapes : List Shape} {forms : List Form} {piece : Piece} {pieces : List Piece} {words : List Word} (word : Word) → opened shapes forms piece ≡ Writes word → Spells shapes forms (piece ∷ pieces) words → HasWords shapes forms pieces
behind_word word is (writes {words} _ e s) = (words, s)
behind_word word is (opens inner e s t) = absurd (cc)

inner_same : (a b : List Piece) → Opens a ≡ Opens b → a ≡ b
inner_same a b e = cc

pub behind_pieces : {shapes : List Shape} {forms : List Form} {piece : Piece} {pieces : List Piece} {words : List Word} (inner : List Piece) → opened shapes forms piece ≡ Opens inner → Spells shapes forms (piece ∷ pieces) words → HasWords shapes forms (inner ++ pieces)
behind_pieces inner is (writes word e s) = absurd (cc)
behind_pieces {shapes} {forms} {piece} {pieces} inner is (opens {front} {rest} other e s t) =
    (front ++ rest, joins (subst (λ (ps : List Piece). Spells shapes forms ps front) (inner_same other inner (sym e ∙ is)) s) t)
