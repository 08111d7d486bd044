-- What holds while a form is written: the words so far, and the pieces that are left.
use Rattle.std.proofs.Common.{◌≡◌, ◌≢◌, ℕ, List, [], ◌∷◌, ◌++◌, Option, None, length, reverse, string_bytes, refl, sym, ap, ◌∙◌, subst, append_assoc, append-nil, arith}
use Rattle.std.proofs.lemmas.List.{reverse-append, reverse-reverse}
use Rattle.rz_lex.specs.declared.token.Tok.{Tok}
use Rattle.rz_syntax.specs.declared.forms.Shape.{Shape}
use Rattle.rz_syntax.specs.declared.forms.Form.{Form}
use Rattle.rz_print.specs.declared.layout.Piece.{Piece}
use Rattle.rz_print.specs.declared.writer.Writer.{Writer}
use Rattle.rz_print.specs.Text.{Word, text_behind, text_of}
use Rattle.rz_print.specs.Words.{Opening, Writes, Opens, Lost, opened, Spells, nothing, writes, opens, HasWords}
use Rattle.rz_print.specs.Printing.{last_kind, Adds, pieces_after, words_of}
use Rattle.rz_print.proofs.Stacks.{text_behind-append, last_kind-append, splits, not_lost, behind_word, behind_pieces}

-- Of the pieces of a whole these words are written, and these pieces are left, the next one last.
pub record Written (shapes : List Shape) (forms : List Form) (whole stack : List Piece) (writer : Writer) : Type 0 where
  pub done : List Word
  pub text : string_bytes writer.text ≡ text_of done
  pub last : writer.last ≡ last_kind None done
  pub ends : (rest : List Word) → Spells shapes forms (reverse stack) rest → Spells shapes forms whole (done ++ rest)
  pub left : HasWords shapes forms (reverse stack)

-- ---- at the beginning nothing is written

pub starts : (shapes : List Shape) (forms : List Form) (piece : Piece) (stack : List Piece) (writer : Writer)
    → stack ≡ piece ∷ [] → string_bytes writer.text ≡ [] → writer.last ≡ None → HasWords shapes forms (piece ∷ [])
    → Written shapes forms (piece ∷ []) stack writer
starts shapes forms piece stack writer is text last words =
    let same : reverse stack ≡ piece ∷ [] = ap reverse is in
    record {
      done = [];
      text = text;
      last = last;
      ends = λ rest s. subst (λ (ps : List Piece). Spells shapes forms ps rest) same s;
      left = (words.0, subst (λ (ps : List Piece). Spells shapes forms ps words.0) (sym same) words.1);
    }

-- ---- one piece is taken apart

-- the words are added to those that are written
more_words : {shapes : List Shape} {forms : List Form} {whole stack : List Piece} {old : Writer} (new : Writer) (words : List Word) → (w : Written shapes forms whole stack old)
    → Adds old new words → (string_bytes new.text ≡ text_of (w.done ++ words)) × (new.last ≡ last_kind None (w.done ++ words))
more_words {old} new words w adds = (
  adds.text
      ∙ ap (λ (t : List ℕ). t ++ text_behind old.last words) w.text
      ∙ ap (λ (o : Option Tok). text_of w.done ++ text_behind o words) w.last
      ∙ sym (text_behind-append None w.done words),
  adds.last ∙ ap (λ (o : Option Tok). last_kind o words) w.last ∙ sym (last_kind-append None w.done words),
)

next_first : (stack others : List Piece) (piece : Piece) → stack ≡ others ++ piece ∷ [] → reverse stack ≡ piece ∷ reverse others
next_first stack others piece e = ap reverse e ∙ reverse-append others (piece ∷ [])

pub has_next : {shapes : List Shape} {forms : List Form} {whole stack : List Piece} {old : Writer} (others : List Piece) (piece : Piece) → stack ≡ others ++ piece ∷ []
    → Written shapes forms whole stack old → HasWords shapes forms (piece ∷ reverse others)
has_next {shapes} {forms} {stack} others piece e w =
    (w.left.0, subst (λ (ps : List Piece). Spells shapes forms ps w.left.0) (next_first stack others piece e) w.left.1)

pub is_open : {shapes : List Shape} {forms : List Form} {whole stack : List Piece} {old : Writer} (others : List Piece) (piece : Piece) → stack ≡ others ++ piece ∷ []
    → Written shapes forms whole stack old → opened shapes forms piece ≢ Lost
is_open others piece e w = not_lost (has_next others piece e w).1

after_opening : (shapes : List Shape) (forms : List Form) (whole stack others : List Piece) (piece : Piece) (old new : Writer) (next : List Piece) (opening : Opening)
    → stack ≡ others ++ piece ∷ [] → opened shapes forms piece ≡ opening → next ≡ pieces_after opening others → Adds old new (words_of opening)
    → Written shapes forms whole stack old → Written shapes forms whole next new
after_opening shapes forms whole stack others piece old new next (Writes word) e is are adds w =
    let more = more_words new (word ∷ []) w adds in
    let here = next_first stack others piece e in
    let left = behind_word word is (has_next others piece e w).1 in
    record {
      done = w.done ++ word ∷ [];
      text = more.0;
      last = more.1;
      ends = λ rest s.
          let one : Spells shapes forms (reverse stack) (word ∷ rest) =
          subst (λ (ps : List Piece). Spells shapes forms ps (word ∷ rest)) (sym here) (writes word is (subst (λ (ps : List Piece). Spells shapes forms (reverse ps) rest) are s)) in
          subst (λ (ws : List Word). Spells shapes forms whole ws) (sym (append_assoc w.done (word ∷ []) rest)) (w.ends (word ∷ rest) one);
      left = (left.0, subst (λ (ps : List Piece). Spells shapes forms (reverse ps) left.0) (sym are) left.1);
    }
after_opening shapes forms whole stack others piece old new next (Opens inner) e is are adds w =
    let more = more_words new [] w adds in
    let here = next_first stack others piece e in
    let left = behind_pieces inner is (has_next others piece e w).1 in
    let turned : reverse next ≡ inner ++ reverse others =
    ap reverse are ∙ reverse-append others (reverse inner) ∙ ap (λ (ps : List Piece). ps ++ reverse others) (reverse-reverse inner) in
    record {
      done = w.done ++ [];
      text = more.0;
      last = more.1;
      ends = λ rest s.
          let t = splits inner (reverse others) (subst (λ (ps : List Piece). Spells shapes forms ps rest) turned s) in
          let one : Spells shapes forms (reverse stack) (t.front ++ t.rest) =
          subst (λ (ps : List Piece). Spells shapes forms ps (t.front ++ t.rest)) (sym here) (opens inner is t.first t.second) in
          subst (λ (ws : List Word). Spells shapes forms whole (ws ++ rest)) (sym (append-nil w.done)) (w.ends rest (subst (λ (ws : List Word). Spells shapes forms (reverse stack) ws) (sym t.are) one));
      left = (left.0, subst (λ (ps : List Piece). Spells shapes forms ps left.0) (sym turned) left.1);
    }
after_opening shapes forms whole stack others piece old new next Lost e is are adds w =
    absurd (is_open others piece e w is)

pub advances : (shapes : List Shape) (forms : List Form) (whole stack others : List Piece) (piece : Piece) (old new : Writer) (next : List Piece)
    → stack ≡ others ++ piece ∷ [] → next ≡ pieces_after (opened shapes forms piece) others → Adds old new (words_of (opened shapes forms piece))
    → Written shapes forms whole stack old → Written shapes forms whole next new
advances shapes forms whole stack others piece old new next e are adds w =
    after_opening shapes forms whole stack others piece old new next (opened shapes forms piece) e refl are adds w

-- ---- at the end nothing is left

pub none_left : (pieces : List Piece) → length pieces ≡ 0 → pieces ≡ []
none_left [] e = refl
none_left (piece ∷ pieces) e = absurd (omega arith)

pub ends_with : (shapes : List Shape) (forms : List Form) (whole stack : List Piece) (writer : Writer) (text : List ℕ) → stack ≡ [] → text ≡ string_bytes writer.text
    → Written shapes forms whole stack writer → (words : List Word) × Spells shapes forms whole words × (text ≡ text_of words)
ends_with shapes forms whole stack writer text none is w = (
  w.done,
  subst (λ (ws : List Word). Spells shapes forms whole ws) (append-nil w.done)
      (w.ends [] (subst (λ (ps : List Piece). Spells shapes forms (reverse ps) []) (sym none) nothing)),
  is ∙ w.text,
)
