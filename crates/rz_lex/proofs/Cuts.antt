-- No token cuts a character: a piece of a text ends where a character begins or the text ends.
use Rattle.std.proofs.Common.{◌≡◌, ℕ, zero, suc, ◌+◌, ◌<◌, ◌≤◌, Bool, true, false, cond, ◌&&◌, not, eqb, ltb, nat_eq, lit<, All, Result, Ok, Err, List, [], ◌∷◌, length, get_or, take, drop, Option, Some, None, refl, sym, ap, subst, ◌∙◌, arith, inl, inr}
use Rattle.std.specs.Prelude.{IfOk}
use Rattle.std.specs.Option.{option_map, option_or}
use Rattle.std.specs.List.{list_any, list_all, prefix_len, cons_option, starts_with, AllByRecursion}
use Rattle.std.specs.Str.{IsUtf8, is_utf8, chars, IsCharBoundary, bytes_eq}
use Rattle.std.proofs.lemmas.Bool.{eqb-true, ltb-true, cases_lt, or_cases, and_parts, and_cases, not-false}
use Rattle.std.proofs.lemmas.Option.{same_Some, none-some}
use Rattle.std.proofs.lemmas.List.{length-take, length-take-le, length-drop, get_or-drop, get_or-take}
use Rattle.std.proofs.lemmas.List.Elements.{All-from_recursion}
use Rattle.std.proofs.lemmas.List.Folds.{list_all_more}
use Rattle.std.proofs.lemmas.List.Sums.{prefix_len_stops, prefix_len-le-length}
use Rattle.std.proofs.lemmas.Slice.Eq.{bytes_eq-Decides}
use Rattle.std.proofs.lemmas.Str.{IsUtf8-from_is_utf8, IsUtf8-drop, IsCharBoundary-start, IsCharBoundary-end, IsCharBoundary-before_ascii, IsCharBoundary-after_ascii, IsCharBoundary-from_take, IsCharBoundary-from_rest}
use Rattle.rz_lex.specs.declared.token.Tok.{Tok}
use Rattle.rz_lex.specs.declared.token.Tok.TheVariants.{Name, Text}
use Rattle.rz_lex.specs.declared.token.Token.{Token}
use Rattle.rz_lex.specs.declared.token.LexFault.{LexFault}
use Rattle.rz_lex.specs.declared.piece.Piece.{Piece}
use Rattle.rz_lex.specs.declared.table.TheConstants.{NEVER_IN_NAMES, LINE_COMMENT, BLOCK_COMMENT, BLOCK_COMMENT_END}
use Rattle.rz_lex.specs.Spelling.{Entry, is_white, is_in_name, may_begin_name, is_name, is_string, is_string_body, table, meaning, free_meaning, spelled, IsLongestToken}
use Rattle.rz_lex.specs.Pieces.{is_not_line_feed, gap_len, block_comment_end, block_comment_len, line_comment_len, Begins}
use Rattle.rz_lex.specs.Text.{Covers, token_at, tokens_among, Lexed, IsReading, IsWhole}
use Rattle.rz_lex.proofs.Fronts.{name_is_run}
use Rattle.rz_lex.proofs.Reading.{piece}

-- ---- spellings of the table

means_here_or_later : (b : Bool) (spelling bytes : List ℕ) (here kind : Tok) (later : Option Tok) → bytes_eq spelling bytes ≡ b → is_utf8 spelling ≡ true → (later ≡ Some kind → is_utf8 bytes ≡ true) → cond b (Some here) later ≡ Some kind → is_utf8 bytes ≡ true
means_here_or_later true spelling bytes here kind later same text others e = subst (λ (w : List ℕ). is_utf8 w ≡ true) ((bytes_eq-Decides spelling bytes).0 same) text
means_here_or_later false spelling bytes here kind later same text others e = others e

means_text : (fixed : List Entry) (bytes : List ℕ) (kind : Tok) → list_all (λ entry. is_utf8 entry.0) fixed ≡ true → meaning fixed bytes ≡ Some kind → is_utf8 bytes ≡ true
means_text [] bytes kind texts e = absurd (none-some kind e)
means_text (entry ∷ fixed) bytes kind texts e =
    let parts = and_parts (is_utf8 entry.0) (list_all (λ entry. is_utf8 entry.0) fixed) texts in
    means_here_or_later (bytes_eq entry.0 bytes) entry.0 bytes entry.1 kind (meaning fixed bytes) refl parts.0 (means_text fixed bytes kind parts.1) e

table_has_texts : list_all (λ entry. is_utf8 entry.0) table ≡ true
unfolding table is_utf8 chars lib.Utf8.encode
table_has_texts = refl

-- ---- bytes below 128

any_below : (marks : List ℕ) (byte : ℕ) → list_all (λ mark. ltb mark 128) marks ≡ true → list_any (λ mark. eqb mark byte) marks ≡ true → byte < 128
any_below [] byte below any = absurd cc
any_below (mark ∷ marks) byte below any =
    let parts = and_parts (ltb mark 128) (list_all (λ mark. ltb mark 128) marks) below in
    elim (or_cases (eqb mark byte) (list_any (λ mark. eqb mark byte) marks) any) [
      | inl here ↦ omega (arith, eqb-true mark byte here, ltb-true mark 128 parts.0)
      | inr later ↦ any_below marks byte parts.1 later
    ]

white_below : (byte : ℕ) → is_white byte ≡ true → byte < 128
unfolding is_white
white_below byte e = any_below (32 ∷ 9 ∷ 10 ∷ 13 ∷ []) byte refl e

mark_below : (byte : ℕ) → is_in_name byte ≡ false → byte < 128
unfolding is_in_name
mark_below byte e =
    elim (and_cases (not (is_white byte)) (not (list_any (λ mark. eqb mark byte) NEVER_IN_NAMES.now)) e) [
      | inl white ↦ white_below byte (not-false (is_white byte) white)
      | inr mark ↦ any_below NEVER_IN_NAMES.now byte refl (not-false (list_any (λ mark. eqb mark byte) NEVER_IN_NAMES.now) mark)
    ]

-- ---- gaps

starts_within : (text needle : List ℕ) → starts_with nat_eq text needle ≡ true → length needle ≤ length text
starts_within text needle e =
    let same : needle ≡ take (length needle) text = (bytes_eq-Decides needle (take (length needle) text)).0 e in
    omega (arith, ap length same, length-take (length needle) text)

-- where a block comment's last byte stands
record LastAt (bytes : List ℕ) (place byte : ℕ) : Type 0 where
  last : ℕ
  is : place ≡ last + 1
  within : last < length bytes
  reads : get_or bytes last 0 ≡ byte

end_or_later : (b : Bool) (first : ℕ) (others : List ℕ) (place : ℕ) (later : Option ℕ) → starts_with nat_eq (first ∷ others) BLOCK_COMMENT_END.now ≡ b → ((k : ℕ) → later ≡ Some k → LastAt others k 125) → cond b (Some 2) (option_map (λ k. 1 + k) later) ≡ Some place → LastAt (first ∷ others) place 125
end_or_later true first others place later begins after e =
    let same : 45 ∷ 125 ∷ [] ≡ take 2 (first ∷ others) = (bytes_eq-Decides (45 ∷ 125 ∷ []) (take 2 (first ∷ others))).0 begins in
    let two : 2 ≡ place = same_Some 2 place e in
    record {
      last = 1;
      is = sym two;
      within = omega (arith, starts_within (first ∷ others) (45 ∷ 125 ∷ []) begins);
      reads = sym (get_or-take 2 (first ∷ others) 1 0 (omega arith)) ∙ ap (λ (bs : List ℕ). get_or bs 1 0) (sym same);
    }
end_or_later false first others place None begins after e = absurd (none-some place e)
end_or_later false first others place (Some k) begins after e =
    let h = after k refl in
    let more : 1 + k ≡ place = same_Some (1 + k) place e in
    record { last = suc h.last; is = omega (arith, h.is, more); within = omega (arith, h.within); reads = h.reads }

block_ends : (bytes : List ℕ) (place : ℕ) → block_comment_end bytes ≡ Some place → LastAt bytes place 125
unfolding block_comment_end
block_ends [] place e = absurd (none-some place e)
block_ends (first ∷ others) place e = end_or_later (starts_with nat_eq (first ∷ others) BLOCK_COMMENT_END.now) first others place (block_comment_end others) refl (block_ends others) e

after_last : (text : List ℕ) (place byte : ℕ) → IsUtf8 text → byte < 128 → LastAt text place byte → IsCharBoundary text place
after_last text place byte utf8 below h = subst (λ (i : ℕ). IsCharBoundary text i) (sym h.is) (IsCharBoundary-after_ascii text h.last utf8 h.within (omega (arith, h.reads)))

-- two bytes further on
behind_opening : (text : List ℕ) (place byte : ℕ) → 2 ≤ length text → LastAt (drop 2 text) place byte → LastAt text (2 + place) byte
behind_opening text place byte le h = record {
  last = 2 + h.last;
  is = omega (arith, h.is);
  within = omega (arith, h.within, length-drop 2 text);
  reads = sym (get_or-drop 2 text h.last 0) ∙ h.reads;
}

block_is_whole : (text : List ℕ) (len : ℕ) (found : Option ℕ) → IsUtf8 text → 2 ≤ length text → block_comment_end (drop 2 text) ≡ found → option_map (λ place. 2 + place) found ≡ Some len → IsCharBoundary text len
block_is_whole text len None utf8 le is e = absurd (none-some len e)
block_is_whole text len (Some place) utf8 le is e = subst (λ (i : ℕ). IsCharBoundary text i) (same_Some (2 + place) len e) (after_last text (2 + place) 125 utf8 (lit< tt) (behind_opening text place 125 le (block_ends (drop 2 text) place is)))

line_is_whole : (text : List ℕ) (len : ℕ) → 2 ≤ length text → 2 + prefix_len is_not_line_feed (drop 2 text) ≡ len → IsCharBoundary text len
line_is_whole text len le is =
    elim (cases_lt len (length text)) [
      | inl lt ↦
          let stops = prefix_len_stops is_not_line_feed (drop 2 text) 0 (omega (arith, length-drop 2 text)) in
          let feed : get_or (drop 2 text) (prefix_len is_not_line_feed (drop 2 text)) 0 ≡ 10 = eqb-true _ 10 (not-false _ stops) in
          let here : get_or text len 0 ≡ 10 = ap (λ (i : ℕ). get_or text i 0) (sym is) ∙ sym (get_or-drop 2 text (prefix_len is_not_line_feed (drop 2 text)) 0) ∙ feed in
          IsCharBoundary-before_ascii text len lt (omega (arith, here))
      | inr past ↦
          let all : length text ≡ len = omega (arith, prefix_len-le-length is_not_line_feed (drop 2 text), length-drop 2 text) in
          subst (λ (i : ℕ). IsCharBoundary text i) all (IsCharBoundary-end text)
    ]

gap_is_whole : (white line block : Bool) (first : ℕ) (others : List ℕ) (len : ℕ) → IsUtf8 (first ∷ others) → is_white first ≡ white → starts_with nat_eq (first ∷ others) LINE_COMMENT.now ≡ line → starts_with nat_eq (first ∷ others) BLOCK_COMMENT.now ≡ block
    → cond white (Some 1) (cond line (Some (line_comment_len (first ∷ others))) (cond block (block_comment_len (first ∷ others)) None)) ≡ Some len → IsCharBoundary (first ∷ others) len
gap_is_whole true line block first others len utf8 w l b e =
    subst (λ (i : ℕ). IsCharBoundary (first ∷ others) i) (same_Some 1 len e) (IsCharBoundary-after_ascii (first ∷ others) 0 utf8 (omega arith) (white_below first w))
gap_is_whole false true block first others len utf8 w l b e = line_is_whole (first ∷ others) len (starts_within (first ∷ others) LINE_COMMENT.now l) (same_Some _ len e)
gap_is_whole false false true first others len utf8 w l b e = block_is_whole (first ∷ others) len (block_comment_end (drop 2 (first ∷ others))) utf8 (starts_within (first ∷ others) BLOCK_COMMENT.now b) refl e
gap_is_whole false false false first others len utf8 w l b e = absurd (none-some len e)

gap_len_is_whole : (text : List ℕ) (len : ℕ) → IsUtf8 text → gap_len text ≡ Some len → IsCharBoundary text len
unfolding gap_len
gap_len_is_whole [] len utf8 e = absurd (none-some len e)
gap_len_is_whole (first ∷ others) len utf8 e = gap_is_whole (is_white first) (starts_with nat_eq (first ∷ others) LINE_COMMENT.now) (starts_with nat_eq (first ∷ others) BLOCK_COMMENT.now) first others len utf8 refl refl refl e

-- ---- names and strings

name_stops : (text : List ℕ) (len : ℕ) → 0 < len → len < length text → is_name (take len text) ≡ true → is_name (take (len + 1) text) ≡ false → is_in_name (get_or text len 0) ≡ false
name_stops [] len lt within yes_here not_longer = absurd (omega arith)
name_stops (first ∷ others) zero lt within yes_here not_longer = absurd (omega arith)
name_stops (first ∷ others) (suc n) lt within yes_here not_longer =
    let parts = and_parts (may_begin_name first) (list_all is_in_name (take (suc n) (first ∷ others))) yes_here in
    let longer : list_all is_in_name (take (suc n + 1) (first ∷ others)) ≡ false = sym (name_is_run first others (suc n + 1) parts.0 (omega arith)) ∙ not_longer in
    let split = list_all_more is_in_name (first ∷ others) (suc n) 0 within in
    sym (ap (λ (b : Bool). b && is_in_name (get_or (first ∷ others) (suc n) 0)) parts.1) ∙ sym split ∙ longer

quote_or_later : (b : Bool) (first : ℕ) (bytes : List ℕ) → eqb first 34 ≡ b → (is_string_body bytes ≡ true → LastAt bytes (length bytes) 34) → cond b (eqb (length bytes) 0) (not (eqb first 10) && is_string_body bytes) ≡ true → LastAt (first ∷ bytes) (suc (length bytes)) 34
quote_or_later true first bytes is later e = record { last = 0; is = omega (arith, eqb-true (length bytes) 0 e); within = omega arith; reads = eqb-true first 34 is }
quote_or_later false first bytes is later e =
    let h = later ((and_parts (not (eqb first 10)) (is_string_body bytes) e).1) in
    record { last = suc h.last; is = omega (arith, h.is); within = omega (arith, h.within); reads = h.reads }

body_last : (bytes : List ℕ) → is_string_body bytes ≡ true → LastAt bytes (length bytes) 34
body_last [] e = absurd cc
body_last (first ∷ bytes) e = quote_or_later (eqb first 34) first bytes refl (body_last bytes) e

string_last : (bytes : List ℕ) → is_string bytes ≡ true → LastAt bytes (length bytes) 34
string_last [] e = absurd cc
string_last (first ∷ bytes) e =
    let h = body_last bytes ((and_parts (eqb first 34) (is_string_body bytes) e).1) in
    record { last = suc h.last; is = omega (arith, h.is); within = omega (arith, h.within); reads = h.reads }

string_is_whole : (text : List ℕ) (len : ℕ) → IsUtf8 text → len ≤ length text → is_string (take len text) ≡ true → IsCharBoundary text len
string_is_whole text len utf8 le e =
    let h = string_last (take len text) e in
    let long : length (take len text) ≡ len = length-take-le len text le in
    let at_text : LastAt text len 34 = record { last = h.last; is = sym long ∙ h.is; within = omega (arith, h.within, long); reads = sym (get_or-take len text h.last 0 (omega (arith, h.within, long))) ∙ h.reads } in
    after_last text len 34 utf8 (lit< tt) at_text

no_free : (m : Option Tok) (free : Option Tok) → option_or m free ≡ None → free ≡ None
no_free None free e = e
no_free (Some k) free e = absurd (none-some k (sym e))

no_name_free : (name : Bool) (other : Option Tok) → cond name (Some Name) other ≡ None → name ≡ false
no_name_free true other e = absurd (none-some Name (sym e))
no_name_free false other e = refl

name_is_whole : (text : List ℕ) (len : ℕ) → 0 < len → len ≤ length text → is_name (take len text) ≡ true → ((other : ℕ) → len < other → other ≤ length text → spelled table (take other text) ≡ None) → IsCharBoundary text len
name_is_whole text len lt le name longest =
    elim (cases_lt len (length text)) [
      | inl within ↦
          let none = no_free (meaning table (take (len + 1) text)) (free_meaning (take (len + 1) text)) (longest (len + 1) (omega arith) (omega arith)) in
          let stops = name_stops text len lt within name (no_name_free (is_name (take (len + 1) text)) _ none) in
          IsCharBoundary-before_ascii text len within (mark_below (get_or text len 0) stops)
      | inr past ↦
          let all : length text ≡ len = omega arith in
          subst (λ (i : ℕ). IsCharBoundary text i) all (IsCharBoundary-end text)
    ]

free_is_whole : (name string : Bool) (text : List ℕ) (len : ℕ) (kind : Tok) → IsUtf8 text → IsLongestToken (spelled table) text len kind → is_name (take len text) ≡ name → is_string (take len text) ≡ string → cond name (Some Name) (cond string (Some Text) None) ≡ Some kind → IsCharBoundary text len
free_is_whole true string text len kind utf8 h n s e = name_is_whole text len h.some h.within n h.longest
free_is_whole false true text len kind utf8 h n s e = string_is_whole text len utf8 h.within s
free_is_whole false false text len kind utf8 h n s e = absurd (none-some kind e)

token_is_whole : (m : Option Tok) (text : List ℕ) (len : ℕ) (kind : Tok) → IsUtf8 text → IsLongestToken (spelled table) text len kind → meaning table (take len text) ≡ m → option_or m (free_meaning (take len text)) ≡ Some kind → IsCharBoundary text len
token_is_whole None text len kind utf8 h is e = free_is_whole (is_name (take len text)) (is_string (take len text)) text len kind utf8 h refl refl e
token_is_whole (Some k) text len kind utf8 h is e = IsCharBoundary-from_take text len utf8 h.within (IsUtf8-from_is_utf8 (take len text) (means_text table (take len text) k table_has_texts is))

-- ---- whole texts

piece_is_whole : (text : List ℕ) (len : ℕ) (kind : Option Tok) → IsUtf8 text → Begins text (piece len kind) → IsCharBoundary text len
piece_is_whole text len None utf8 begins = gap_len_is_whole text len utf8 begins.1
piece_is_whole text len (Some kind) utf8 begins = token_is_whole (meaning table (take len text)) text len kind utf8 begins.1 refl begins.1.is

next_is_whole : (text : List ℕ) (from : ℕ) (p : Piece) → IsUtf8 text → IsCharBoundary text from → Begins (drop from text) p → IsCharBoundary text (from + p.len)
next_is_whole text from p utf8 here begins = IsCharBoundary-from_rest text from p.len here.0 (piece_is_whole (drop from text) p.len p.kind (IsUtf8-drop text from utf8 here) begins)

among_are_whole : (text : List ℕ) (len : ℕ) (kind : Option Tok) (from : ℕ) (others : List Token) → IsCharBoundary text from → IsCharBoundary text (from + len) → AllByRecursion (IsWhole text) others → AllByRecursion (IsWhole text) (cons_option (option_map (token_at text from len) kind) others)
among_are_whole text len None from others a b h = h
among_are_whole text len (Some kind) from others a b h = (record { from = a; to = b }, h)

covers_are_whole : (text : List ℕ) (ps : List Piece) (from to : ℕ) → IsUtf8 text → IsCharBoundary text from → Covers text ps from to → AllByRecursion (IsWhole text) (tokens_among text ps from)
covers_are_whole text [] from to utf8 here x = tt
covers_are_whole text (p ∷ ps) from to utf8 here x =
    let next = next_is_whole text from p utf8 here x.0 in
    among_are_whole text p.len p.kind from (tokens_among text ps (from + p.len)) here next (covers_are_whole text ps (from + p.len) to utf8 next x.1)

pub tokens_are_whole : (text : List ℕ) (tokens : List Token) → IsUtf8 text → Lexed text tokens → All (IsWhole text) tokens
tokens_are_whole text tokens utf8 x = All-from_recursion (IsWhole text) tokens (subst (λ (ts : List Token). AllByRecursion (IsWhole text) ts) (sym x.are) (covers_are_whole text x.pieces 0 (length text) utf8 (IsCharBoundary-start text utf8) x.covers))

pub answer_is_whole : (text : List ℕ) (r : Result (List Token) LexFault) → IsUtf8 text → IsReading text r → IfOk r (All (IsWhole text))
answer_is_whole text (Ok tokens) utf8 x = tokens_are_whole text tokens utf8 x
answer_is_whole text (Err fault) utf8 x = tt
