-- A token that is a name is spelled like one.
use Rattle.std.proofs.Common.{◌≡◌, ℕ, ◌+◌, ◌-◌, zero, suc, Bool, true, false, List, [], ◌∷◌, Option, None, Some, length, take, drop, refl, sym, ap, ◌∙◌, subst, arith}
use Rattle.std.specs.Prelude.{if◌then◌else◌, not, MatchOption, slice_range}
use Rattle.std.specs.Option.{option_map, option_or}
use Rattle.std.specs.List.{list_all, cons_option}
use Rattle.std.specs.Str.{bytes_eq}
use Rattle.rz_lex.specs.declared.token.Tok.{Tok}
use Rattle.rz_lex.specs.declared.token.Tok.TheVariants as token
use Rattle.rz_lex.specs.declared.token.Token.{Token}
use Rattle.rz_lex.specs.declared.piece.Piece.{Piece}
use Rattle.rz_lex.specs.Spelling.{Entry, table, spelled, meaning, free_meaning, is_name, is_string, IsLongestToken}
use Rattle.rz_lex.specs.Pieces.{opens_gap, gap_len}
use Rattle.rz_lex.specs.Text.{Covers, token_at, tokens_among, Lexed}
use Rattle.rz_print.specs.Reading.{IsName}
use Rattle.rz_print.proofs.Spelled.{and_left, and_right}
use Rattle.rz_print.proofs.Effects.{NamesAre}

is_name_kind : Tok → Bool
is_name_kind token.Name = true
is_name_kind _ = false

abbrev no_names : List Entry → Bool
no_names entries = list_all (λ entry. not (is_name_kind entry.1)) entries

table_has_none : no_names table ≡ true
unfolding table is_name_kind
table_has_none = refl

entry_no_name : (kind : Tok) → not (is_name_kind kind) ≡ true → Some kind ≡ Some token.Name → ⊥
unfolding is_name_kind
entry_no_name kind e f =
    let same : kind ≡ token.Name = cc in
    let other : not (is_name_kind token.Name) ≡ true = subst (λ (k : Tok). not (is_name_kind k) ≡ true) same e in
    absurd (cc)

by_entry : (same : Bool) (kind : Tok) (others : Option Tok) → not (is_name_kind kind) ≡ true → (others ≡ Some token.Name → ⊥) → (if same then Some kind else others) ≡ Some token.Name → ⊥
by_entry true kind others e h f = entry_no_name kind e f
by_entry false kind others e h f = h f

never_name : (entries : List Entry) (bytes : List ℕ) → no_names entries ≡ true → meaning entries bytes ≡ Some token.Name → ⊥
never_name [] bytes all e = absurd (cc)
never_name (entry ∷ entries) bytes all e =
    by_entry (bytes_eq entry.0 bytes) entry.1 (meaning entries bytes) (and_left (not (is_name_kind entry.1)) (no_names entries) all)
    (never_name entries bytes (and_right (not (is_name_kind entry.1)) (no_names entries) all)) e

free_name : (name string : Bool) → (if name then Some token.Name else if string then Some token.Text else None) ≡ Some token.Name → name ≡ true
free_name true string e = refl
free_name false true e = absurd (cc)
free_name false false e = absurd (cc)

either_name : (bytes : List ℕ) (meant : Option Tok) → meaning table bytes ≡ meant → option_or meant (free_meaning bytes) ≡ Some token.Name → IsName bytes
either_name bytes None m e = record { may_be = free_name (is_name bytes) (is_string bytes) e; free = m }
either_name bytes (Some kind) m e = absurd (never_name table bytes table_has_none (m ∙ e))

spelled_name : (bytes : List ℕ) → spelled table bytes ≡ Some token.Name → IsName bytes
spelled_name bytes e = either_name bytes (meaning table bytes) refl e

-- the names among the tokens of pieces
names_at : (text : List ℕ) (from len : ℕ) (kind : Option Tok) (rest : List Token)
    → MatchOption kind ((opens_gap (drop from text) ≡ true) × (gap_len (drop from text) ≡ Some len)) (λ k. (opens_gap (drop from text) ≡ false) × IsLongestToken (spelled table) (drop from text) len k)
    → NamesAre text rest → NamesAre text (cons_option (option_map (token_at text from len) kind) rest)
names_at text from len None rest h ih read e = ih read e
names_at text from len (Some kind) rest h ih zero e =
    let same : kind ≡ token.Name = cc in
    let bytes : slice_range text from (from + len) ≡ take len (drop from text) = ap (λ (n : ℕ). take n (drop from text)) (length_of from len) in
    subst IsName (sym bytes) (spelled_name (take len (drop from text)) (h.1.is ∙ ap (λ (k : Tok). Some k) same))
  where
    length_of : (a b : ℕ) → (a + b) - a ≡ b
    length_of a b = omega arith
names_at text from len (Some kind) rest h ih (suc read) e = ih read e

names_among : (text : List ℕ) (pieces : List Piece) (from to : ℕ) → Covers text pieces from to → NamesAre text (tokens_among text pieces from)
names_among text [] from to c = λ read e. absurd (cc)
names_among text (piece ∷ pieces) from to c =
    names_at text from piece.len piece.kind (tokens_among text pieces (from + piece.len)) c.0 (names_among text pieces (from + piece.len) to c.1)

pub names_are : (text : List ℕ) (tokens : List Token) → Lexed text tokens → NamesAre text tokens
names_are text tokens l = subst (λ (ts : List Token). NamesAre text ts) (sym l.are) (names_among text l.pieces 0 (length text) l.covers)
