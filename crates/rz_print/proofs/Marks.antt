-- The words that are written may stand in a text.
use Rattle.std.proofs.Common.{◌≡◌, ℕ, ◌<◌, Bool, true, false, List, [], ◌∷◌, ◌++◌, Some, length, refl, sym, ap, ◌∙◌, arith}
use Rattle.std.specs.Prelude.{◌==◌, not, nat_eq}
use Rattle.std.specs.List.{list_all, list_any}
use Rattle.std.proofs.lemmas.Bool.{false_from_ne_true, eqb-true, eq-eqb}
use Rattle.rz_lex.specs.declared.token.Tok.{Tok}
use Rattle.rz_lex.specs.declared.token.Tok.TheVariants as token
use Rattle.rz_lex.specs.declared.table.TheConstants.{NEVER_IN_NAMES}
use Rattle.rz_lex.specs.Spelling.{table, spelled, is_in_name, may_begin_name, is_white, is_string}
use Rattle.rz_lex.specs.Pieces.{opens_gap}
use Rattle.rz_print.specs.Text.{first_spelling, opens, closes, is_paren}
use Rattle.rz_print.specs.Words.{mark_word, name_word}
use Rattle.rz_print.specs.Reading.{is_stop, is_end, EndsWell, BeginsWell, IsPrinted, IsName}
use Rattle.rz_print.proofs.Spelled.{and_left, and_right, untrue}

-- whether a token is one that forms are written with, beside names
abbrev pub is_mark : Tok → Bool
is_mark token.Name = false
is_mark token.Text = false
is_mark token.OpenBrace = false
is_mark _ = true

-- ---- marks

mark_spelled : (kind : Tok) → is_mark kind ≡ true → spelled table (first_spelling table kind) ≡ Some kind
unfolding table
mark_spelled token.Name e = absurd (cc)
mark_spelled token.Text e = absurd (cc)
mark_spelled token.OpenBrace e = absurd (cc)
mark_spelled _ e = refl

is_empty : List ℕ → Bool
is_empty [] = true
is_empty (byte ∷ bytes) = false

some_of : (bytes : List ℕ) → is_empty bytes ≡ false → 0 < length bytes
unfolding is_empty
some_of [] e = absurd (cc)
some_of (byte ∷ bytes) e = omega arith

mark_some : (kind : Tok) → is_mark kind ≡ true → is_empty (first_spelling table kind) ≡ false
unfolding table is_empty
mark_some token.Name e = absurd (cc)
mark_some token.Text e = absurd (cc)
mark_some token.OpenBrace e = refl
mark_some _ e = refl

mark_no_gap : (kind : Tok) → is_mark kind ≡ true → (rest : List ℕ) → opens_gap (first_spelling table kind ++ rest) ≡ false
unfolding table opens_gap is_white
mark_no_gap token.Name e rest = absurd (cc)
mark_no_gap token.Text e rest = absurd (cc)
mark_no_gap token.OpenBrace e rest = absurd (cc)
mark_no_gap _ e rest = refl

mark_no_string : (kind : Tok) → is_mark kind ≡ true → (rest : List ℕ) → is_string (first_spelling table kind ++ rest) ≡ false
unfolding table
mark_no_string token.Name e rest = absurd (cc)
mark_no_string token.Text e rest = absurd (cc)
mark_no_string token.OpenBrace e rest = refl
mark_no_string _ e rest = refl

mark_opening : (kind : Tok) → opens kind ≡ true → EndsWell (first_spelling table kind)
unfolding table is_end is_in_name is_white
mark_opening token.OpenParen e = ([], 40, refl, refl)
mark_opening token.OpenBracket e = ([], 91, refl, refl)
mark_opening token.EqualAt e = (61 ∷ 95 ∷ [], 123, refl, refl)
mark_opening token.ReflAt e = (114 ∷ 101 ∷ 102 ∷ 108 ∷ 95 ∷ [], 123, refl, refl)
mark_opening _ e = absurd (cc)

mark_closing : (kind : Tok) → closes kind ≡ true → BeginsWell (first_spelling table kind)
unfolding table is_stop is_in_name is_white
mark_closing token.CloseParen e = (41, [], refl, refl)
mark_closing token.CloseBracket e = (93, [], refl, refl)
mark_closing token.CloseBrace e = (125, [], refl, refl)
mark_closing token.Comma e = (44, [], refl, refl)
mark_closing _ e = absurd (cc)

mark_paren : (kind : Tok) → is_paren kind ≡ true → BeginsWell (first_spelling table kind)
unfolding table is_stop is_in_name is_white
mark_paren token.OpenParen e = (40, [], refl, refl)
mark_paren _ e = absurd (cc)

pub mark_printed : (kind : Tok) → is_mark kind ≡ true → IsPrinted (mark_word kind)
mark_printed kind e = record {
  spelled_so = mark_spelled kind e;
  some = some_of (first_spelling table kind) (mark_some kind e);
  no_gap = mark_no_gap kind e;
  no_string = mark_no_string kind e;
  opening = mark_opening kind;
  closing = mark_closing kind;
  paren = mark_paren kind;
}

-- ---- names

-- a byte that passes a test is none that doesn't
differs : (test : ℕ → Bool) (byte other : ℕ) → test byte ≡ true → test other ≡ false → nat_eq byte other ≡ false
differs test byte other passes fails =
    false_from_ne_true (nat_eq byte other) (λ e.
    let both : true ≡ false = sym passes ∙ ap test (eqb-true byte other e) ∙ fails in absurd (cc))

turned : (a b : ℕ) → nat_eq a b ≡ false → nat_eq b a ≡ false
turned a b e =
    false_from_ne_true (nat_eq b a) (λ f.
    let both : true ≡ false = sym (eq-eqb a b (sym (eqb-true b a f))) ∙ e in absurd (cc))

no_dash : (byte : ℕ) → may_begin_name byte ≡ true → nat_eq 45 byte ≡ false
unfolding may_begin_name
no_dash byte e = turned byte 45 (differs may_begin_name byte 45 e refl)

no_brace : (byte : ℕ) → is_in_name byte ≡ true → nat_eq 123 byte ≡ false
unfolding is_in_name is_white
no_brace byte e = turned byte 123 (differs is_in_name byte 123 e refl)

no_quote : (byte : ℕ) → is_in_name byte ≡ true → nat_eq byte 34 ≡ false
unfolding is_in_name is_white
no_quote byte e = differs is_in_name byte 34 e refl

no_white : (byte : ℕ) → is_in_name byte ≡ true → is_white byte ≡ false
unfolding is_in_name
no_white byte e = untrue (is_white byte) (and_left (not (is_white byte)) (not (list_any (λ mark. mark == byte) NEVER_IN_NAMES.now)) e)

name_no_gap : (byte : ℕ) (rest : List ℕ) → may_begin_name byte ≡ true → is_in_name byte ≡ true → opens_gap (byte ∷ rest) ≡ false
unfolding opens_gap
name_no_gap byte rest e f = rw (no_white byte f, no_dash byte e, no_brace byte f) refl

name_no_string : (byte : ℕ) (rest : List ℕ) → is_in_name byte ≡ true → is_string (byte ∷ rest) ≡ false
name_no_string byte rest f = rw (no_quote byte f) refl

name_spelled : (bytes : List ℕ) → IsName bytes → spelled table bytes ≡ Some token.Name
name_spelled bytes name = rw (name.free, name.may_be) refl

pub name_printed : (name : List ℕ) → IsName name → IsPrinted (name_word name)
name_printed [] name = let none : false ≡ true = name.may_be in absurd (cc)
name_printed (byte ∷ bytes) name =
    let first : may_begin_name byte ≡ true = and_left (may_begin_name byte) (list_all is_in_name (byte ∷ bytes)) name.may_be in
    let all : list_all is_in_name (byte ∷ bytes) ≡ true = and_right (may_begin_name byte) (list_all is_in_name (byte ∷ bytes)) name.may_be in
    let here : is_in_name byte ≡ true = and_left (is_in_name byte) (list_all is_in_name bytes) all in
    record {
      spelled_so = name_spelled (byte ∷ bytes) name;
      some = omega arith;
      no_gap = λ rest. name_no_gap byte (bytes ++ rest) first here;
      no_string = λ rest. name_no_string byte (bytes ++ rest) here;
      opening = λ e. absurd (cc);
      closing = λ e. absurd (cc);
      paren = λ e. absurd (cc);
    }
