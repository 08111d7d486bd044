-- The longest token at the front of a text that begins with a word.
use Rattle.std.proofs.Common.{◌≡◌, ℕ, ◌+◌, ◌-◌, ◌<◌, ◌≤◌, Bool, true, false, List, [], ◌∷◌, ◌++◌, None, Some, length, take, refl, sym, ap, ◌∙◌, arith, length-append, eq-eqb}
use Rattle.std.specs.Prelude.{◌==◌, ◌&&◌, ◌||◌, not}
use Rattle.std.specs.List.{list_all}
use Rattle.std.specs.Str.{bytes_eq}
use Rattle.std.proofs.Math.Bool.{and-false}
use Rattle.std.proofs.lemmas.Bool.{false_from_ne_true}
use Rattle.std.proofs.lemmas.Slice.Eq.{bytes_eq-Decides}
use Rattle.std.proofs.Math.Seq.{take-append_seam, take-append-add}
use Rattle.rz_lex.specs.declared.token.Tok.{Tok}
use Rattle.rz_lex.specs.Spelling.{Entry, table, spelled, meaning, is_in_name, may_begin_name, is_name, is_string, IsLongestToken}
use Rattle.rz_print.specs.Reading.{has, rest_of, front_of, is_stop, is_end}

pub and_left : (a b : Bool) → (a && b) ≡ true → a ≡ true
and_left true b e = refl
and_left false b e = e

pub and_right : (a b : Bool) → (a && b) ≡ true → b ≡ true
and_right true b e = e
and_right false b e = absurd (cc)

or_right : (a b : Bool) → b ≡ true → (a || b) ≡ true
or_right true b e = refl
or_right false b e = e

pub untrue : (a : Bool) → not a ≡ true → a ≡ false
untrue true e = sym e
untrue false e = refl

both : (a : Bool) → not a ≡ true → a ≡ true → ⊥
both true e f = absurd (cc)
both false e f = absurd (cc)

-- ---- the table means nothing by what passes a test that no entry passes

pub not_meant : (entries : List Entry) (test : List ℕ → Bool) (bytes : List ℕ) → list_all (λ entry. not (test entry.0)) entries ≡ true → test bytes ≡ true → meaning entries bytes ≡ None
not_meant [] test bytes all passes = refl
not_meant (entry ∷ entries) test bytes all passes =
    let other : bytes_eq entry.0 bytes ≡ false = false_from_ne_true (bytes_eq entry.0 bytes) (λ e.
    both (test entry.0) (and_left (not (test entry.0)) (list_all (λ e. not (test e.0)) entries) all)
    (ap test ((bytes_eq-Decides entry.0 bytes).0 e) ∙ passes)) in
    rw other (not_meant entries test bytes (and_right (not (test entry.0)) (list_all (λ e. not (test e.0)) entries) all) passes)

has_first : (byte : ℕ) (bytes : List ℕ) → has byte (byte ∷ bytes) ≡ true
has_first byte bytes = rw (eq-eqb byte byte refl) refl

has_later : (byte other : ℕ) (bytes : List ℕ) → has byte bytes ≡ true → has byte (other ∷ bytes) ≡ true
has_later byte other bytes e = or_right (other == byte) (has byte bytes) e

has_middle : (front : List ℕ) (byte : ℕ) (rest : List ℕ) → has byte (front ++ byte ∷ rest) ≡ true
has_middle [] byte rest = has_first byte rest
has_middle (first ∷ front) byte rest = has_later byte first (front ++ byte ∷ rest) (has_middle front byte rest)

has_before_last : (front : List ℕ) (byte next : ℕ) (rest : List ℕ) → has byte (front_of (front ++ byte ∷ next ∷ rest)) ≡ true
has_before_last [] byte next rest = has_first byte (front_of (next ∷ rest))
has_before_last (first ∷ []) byte next rest = has_later byte first (front_of (byte ∷ next ∷ rest)) (has_before_last [] byte next rest)
has_before_last (first ∷ second ∷ front) byte next rest =
    has_later byte first (front_of (second ∷ (front ++ byte ∷ next ∷ rest))) (has_before_last (second ∷ front) byte next rest)

-- ---- nor is it a name

not_all : (front : List ℕ) (byte : ℕ) (rest : List ℕ) → is_in_name byte ≡ false → list_all is_in_name (front ++ byte ∷ rest) ≡ false
not_all [] byte rest e = ap (λ (b : Bool). b && list_all is_in_name rest) e
not_all (first ∷ front) byte rest e =
    ap (λ (b : Bool). is_in_name first && b) (not_all front byte rest e) ∙ and-false (is_in_name first)

not_name : (front : List ℕ) (byte : ℕ) (rest : List ℕ) → is_in_name byte ≡ false → is_name (front ++ byte ∷ rest) ≡ false
not_name [] byte rest e =
    ap (λ (b : Bool). may_begin_name byte && b) (not_all [] byte rest e) ∙ and-false (may_begin_name byte)
not_name (first ∷ front) byte rest e =
    ap (λ (b : Bool). may_begin_name first && b) (not_all (first ∷ front) byte rest e) ∙ and-false (may_begin_name first)

means_nothing : (bytes : List ℕ) → meaning table bytes ≡ None → is_name bytes ≡ false → is_string bytes ≡ false → spelled table bytes ≡ None
means_nothing bytes fixed name string = rw (fixed, name, string) refl

-- a byte that stands in no name, and in no entry behind its first byte, ends a word
pub stopped : (first : ℕ) (word : List ℕ) (byte : ℕ) (rest : List ℕ) → is_stop byte ≡ true → is_string ((first ∷ word) ++ byte ∷ rest) ≡ false → spelled table ((first ∷ word) ++ byte ∷ rest) ≡ None
unfolding is_stop
stopped first word byte rest stop string =
    means_nothing ((first ∷ word) ++ byte ∷ rest)
    (not_meant table (λ bytes. has byte (rest_of bytes)) ((first ∷ word) ++ byte ∷ rest)
    (and_right (not (is_in_name byte)) (list_all (λ entry. not (has byte (rest_of entry.0))) table) stop) (has_middle word byte rest))
    (not_name (first ∷ word) byte rest (untrue (is_in_name byte) (and_left (not (is_in_name byte)) (list_all (λ entry. not (has byte (rest_of entry.0))) table) stop)))
    string

-- so does one that stands in no name, and in each entry as the last byte alone
pub ended : (front : List ℕ) (byte next : ℕ) (rest : List ℕ) → is_end byte ≡ true → is_string (front ++ byte ∷ next ∷ rest) ≡ false → spelled table (front ++ byte ∷ next ∷ rest) ≡ None
unfolding is_end
ended front byte next rest end string =
    means_nothing (front ++ byte ∷ next ∷ rest)
    (not_meant table (λ bytes. has byte (front_of bytes)) (front ++ byte ∷ next ∷ rest)
    (and_right (not (is_in_name byte)) (list_all (λ entry. not (has byte (front_of entry.0))) table) end) (has_before_last front byte next rest))
    (not_name front byte (next ∷ rest) (untrue (is_in_name byte) (and_left (not (is_in_name byte)) (list_all (λ entry. not (has byte (front_of entry.0))) table) end)))
    string

-- a word is the longest token where nothing longer is spelled
pub is_longest : (bytes rest : List ℕ) (kind : Tok) → 0 < length bytes → spelled table bytes ≡ Some kind
    → ((more : ℕ) → 0 < more → more ≤ length rest → spelled table (bytes ++ take more rest) ≡ None)
    → IsLongestToken (spelled table) (bytes ++ rest) (length bytes) kind
is_longest bytes rest kind some is none = record {
  some = some;
  within = omega (arith, length-append bytes rest);
  is = ap (spelled table) (take-append_seam bytes rest) ∙ is;
  longest = λ other above le.
      let more = other - length bytes in
      let whole : other ≡ length bytes + more = omega arith in
      ap (λ (n : ℕ). spelled table (take n (bytes ++ rest))) whole
      ∙ ap (spelled table) (take-append-add bytes rest more)
      ∙ none more (omega arith) (omega (arith, length-append bytes rest));
}
