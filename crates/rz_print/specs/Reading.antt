-- What the text of words is read as.
use Rattle.std.specs.Prelude.{◌≡◌, ℕ, ◌<◌, Bool, true, false, not, ◌&&◌, ◌==◌, List, [], ◌∷◌, ◌++◌, length, None, Some, slice_range}
use Rattle.std.specs.List.{list_any, list_all}
use Rattle.rz_lex.specs.declared.token.Tok.TheVariants.{Name}
use Rattle.rz_lex.specs.declared.token.Token.{Token}
use Rattle.rz_lex.specs.Spelling.{table, spelled, meaning, is_name, is_in_name, is_string}
use Rattle.rz_lex.specs.Pieces.{opens_gap}
use Rattle.rz_lex.specs.Text.{Lexed}
use Rattle.rz_print.specs.Text.{Word, opens, closes, is_paren}

-- whether a byte is among others
abbrev pub has : ℕ → List ℕ → Bool
has byte bytes = list_any (λ other. other == byte) bytes

-- all bytes but the first
abbrev pub rest_of : List ℕ → List ℕ
rest_of [] = []
rest_of (first ∷ bytes) = bytes

-- all bytes but the last
abbrev pub front_of : List ℕ → List ℕ
front_of [] = []
front_of (first ∷ []) = []
front_of (first ∷ second ∷ bytes) = first ∷ front_of (second ∷ bytes)

-- whether no name has the byte, and each spelling of the table at its beginning alone
unfoldable pub is_stop : ℕ → Bool
is_stop byte = not (is_in_name byte) && list_all (λ entry. not (has byte (rest_of entry.0))) table

-- whether no name has the byte, and each spelling of the table at its end alone
unfoldable pub is_end : ℕ → Bool
is_end byte = not (is_in_name byte) && list_all (λ entry. not (has byte (front_of entry.0))) table

-- the bytes end with such a byte
abbrev pub EndsWell : List ℕ → Type 0
EndsWell bytes = (front : List ℕ) × (last : ℕ) × (bytes ≡ front ++ last ∷ []) × (is_end last ≡ true)

-- the bytes begin with one that stops a word
abbrev pub BeginsWell : List ℕ → Type 0
BeginsWell bytes = (first : ℕ) × (rest : List ℕ) × (bytes ≡ first ∷ rest) × (is_stop first ≡ true)

-- A word that may stand in a text: it is spelled so, begins no comment and no string, and is cut
-- off where nothing stands beside it.
pub record IsPrinted (word : Word) : Type 0 where
  pub spelled_so : spelled table word.bytes ≡ Some word.kind
  pub some : 0 < length word.bytes
  pub no_gap : (rest : List ℕ) → opens_gap (word.bytes ++ rest) ≡ false
  pub no_string : (rest : List ℕ) → is_string (word.bytes ++ rest) ≡ false
  pub opening : opens word.kind ≡ true → EndsWell word.bytes
  pub closing : closes word.kind ≡ true → BeginsWell word.bytes
  pub paren : is_paren word.kind ≡ true → BeginsWell word.bytes

-- The bytes are a name: they may be one, and the table doesn't have them.
pub record IsName (bytes : List ℕ) : Type 0 where
  pub may_be : is_name bytes ≡ true
  pub free : meaning table bytes ≡ None

-- the names among words are names
abbrev pub HaveNames : List Word → Type 0
HaveNames [] = Unit {0}
HaveNames (word ∷ words) = (word.kind ≡ Name → IsName word.bytes) × HaveNames words

abbrev pub ArePrinted : List Word → Type 0
ArePrinted [] = Unit {0}
ArePrinted (word ∷ words) = IsPrinted word × ArePrinted words

-- The tokens are these words.
abbrev pub AreWords : List ℕ → List Token → List Word → Type 0
AreWords text [] [] = Unit {0}
AreWords text (token ∷ tokens) (word ∷ words) =
    (token.kind ≡ word.kind) × (slice_range text token.from token.to ≡ word.bytes)
    × AreWords text tokens words
AreWords text tokens words = ⊥

-- The text is read as these words.
pub record ReadsAs (text : List ℕ) (words : List Word) : Type 0 where
  pub tokens : List Token
  pub lexed : Lexed text tokens
  pub are : AreWords text tokens words
