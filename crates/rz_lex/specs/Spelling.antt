-- What bytes spell: a token of the table, a name or a string.
use Rattle.std.specs.Prelude.{◌≡◌, ℕ, ◌<◌, ◌≤◌, Bool, true, false, not, ◌&&◌, ◌==◌, List, [], ◌∷◌, length, take, map, Option, None, Some, if◌then◌else◌}
use Rattle.std.specs.Option.{option_or}
use Rattle.std.specs.List.{list_any, list_all}
use Rattle.std.specs.Str.{bytes_eq}
use Rattle.std.specs.Borrow.{Bor}
use Rattle.rz_lex.specs.declared.token.Tok.{Tok}
use Rattle.rz_lex.specs.declared.token.Tok.TheVariants.{Name, Text}
use Rattle.rz_lex.specs.declared.table.TheConstants.{FIXED, WHITE_SPACE, NEVER_IN_NAMES, NEVER_FIRST, LINE_FEED, QUOTE}

-- space, tab, line feed and carriage return
unfoldable pub is_white : ℕ → Bool
is_white byte = list_any (λ white. white == byte) WHITE_SPACE.now

-- Names have all but white space and a few marks. So they have the bytes from 128 on, and with them every character beyond ASCII.
unfoldable pub is_in_name : ℕ → Bool
is_in_name byte = not (is_white byte) && not (list_any (λ mark. mark == byte) NEVER_IN_NAMES.now)

-- what a name begins with, if a name has it
unfoldable pub may_begin_name : ℕ → Bool
may_begin_name byte = not (list_any (λ mark. mark == byte) NEVER_FIRST.now)

-- one byte or more that names have, the first of which may begin one
abbrev pub is_name : List ℕ → Bool
is_name [] = false
is_name (first ∷ bytes) = may_begin_name first && list_all is_in_name (first ∷ bytes)

-- neither a quote nor a line feed, and then a quote that is the last byte
abbrev pub is_string_body : List ℕ → Bool
is_string_body [] = false
is_string_body (first ∷ bytes) = if first == QUOTE then length bytes == 0 else not (first == LINE_FEED) && is_string_body bytes

-- two quotes, and between them neither a quote nor a line feed
abbrev pub is_string : List ℕ → Bool
is_string [] = false
is_string (first ∷ bytes) = first == QUOTE && is_string_body bytes

-- a spelling, and what it means
abbrev pub Entry : Type 0
Entry = List ℕ × Tok

-- a table that is lent
abbrev pub entries : List (Bor (List ℕ) × Tok) → List Entry
entries lent = map (λ entry. (entry.0.now, entry.1)) lent

-- the table of the tokens
unfoldable pub table : List Entry
table = map (λ entry. (entry.0.now, entry.1)) FIXED.now

-- what a table says that bytes mean
abbrev pub meaning : List Entry → List ℕ → Option Tok
meaning [] bytes = None
meaning (entry ∷ others) bytes = if bytes_eq entry.0 bytes then Some entry.1 else meaning others bytes

-- what is a name or a string, where the table doesn't have it
abbrev pub free_meaning : List ℕ → Option Tok
free_meaning bytes = if is_name bytes then Some Name else if is_string bytes then Some Text else None

-- the token that bytes are
abbrev pub spelled : List Entry → List ℕ → Option Tok
spelled fixed bytes = option_or (meaning fixed bytes) (free_meaning bytes)

-- Of the fronts of the text that pass, the longest has this length. Where none passes the length is 0.
pub record IsLongest (passes : List ℕ → Bool) (text : List ℕ) (len : ℕ) : Type 0 where
  pub within : len ≤ length text
  pub best : 0 < len → passes (take len text) ≡ true
  pub longest : (other : ℕ) → len < other → other ≤ length text → passes (take other text) ≡ false

-- The longest front of the text that spells a token has this length and is this token.
pub record IsLongestToken (spells : List ℕ → Option Tok) (text : List ℕ) (len : ℕ) (kind : Tok) : Type 0 where
  pub some : 0 < len
  pub within : len ≤ length text
  pub is : spells (take len text) ≡ Some kind
  pub longest : (other : ℕ) → len < other → other ≤ length text → spells (take other text) ≡ None

-- No front of the text but the empty one spells a token.
abbrev pub NoToken : (List ℕ → Option Tok) → List ℕ → Type 0
NoToken spells text = (len : ℕ) → 0 < len → len ≤ length text → spells (take len text) ≡ None
