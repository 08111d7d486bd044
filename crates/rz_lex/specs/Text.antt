-- How a whole text is read: gaps and tokens in turn.
use Rattle.std.specs.Prelude.{◌≡◌, ℕ, ◌+◌, ◌<◌, ◌≤◌, Bool, true, not, ◌||◌, ◌==◌, nat_lt, List, [], ◌∷◌, length, take, drop, reverse, count_by, Result, Ok, Err, is_none}
use Rattle.std.specs.Option.{option_map}
use Rattle.std.specs.List.{take_while, list_all, cons_option}
use Rattle.std.specs.Str.{IsCharBoundary}
use Rattle.rz_lex.specs.declared.token.Tok.{Tok}
use Rattle.rz_lex.specs.declared.token.Token.{Token}
use Rattle.rz_lex.specs.declared.token.LexFault.{LexFault}
use Rattle.rz_lex.specs.declared.token.LexFault.TheVariants.{BadToken, OutOfMemory}
use Rattle.rz_lex.specs.declared.piece.Piece.{Piece}
use Rattle.rz_lex.specs.declared.table.TheConstants.{LINE_FEED}
use Rattle.rz_lex.specs.Pieces.{is_not_line_feed, Begins, NothingBegins}

-- what ends a line
abbrev pub is_line_feed : ℕ → Bool
is_line_feed byte = byte == LINE_FEED

-- A character's first byte is none of 128 to 191, and its others are.
abbrev pub begins_character : ℕ → Bool
begins_character byte = nat_lt byte 128 || not (nat_lt byte 192)

-- the line feeds in what stands before a place
unfoldable pub line_feeds : List ℕ → ℕ
line_feeds before = count_by is_line_feed before

-- the characters behind the last of them, counted from the end
unfoldable pub characters : List ℕ → ℕ
characters before = count_by begins_character (take_while is_not_line_feed (reverse before))

-- the line of a place, from 1
abbrev pub line_of : List ℕ → ℕ → ℕ
line_of text place = line_feeds (take place text) + 1

-- its column, from 1
abbrev pub column_of : List ℕ → ℕ → ℕ
column_of text place = characters (take place text) + 1

-- From one place to the other the pieces stand in a row, and each is what begins at its place.
abbrev pub Covers : List ℕ → List Piece → ℕ → ℕ → Type 0
Covers text [] from to = from ≡ to
Covers text (piece ∷ pieces) from to = Begins (drop from text) piece × Covers text pieces (from + piece.len) to

-- the token of so many bytes at a place
abbrev pub token_at : List ℕ → ℕ → ℕ → Tok → Token
token_at text from len kind = record { kind = kind; from = from; to = from + len; line = line_of text from; column = column_of text from }

-- the tokens among the pieces
abbrev pub tokens_among : List ℕ → List Piece → ℕ → List Token
tokens_among text [] from = []
tokens_among text (piece ∷ pieces) from = cons_option (option_map (token_at text from piece.len) piece.kind) (tokens_among text pieces (from + piece.len))

-- Up to a place the text is gaps and tokens in turn, and these are the tokens.
pub record ReadsTo (text : List ℕ) (place : ℕ) (tokens : List Token) : Type 0 where
  pub pieces : List Piece
  pub covers : Covers text pieces 0 place
  pub are : tokens ≡ tokens_among text pieces 0

-- The whole text is gaps and tokens in turn, and these are the tokens.
abbrev pub Lexed : List ℕ → List Token → Type 0
Lexed text tokens = ReadsTo text (length text) tokens

-- The text is read up to a place where no gap and no token begins.
pub record StopsAt (text : List ℕ) (place : ℕ) : Type 0 where
  pub tokens : List Token
  pub reads : ReadsTo text place tokens
  pub inside : place < length text
  pub nothing : NothingBegins (drop place text)

-- It is read up to such a place, which has this line and column.
pub record IsBadAt (text : List ℕ) (line column : ℕ) : Type 0 where
  pub place : ℕ
  pub stops : StopsAt text place
  pub line_is : line ≡ line_of text place
  pub column_is : column ≡ column_of text place

-- what a fault says of a text
abbrev pub IsFaultOf : List ℕ → LexFault → Type 0
IsFaultOf text (BadToken line column) = IsBadAt text line column
IsFaultOf text OutOfMemory = Unit {0}

-- Either the whole text is read, or the fault is one of the text.
abbrev pub IsReading : List ℕ → Result (List Token) LexFault → Type 0
IsReading text (Ok tokens) = Lexed text tokens
IsReading text (Err fault) = IsFaultOf text fault

-- The answer is this one, unless memory ran out.
abbrev pub UnlessMemory : Result (List Token) LexFault → Result (List Token) LexFault → Type 0
UnlessMemory (Err OutOfMemory) wanted = Unit {0}
UnlessMemory answer wanted = answer ≡ wanted

-- Between the places stand white space and comments alone.
pub record IsGap (text : List ℕ) (from to : ℕ) : Type 0 where
  pub forward : from ≤ to
  pub gaps : List Piece
  pub no_token : list_all (λ piece. is_none piece.kind) gaps ≡ true
  pub covers : Covers text gaps from to

-- From a place on the spans rise without overlap, and between them, before the first and after the last are gaps.
abbrev pub AreSpansOf : List ℕ → ℕ → List Token → Type 0
AreSpansOf text from [] = IsGap text from (length text)
AreSpansOf text from (token ∷ tokens) = IsGap text from token.from × (token.from < token.to) × AreSpansOf text token.to tokens

-- The token's bytes are whole characters of the text.
pub record IsWhole (text : List ℕ) (token : Token) : Type 0 where
  pub from : IsCharBoundary text token.from
  pub to : IsCharBoundary text token.to
