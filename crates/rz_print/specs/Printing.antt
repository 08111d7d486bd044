-- How a text is written: the pieces that are left, and the words that are written.
use Rattle.std.specs.Prelude.{◌≡◌, List, [], ◌∷◌, ◌++◌, Option, Some, string_bytes, reverse}
use Rattle.rz_lex.specs.declared.token.Tok.{Tok}
use Rattle.rz_print.specs.declared.layout.Piece.{Piece}
use Rattle.rz_print.specs.declared.writer.Writer.{Writer}
use Rattle.rz_print.specs.Text.{Word, text_behind}
use Rattle.rz_print.specs.Words.{Opening, Writes, Opens, Lost}

-- the token before what follows words, where this one stands before them
abbrev pub last_kind : Option Tok → List Word → Option Tok
last_kind before [] = before
last_kind before (word ∷ words) = last_kind (Some word.kind) words

-- Words are added to the text.
pub record Adds (old new : Writer) (words : List Word) : Type 0 where
  pub text : string_bytes new.text ≡ string_bytes old.text ++ text_behind old.last words
  pub last : new.last ≡ last_kind old.last words

-- the pieces that are left once one is taken apart, the next one last
abbrev pub pieces_after : Opening → List Piece → List Piece
pieces_after (Writes word) stack = stack
pieces_after (Opens pieces) stack = stack ++ reverse pieces
pieces_after Lost stack = stack

-- the words that are written when it is
abbrev pub words_of : Opening → List Word
words_of (Writes word) = word ∷ []
words_of (Opens pieces) = []
words_of Lost = []
