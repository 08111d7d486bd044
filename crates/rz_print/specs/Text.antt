-- Tokens as text: each in its first spelling, with a space where two stand apart.
use Rattle.std.specs.Prelude.{◌≡◌, ℕ, Bool, true, false, ◌&&◌, ◌||◌, List, [], ◌∷◌, ◌++◌, Option, None, Some, if◌then◌else◌}
use denote.Enum.Bare.{sameb}
use Rattle.rz_lex.specs.declared.token.Tok.{Tok}
use Rattle.rz_lex.specs.declared.token.Tok.TheVariants as token
use Rattle.rz_lex.specs.contracts.token.Tok.{the_type}
use Rattle.rz_lex.specs.Spelling.{Entry, table, spelled}

-- what a table spells a token like first; nothing where it doesn't have the token
abbrev pub first_spelling : List Entry → Tok → List ℕ
first_spelling [] kind = []
first_spelling (entry ∷ others) kind =
    if sameb the_type entry.1 kind then entry.0 else first_spelling others kind

-- whether the token stands close before any other
abbrev pub opens : Tok → Bool
opens token.OpenParen = true
opens token.OpenBracket = true
opens token.EqualAt = true
opens token.ReflAt = true
opens _ = false

-- whether the token stands close behind any other
abbrev pub closes : Tok → Bool
closes token.CloseParen = true
closes token.CloseBracket = true
closes token.CloseBrace = true
closes token.Comma = true
closes _ = false

-- whether a bracket is the token's own
abbrev pub has_bracket : Tok → Bool
has_bracket token.IdJ = true
has_bracket token.RecOr = true
has_bracket _ = false

abbrev pub is_paren : Tok → Bool
is_paren token.OpenParen = true
is_paren _ = false

-- whether nothing stands between two tokens
abbrev pub is_glued : Tok → Tok → Bool
is_glued kind next = opens kind || closes next || has_bracket kind && is_paren next

-- a space
abbrev pub SPACE : List ℕ
SPACE = 32 ∷ []

-- what stands between the token before, if there is one, and the next
abbrev pub gap_between : Option Tok → Tok → List ℕ
gap_between None kind = []
gap_between (Some before) kind = if is_glued before kind then [] else SPACE

-- a token, and what it is spelled like
pub record Word : Type 0 where
  pub kind : Tok
  pub bytes : List ℕ

-- the text of words, behind such a token
abbrev pub text_behind : Option Tok → List Word → List ℕ
text_behind before [] = []
text_behind before (word ∷ words) =
    gap_between before word.kind ++ word.bytes ++ text_behind (Some word.kind) words

-- the text of words
abbrev pub text_of : List Word → List ℕ
text_of words = text_behind None words

-- the token is spelled so
abbrev pub IsWord : Word → Type 0
IsWord word = spelled table word.bytes ≡ Some word.kind
