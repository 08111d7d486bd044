-- The words of a form, from the tables of forms and patterns.
use Rattle.std.specs.Prelude.{◌≡◌, ℕ, List, [], ◌∷◌, ◌++◌, Option, None, Some, slice_get}
use Rattle.rz_lex.specs.declared.token.Tok.{Tok}
use Rattle.rz_lex.specs.declared.token.Tok.TheVariants.{Name}
use Rattle.rz_lex.specs.Spelling.{table}
use Rattle.rz_syntax.specs.declared.forms.Raw.{Raw}
use Rattle.rz_syntax.specs.declared.forms.Shape.{Shape}
use Rattle.rz_syntax.specs.declared.forms.Shape.TheVariants as shape
use Rattle.rz_syntax.specs.declared.forms.Form.{Form}
use Rattle.rz_syntax.specs.declared.forms.Form.TheVariants as form
use Rattle.rz_syntax.specs.declared.forms.Bind.{Bind}
use Rattle.rz_print.specs.declared.layout.Piece.{Piece}
use Rattle.rz_print.specs.declared.layout.Piece.TheVariants.{Mark, Part, Pattern, Domain}
use Rattle.rz_print.specs.declared.level.Level.{Level}
use Rattle.rz_print.specs.Layout.{term, placed, shape_pieces, domain_pieces}
use Rattle.rz_print.specs.Text.{Word, first_spelling, text_of}

-- what a piece is: a word, or more pieces; it is lost where its table ends before it
pub data Opening : Type 0 where
  Writes : (word : Word) → Opening
  Opens : (pieces : List Piece) → Opening
  Lost : Opening

abbrev pub mark_word : Tok → Word
mark_word kind = record { kind = kind; bytes = first_spelling table kind }

abbrev pub name_word : List ℕ → Word
name_word name = record { kind = Name; bytes = name }

abbrev pub opened_form : Level → Form → Opening
opened_form at (form.Named name) = Writes (name_word name)
opened_form at other = Opens (placed at other)

abbrev pub opened_part : Level → Option Form → Opening
opened_part at None = Lost
opened_part at (Some written) = opened_form at written

abbrev pub opened_shape : Shape → Opening
opened_shape (shape.Named name) = Writes (name_word name)
opened_shape other = Opens (shape_pieces other)

abbrev pub opened_pattern : Option Shape → Opening
opened_pattern None = Lost
opened_pattern (Some drawn) = opened_shape drawn

abbrev pub opened_domain : Bind → Option Shape → Opening
opened_domain bind None = Lost
opened_domain bind (Some drawn) = Opens (domain_pieces drawn bind)

-- what a piece is, with these tables
abbrev pub opened : List Shape → List Form → Piece → Opening
opened shapes forms (Mark kind) = Writes (mark_word kind)
opened shapes forms (Part raw at) = opened_part at (slice_get forms raw.form)
opened shapes forms (Pattern pat) = opened_pattern (slice_get shapes pat.shape)
opened shapes forms (Domain bind) = opened_domain bind (slice_get shapes bind.pat.shape)

-- The pieces are these words, once each is taken apart.
pub data Spells (shapes : List Shape) (forms : List Form) : List Piece → List Word → Type 0 where
  nothing : Spells shapes forms [] []
  writes : {piece : Piece} {pieces : List Piece} {words : List Word} (word : Word)
      → opened shapes forms piece ≡ Writes word → Spells shapes forms pieces words
      → Spells shapes forms (piece ∷ pieces) (word ∷ words)
  opens : {piece : Piece} {pieces : List Piece} {front rest : List Word} (inner : List Piece)
      → opened shapes forms piece ≡ Opens inner → Spells shapes forms inner front
      → Spells shapes forms pieces rest → Spells shapes forms (piece ∷ pieces) (front ++ rest)

-- The form has a text.
abbrev pub HasWords : List Shape → List Form → List Piece → Type 0
HasWords shapes forms pieces = (words : List Word) × Spells shapes forms pieces words

-- The text is that of the words of the form.
pub record IsTextOf (shapes : List Shape) (forms : List Form) (raw : Raw) (text : List ℕ) : Type 0 where
  pub words : List Word
  pub spelled : Spells shapes forms (term raw ∷ []) words
  pub is : text ≡ text_of words
