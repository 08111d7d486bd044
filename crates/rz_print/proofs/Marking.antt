-- All marks of layouts are tokens that forms are written with.
use Rattle.std.proofs.Common.{◌≡◌, ℕ, Bool, true, false, List, [], ◌∷◌, ◌++◌, Option, None, Some, refl, sym, ap, subst}
use Rattle.std.specs.Prelude.{◌&&◌, if◌then◌else◌, slice_get, nat_le}
use Rattle.std.specs.List.{list_all}
use Rattle.rz_lex.specs.declared.token.Tok.{Tok}
use Rattle.rz_lex.specs.declared.token.Tok.TheVariants as token
use Rattle.rz_syntax.specs.declared.forms.Raw.{Raw}
use Rattle.rz_syntax.specs.declared.forms.Bind.{Bind}
use Rattle.rz_syntax.specs.declared.forms.Pat.{Pat}
use Rattle.rz_syntax.specs.declared.forms.RawFace.{RawFace}
use Rattle.rz_syntax.specs.declared.forms.Shape.{Shape}
use Rattle.rz_syntax.specs.declared.forms.Shape.TheVariants as shape
use Rattle.rz_syntax.specs.declared.forms.Form.{Form}
use Rattle.rz_syntax.specs.declared.forms.Form.TheVariants as form
use Rattle.rz_print.specs.declared.layout.Piece.{Piece}
use Rattle.rz_print.specs.declared.layout.Piece.TheVariants.{Mark, Part, Pattern, Domain}
use Rattle.rz_print.specs.declared.level.Level.{Level}
use Rattle.rz_print.specs.Level.{rank, home}
use Rattle.rz_print.specs.Layout.{argument_pieces, more_terms, listed_terms, more_faces, listed_faces, typed_pieces, bind_pieces, parameter_pieces, nameless_pieces, domain_pieces, shape_pieces, layout, bracketed, placed, term}
use Rattle.rz_print.specs.Text.{Word, text_of}
use Rattle.rz_print.specs.Words.{Writes, Opens, mark_word, name_word, opened, opened_form, opened_part, opened_shape, opened_pattern, opened_domain, Spells, nothing, writes, opens}
use Rattle.rz_print.specs.Reading.{IsPrinted, IsName, HaveNames, ArePrinted, ReadsAs}
use Rattle.rz_print.proofs.Spelled.{and_left, and_right}
use Rattle.rz_print.proofs.Lexing.{text_is_read}
use Rattle.rz_print.proofs.Marks.{is_mark, mark_printed, name_printed}

-- whether a mark is one of those tokens; any other piece is well
abbrev pub marked : Piece → Bool
marked (Mark kind) = is_mark kind
marked _ = true

abbrev pub AreMarked : List Piece → Type 0
AreMarked pieces = list_all marked pieces ≡ true

pub all_append : (ps qs : List Piece) → AreMarked ps → AreMarked qs → AreMarked (ps ++ qs)
all_append [] qs e f = f
all_append (p ∷ ps) qs e f = on_first (marked p) (list_all marked ps) (list_all marked (ps ++ qs)) e (λ rest. all_append ps qs rest f)
  where
    on_first : (a b c : Bool) → (a && b) ≡ true → (b ≡ true → c ≡ true) → (a && c) ≡ true
    on_first true b c e g = g e
    on_first false b c e g = e

arguments_marked : (args : List Raw) → AreMarked (argument_pieces args)
arguments_marked [] = refl
arguments_marked (arg ∷ args) = arguments_marked args

terms_marked : (raws : List Raw) → AreMarked (more_terms raws)
terms_marked [] = refl
terms_marked (raw ∷ raws) = terms_marked raws

listed_marked : (raws : List Raw) → AreMarked (listed_terms raws)
listed_marked [] = refl
listed_marked (raw ∷ raws) = terms_marked raws

more_faces_marked : (faces : List RawFace) → AreMarked (more_faces faces)
more_faces_marked [] = refl
more_faces_marked (face ∷ faces) = more_faces_marked faces

faces_marked : (faces : List RawFace) → AreMarked (listed_faces faces)
faces_marked [] = refl
faces_marked (face ∷ faces) = more_faces_marked faces

typed_marked : (pat : Pat) (of tope : Option Raw) → AreMarked (typed_pieces pat of tope)
typed_marked pat None tope = refl
typed_marked pat (Some of) None = refl
typed_marked pat (Some of) (Some tope) = refl

parameters_marked : (binds : List Bind) → AreMarked (parameter_pieces binds)
parameters_marked [] = refl
parameters_marked (bind ∷ binds) = all_append (bind_pieces bind) (parameter_pieces binds) (typed_marked bind.pat bind.of bind.tope) (parameters_marked binds)

nameless_marked : (bind : Bind) (of tope : Option Raw) → AreMarked (nameless_pieces bind of tope)
nameless_marked bind None tope = typed_marked bind.pat bind.of bind.tope
nameless_marked bind (Some of) None = refl
nameless_marked bind (Some of) (Some tope) = typed_marked bind.pat bind.of bind.tope

domain_marked : (drawn : Shape) (bind : Bind) → AreMarked (domain_pieces drawn bind)
domain_marked shape.Blank bind = nameless_marked bind bind.of bind.tope
domain_marked _ bind = typed_marked bind.pat bind.of bind.tope

shape_marked : (drawn : Shape) → AreMarked (shape_pieces drawn)
shape_marked (shape.Named name) = refl
shape_marked shape.Blank = refl
shape_marked (shape.Pair left right) = refl

layout_marked : (written : Form) → AreMarked (layout written)
layout_marked (form.Lambda binds body) = all_append (Mark token.Lambda ∷ parameter_pieces binds) (Mark token.Arrow ∷ term body ∷ []) (parameters_marked binds) refl
layout_marked (form.Sigma bind body) = all_append (Mark token.Sigma ∷ parameter_pieces (bind ∷ [])) (Mark token.Comma ∷ term body ∷ []) (parameters_marked (bind ∷ [])) refl
layout_marked (form.Restrict body faces) = all_append (listed_faces faces) (Mark token.CloseBracket ∷ []) (faces_marked faces) refl
layout_marked (form.RecOr faces) = all_append (listed_faces faces) (Mark token.CloseParen ∷ []) (faces_marked faces) refl
layout_marked (form.IdJ parts) = all_append (listed_terms parts) (Mark token.CloseParen ∷ []) (listed_marked parts) refl
layout_marked (form.App head args) = arguments_marked args
layout_marked (form.ReflAt point None) = refl
layout_marked (form.ReflAt point (Some of)) = refl
layout_marked _ = refl

bracketed_marked : (pieces : List Piece) → AreMarked pieces → AreMarked (bracketed pieces)
bracketed_marked pieces e = all_append pieces (Mark token.CloseParen ∷ []) e refl

either_marked : (stands : Bool) (pieces : List Piece) → AreMarked pieces → AreMarked (if stands then pieces else bracketed pieces)
either_marked true pieces e = e
either_marked false pieces e = bracketed_marked pieces e

placed_marked : (at : Level) (written : Form) → AreMarked (placed at written)
placed_marked at written = either_marked (nat_le (rank at) (rank (home written))) (layout written) (layout_marked written)

-- ---- what a piece is taken apart into

inner_same : (a b : List Piece) → Opens a ≡ Opens b → a ≡ b
inner_same a b e = cc

along : (a b : List Piece) → Opens a ≡ Opens b → AreMarked a → AreMarked b
along a b e m = subst AreMarked (inner_same a b e) m

form_marked : (at : Level) (written : Form) (inner : List Piece) → opened_form at written ≡ Opens inner → AreMarked inner
form_marked at (form.Named name) inner e = absurd (cc)
form_marked at other inner e = along (placed at other) inner e (placed_marked at other)

part_marked : (at : Level) (found : Option Form) (inner : List Piece) → opened_part at found ≡ Opens inner → AreMarked inner
part_marked at None inner e = absurd (cc)
part_marked at (Some written) inner e = form_marked at written inner e

drawn_marked : (drawn : Shape) (inner : List Piece) → opened_shape drawn ≡ Opens inner → AreMarked inner
drawn_marked (shape.Named name) inner e = absurd (cc)
drawn_marked other inner e = along (shape_pieces other) inner e (shape_marked other)

pattern_marked : (found : Option Shape) (inner : List Piece) → opened_pattern found ≡ Opens inner → AreMarked inner
pattern_marked None inner e = absurd (cc)
pattern_marked (Some drawn) inner e = drawn_marked drawn inner e

bind_marked : (bind : Bind) (found : Option Shape) (inner : List Piece) → opened_domain bind found ≡ Opens inner → AreMarked inner
bind_marked bind None inner e = absurd (cc)
bind_marked bind (Some drawn) inner e = along (domain_pieces drawn bind) inner e (domain_marked drawn bind)

pub inner_marked : (shapes : List Shape) (forms : List Form) (piece : Piece) (inner : List Piece) → opened shapes forms piece ≡ Opens inner → AreMarked inner
inner_marked shapes forms (Mark kind) inner e = absurd (cc)
inner_marked shapes forms (Part raw at) inner e = part_marked at (slice_get forms raw.form) inner e
inner_marked shapes forms (Pattern pat) inner e = pattern_marked (slice_get shapes pat.shape) inner e
inner_marked shapes forms (Domain bind) inner e = bind_marked bind (slice_get shapes bind.pat.shape) inner e

-- ---- the words of pieces

mark_same : (kind : Tok) (word : Word) → Writes (mark_word kind) ≡ Writes word → mark_word kind ≡ word
mark_same kind word e = cc

name_same : (name : List ℕ) (word : Word) → Writes (name_word name) ≡ Writes word → name_word name ≡ word
name_same name word e = cc

-- the word is a name, if its name is one
named_printed : (name : List ℕ) (word : Word) → Writes (name_word name) ≡ Writes word → (word.kind ≡ token.Name → IsName word.bytes) → IsPrinted word
named_printed name word e h =
    let same : name_word name ≡ word = name_same name word e in
    let good : IsName word.bytes = h (sym (ap (λ (w : Word). w.kind) same)) in
    subst IsPrinted same (name_printed name (subst IsName (sym (ap (λ (w : Word). w.bytes) same)) good))

form_printed : (at : Level) (written : Form) (word : Word) → opened_form at written ≡ Writes word → (word.kind ≡ token.Name → IsName word.bytes) → IsPrinted word
form_printed at (form.Named name) word e h = named_printed name word e h
form_printed at other word e h = absurd (cc)

part_printed : (at : Level) (found : Option Form) (word : Word) → opened_part at found ≡ Writes word → (word.kind ≡ token.Name → IsName word.bytes) → IsPrinted word
part_printed at None word e h = absurd (cc)
part_printed at (Some written) word e h = form_printed at written word e h

drawn_printed : (drawn : Shape) (word : Word) → opened_shape drawn ≡ Writes word → (word.kind ≡ token.Name → IsName word.bytes) → IsPrinted word
drawn_printed (shape.Named name) word e h = named_printed name word e h
drawn_printed other word e h = absurd (cc)

pattern_printed : (found : Option Shape) (word : Word) → opened_pattern found ≡ Writes word → (word.kind ≡ token.Name → IsName word.bytes) → IsPrinted word
pattern_printed None word e h = absurd (cc)
pattern_printed (Some drawn) word e h = drawn_printed drawn word e h

bind_printed : (bind : Bind) (found : Option Shape) (word : Word) → opened_domain bind found ≡ Writes word → IsPrinted word
bind_printed bind None word e = absurd (cc)
bind_printed bind (Some drawn) word e = absurd (cc)

word_printed : (shapes : List Shape) (forms : List Form) (piece : Piece) (word : Word) → marked piece ≡ true → opened shapes forms piece ≡ Writes word
    → (word.kind ≡ token.Name → IsName word.bytes) → IsPrinted word
word_printed shapes forms (Mark kind) word m e h = subst IsPrinted (mark_same kind word e) (mark_printed kind m)
word_printed shapes forms (Part raw at) word m e h = part_printed at (slice_get forms raw.form) word e h
word_printed shapes forms (Pattern pat) word m e h = pattern_printed (slice_get shapes pat.shape) word e h
word_printed shapes forms (Domain bind) word m e h = bind_printed bind (slice_get shapes bind.pat.shape) word e

names_split : (xs ys : List Word) → HaveNames (xs ++ ys) → HaveNames xs × HaveNames ys
names_split [] ys h = (tt, h)
names_split (x ∷ xs) ys h = let t = names_split xs ys h.1 in ((h.0, t.0), t.1)

printed_join : (xs ys : List Word) → ArePrinted xs → ArePrinted ys → ArePrinted (xs ++ ys)
printed_join [] ys a b = b
printed_join (x ∷ xs) ys a b = (a.0, printed_join xs ys a.1 b)

-- the words of marked pieces may stand in a text, if the names among them are names
pub words_printed : {shapes : List Shape} {forms : List Form} {pieces : List Piece} {words : List Word} → Spells shapes forms pieces words → AreMarked pieces → HaveNames words → ArePrinted words
words_printed nothing m h = tt
words_printed {shapes} {forms} (writes {piece} {pieces} word e s) m h = (
  word_printed shapes forms piece word (and_left (marked piece) (list_all marked pieces) m) e h.0,
  words_printed s (and_right (marked piece) (list_all marked pieces) m) h.1,
)
words_printed {shapes} {forms} (opens {piece} {pieces} {front} {rest} inner e s t) m h =
    let names = names_split front rest h in
    printed_join front rest
    (words_printed s (inner_marked shapes forms piece inner e) names.0)
    (words_printed t (and_right (marked piece) (list_all marked pieces) m) names.1)

pub form_is_read : (shapes : List Shape) (forms : List Form) (raw : Raw) (words : List Word) → Spells shapes forms (term raw ∷ []) words → HaveNames words → ReadsAs (text_of words) words
form_is_read shapes forms raw words s h = text_is_read words (words_printed s refl h)
