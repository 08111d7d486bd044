-- What the text of a form is made of: marks, and its parts, each at a level of the grammar.
use Rattle.std.specs.Prelude.{List, [], ◌∷◌, ◌++◌, Option, None, Some, nat_le, if◌then◌else◌}
use Rattle.rz_lex.specs.declared.token.Tok.{Tok}
use Rattle.rz_lex.specs.declared.token.Tok.TheVariants as token
use Rattle.rz_syntax.specs.declared.forms.Raw.{Raw}
use Rattle.rz_syntax.specs.declared.forms.Pat.{Pat}
use Rattle.rz_syntax.specs.declared.forms.Shape.{Shape}
use Rattle.rz_syntax.specs.declared.forms.Shape.TheVariants as shape
use Rattle.rz_syntax.specs.declared.forms.Bind.{Bind}
use Rattle.rz_syntax.specs.declared.forms.RawFace.{RawFace}
use Rattle.rz_syntax.specs.declared.forms.Form.{Form}
use Rattle.rz_syntax.specs.declared.forms.Form.TheVariants as form
use Rattle.rz_print.specs.declared.layout.Piece.{Piece}
use Rattle.rz_print.specs.declared.layout.Piece.TheVariants.{Mark, Part, Pattern, Domain}
use Rattle.rz_print.specs.declared.level.Level.{Level}
use Rattle.rz_print.specs.declared.level.Level.TheVariants as level
use Rattle.rz_print.specs.Level.{rank, home}

abbrev pub term : Raw → Piece
term raw = Part raw level.Term

-- ---- lists of parts

abbrev pub argument_pieces : List Raw → List Piece
argument_pieces [] = []
argument_pieces (arg ∷ args) = Part arg level.Atom ∷ argument_pieces args

-- each behind a comma
abbrev pub more_terms : List Raw → List Piece
more_terms [] = []
more_terms (raw ∷ raws) = Mark token.Comma ∷ term raw ∷ more_terms raws

-- with commas between them
abbrev pub listed_terms : List Raw → List Piece
listed_terms [] = []
listed_terms (raw ∷ raws) = term raw ∷ more_terms raws

abbrev pub face_pieces : RawFace → List Piece
face_pieces face = Part face.tope level.Disjunction ∷ Mark token.MapsTo ∷ term face.term ∷ []

-- each behind a comma
abbrev pub more_faces : List RawFace → List Piece
more_faces [] = []
more_faces (face ∷ faces) = (Mark token.Comma ∷ face_pieces face) ++ more_faces faces

-- with commas between them
abbrev pub listed_faces : List RawFace → List Piece
listed_faces [] = []
listed_faces (face ∷ faces) = face_pieces face ++ more_faces faces

-- ---- binders

-- what stands behind the type of a binder
abbrev pub bind_end : Option Raw → List Piece
bind_end None = Mark token.CloseParen ∷ []
bind_end (Some tope) = Mark token.Bar ∷ term tope ∷ Mark token.CloseParen ∷ []

-- a binder in brackets, or its pattern alone where it has no type
abbrev pub typed_pieces : Pat → Option Raw → Option Raw → List Piece
typed_pieces pat None tope = Pattern pat ∷ []
typed_pieces pat (Some of) tope =
    (Mark token.OpenParen ∷ Pattern pat ∷ Mark token.Colon ∷ term of ∷ []) ++ bind_end tope

abbrev pub bind_pieces : Bind → List Piece
bind_pieces bind = typed_pieces bind.pat bind.of bind.tope

abbrev pub parameter_pieces : List Bind → List Piece
parameter_pieces [] = []
parameter_pieces (bind ∷ binds) = bind_pieces bind ++ parameter_pieces binds

-- a nameless binder with a type alone is that type
abbrev pub nameless_pieces : Bind → Option Raw → Option Raw → List Piece
nameless_pieces bind (Some of) None = Part of level.Rest ∷ []
nameless_pieces bind of tope = bind_pieces bind

-- what stands before the arrow of a function type, whose binder has this pattern
abbrev pub domain_pieces : Shape → Bind → List Piece
domain_pieces shape.Blank bind = nameless_pieces bind bind.of bind.tope
domain_pieces _ bind = bind_pieces bind

-- the pieces of a pattern; a name has none
abbrev pub shape_pieces : Shape → List Piece
shape_pieces (shape.Named name) = []
shape_pieces shape.Blank = Mark token.Blank ∷ []
shape_pieces (shape.Pair left right) =
    Mark token.OpenParen ∷ Pattern left ∷ Mark token.Comma ∷ Pattern right
    ∷ Mark token.CloseParen ∷ []

-- ---- forms

-- the token of a form without parts
abbrev pub leaf_kind : Form → Option Tok
leaf_kind form.Universe = Some token.Universe
leaf_kind form.CubeSort = Some token.CubeSort
leaf_kind form.TopeSort = Some token.TopeSort
leaf_kind form.CubeOne = Some token.CubeOne
leaf_kind form.CubeTwo = Some token.CubeTwo
leaf_kind form.Star = Some token.Star
leaf_kind form.EndZero = Some token.EndZero
leaf_kind form.EndOne = Some token.EndOne
leaf_kind form.Top = Some token.Top
leaf_kind form.Bottom = Some token.Bottom
leaf_kind form.UnitType = Some token.UnitType
leaf_kind form.UnitTerm = Some token.UnitTerm
leaf_kind form.RecBot = Some token.RecBot
leaf_kind form.Refl = Some token.Refl
leaf_kind _ = None

abbrev pub leaf_pieces : Option Tok → List Piece
leaf_pieces None = []
leaf_pieces (Some kind) = Mark kind ∷ []

abbrev pub between : Piece → Tok → Piece → List Piece
between left kind right = left ∷ Mark kind ∷ right ∷ []

abbrev pub under_binds : Tok → List Bind → Tok → Raw → List Piece
under_binds kind binds end body =
    (Mark kind ∷ []) ++ parameter_pieces binds ++ Mark end ∷ term body ∷ []

abbrev pub with_faces : List Piece → List RawFace → Tok → List Piece
with_faces front faces end = front ++ listed_faces faces ++ Mark end ∷ []

abbrev pub induction_pieces : List Raw → List Piece
induction_pieces parts =
    (Mark token.IdJ ∷ Mark token.OpenParen ∷ []) ++ listed_terms parts ++ Mark token.CloseParen ∷ []

abbrev pub application_pieces : Raw → List Raw → List Piece
application_pieces head args = (Part head level.Head ∷ []) ++ argument_pieces args

abbrev pub reflexivity_pieces : Raw → Option Raw → List Piece
reflexivity_pieces point None = Mark token.ReflAt ∷ term point ∷ Mark token.CloseBrace ∷ []
reflexivity_pieces point (Some of) =
    Mark token.ReflAt ∷ term point ∷ Mark token.Colon ∷ term of ∷ Mark token.CloseBrace ∷ []

abbrev pub equality_pieces : Raw → Raw → Raw → List Piece
equality_pieces of left right =
    Part left level.Product ∷ Mark token.EqualAt ∷ term of ∷ Mark token.CloseBrace
    ∷ Part right level.Product ∷ []

-- the pieces of a form that is an atom or begins with one
abbrev pub inner_layout : Form → List Piece
inner_layout (form.ReflAt point of) = reflexivity_pieces point of
inner_layout (form.IdJ parts) = induction_pieces parts
inner_layout (form.RecOr faces) =
    with_faces (Mark token.RecOr ∷ Mark token.OpenParen ∷ []) faces token.CloseParen
inner_layout (form.Pair left right) =
    Mark token.OpenParen ∷ term left ∷ Mark token.Comma ∷ term right ∷ Mark token.CloseParen ∷ []
inner_layout (form.App head args) = application_pieces head args
inner_layout (form.First arg) = Mark token.First ∷ Part arg level.Atom ∷ []
inner_layout (form.Second arg) = Mark token.Second ∷ Part arg level.Atom ∷ []
inner_layout other = leaf_pieces (leaf_kind other)

-- the pieces of a form with a mark between two parts, or of one that is an atom or begins with one
abbrev pub joined_layout : Form → List Piece
joined_layout (form.Or left right) =
    between (Part left level.Conjunction) token.Or (Part right level.Disjunction)
joined_layout (form.And left right) =
    between (Part left level.Relation) token.And (Part right level.Conjunction)
joined_layout (form.SamePoint left right) =
    between (Part left level.Product) token.SamePoint (Part right level.Product)
joined_layout (form.AtMost left right) =
    between (Part left level.Product) token.AtMost (Part right level.Product)
joined_layout (form.Equal left right) =
    between (Part left level.Product) token.Equal (Part right level.Product)
joined_layout (form.Product left right) =
    between (Part left level.Product) token.Product (Part right level.Application)
joined_layout other = inner_layout other

-- The pieces of a form without brackets. A name has none, nor has a form that is never written.
abbrev pub layout : Form → List Piece
layout (form.Lambda binds body) = under_binds token.Lambda binds token.Arrow body
layout (form.Sigma bind body) = under_binds token.Sigma (bind ∷ []) token.Comma body
layout (form.Arrow bind body) = between (Domain bind) token.Arrow (term body)
layout (form.As point of) = between (Part point level.Rest) token.As (Part of level.Rest)
layout (form.Restrict body faces) =
    with_faces (Part body level.Disjunction ∷ Mark token.OpenBracket ∷ []) faces token.CloseBracket
layout (form.EqualAt of left right) = equality_pieces of left right
layout other = joined_layout other

-- pieces in brackets
abbrev pub bracketed : List Piece → List Piece
bracketed pieces = (Mark token.OpenParen ∷ []) ++ pieces ++ Mark token.CloseParen ∷ []

-- The pieces of a form at a level: in brackets where it doesn't stand there without.
abbrev pub placed : Level → Form → List Piece
placed at written =
    if nat_le (rank at) (rank (home written)) then layout written else bracketed (layout written)
