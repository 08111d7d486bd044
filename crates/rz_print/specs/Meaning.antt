-- What forms stand for, without their places and numbers, and which text is read as what.
use Rattle.std.specs.Prelude.{◌≡◌, ℕ, List, [], ◌∷◌, ◌++◌, Option, None, Some, map, slice_get}
use Rattle.rz_lex.specs.declared.token.Token.{Token}
use Rattle.rz_lex.specs.Text.{Lexed}
use Rattle.rz_syntax.specs.declared.action.Step.{Step}
use Rattle.rz_syntax.specs.declared.builder.Builder.{Builder}
use Rattle.rz_syntax.specs.declared.grammar.Rule.TheVariants as rule
use Rattle.rz_syntax.specs.declared.forms.Raw.{Raw}
use Rattle.rz_syntax.specs.declared.forms.Pat.{Pat}
use Rattle.rz_syntax.specs.declared.forms.Shape.{Shape}
use Rattle.rz_syntax.specs.declared.forms.Shape.TheVariants as shape
use Rattle.rz_syntax.specs.declared.forms.Bind.{Bind}
use Rattle.rz_syntax.specs.declared.forms.RawFace.{RawFace}
use Rattle.rz_syntax.specs.declared.forms.Form.{Form}
use Rattle.rz_syntax.specs.declared.forms.Form.TheVariants as form
use Rattle.rz_syntax.specs.declared.forms.Command.{Command}
use Rattle.rz_syntax.specs.declared.forms.Command.TheVariants as command
use Rattle.rz_syntax.specs.Grammar.{Gives, kinds_of}
use Rattle.rz_syntax.specs.Building.{built, nothing_read, top_operand, no_raw, no_pattern}

-- ---- a form without its parts

abbrev pub bare_option : Option Raw → Option Raw
bare_option None = None
bare_option (Some raw) = Some no_raw

abbrev pub bare_bind : Bind → Bind
bare_bind bind =
    record { pat = no_pattern; of = bare_option bind.of; tope = bare_option bind.tope }

abbrev pub bare_face : RawFace → RawFace
bare_face face = record { tope = no_raw; term = no_raw }

abbrev pub bare_parts : List Raw → List Raw
bare_parts raws = map (λ raw. no_raw) raws

-- the form with no number and no place of a part
abbrev pub bare : Form → Form
bare (form.ReflAt point of) = form.ReflAt no_raw (bare_option of)
bare (form.IdJ parts) = form.IdJ (bare_parts parts)
bare (form.RecOr faces) = form.RecOr (map bare_face faces)
bare (form.Pair left right) = form.Pair no_raw no_raw
bare (form.App head args) = form.App no_raw (bare_parts args)
bare (form.First arg) = form.First no_raw
bare (form.Second arg) = form.Second no_raw
bare (form.Product left right) = form.Product no_raw no_raw
bare (form.SamePoint left right) = form.SamePoint no_raw no_raw
bare (form.AtMost left right) = form.AtMost no_raw no_raw
bare (form.Equal left right) = form.Equal no_raw no_raw
bare (form.EqualAt of left right) = form.EqualAt no_raw no_raw no_raw
bare (form.And left right) = form.And no_raw no_raw
bare (form.Or left right) = form.Or no_raw no_raw
bare (form.Restrict body faces) = form.Restrict no_raw (map bare_face faces)
bare (form.Arrow bind body) = form.Arrow (bare_bind bind) no_raw
bare (form.Sigma bind body) = form.Sigma (bare_bind bind) no_raw
bare (form.Lambda binds body) = form.Lambda (map bare_bind binds) no_raw
bare (form.As point of) = form.As no_raw no_raw
bare other = other

-- ---- its parts, in the order of the text

abbrev pub optional : Option Raw → List Raw
optional None = []
optional (Some raw) = raw ∷ []

abbrev pub face_parts : List RawFace → List Raw
face_parts [] = []
face_parts (face ∷ faces) = face.tope ∷ face.term ∷ face_parts faces

abbrev pub bind_parts : List Bind → List Raw
bind_parts [] = []
bind_parts (bind ∷ binds) = optional bind.of ++ optional bind.tope ++ bind_parts binds

abbrev pub parts_of : Form → List Raw
parts_of (form.ReflAt point of) = point ∷ optional of
parts_of (form.IdJ parts) = parts
parts_of (form.RecOr faces) = face_parts faces
parts_of (form.Pair left right) = left ∷ right ∷ []
parts_of (form.App head args) = head ∷ args
parts_of (form.First arg) = arg ∷ []
parts_of (form.Second arg) = arg ∷ []
parts_of (form.Product left right) = left ∷ right ∷ []
parts_of (form.SamePoint left right) = left ∷ right ∷ []
parts_of (form.AtMost left right) = left ∷ right ∷ []
parts_of (form.Equal left right) = left ∷ right ∷ []
parts_of (form.EqualAt of left right) = left ∷ of ∷ right ∷ []
parts_of (form.And left right) = left ∷ right ∷ []
parts_of (form.Or left right) = left ∷ right ∷ []
parts_of (form.Restrict body faces) = body ∷ face_parts faces
parts_of (form.Arrow bind body) = bind_parts (bind ∷ []) ++ body ∷ []
parts_of (form.Sigma bind body) = bind_parts (bind ∷ []) ++ body ∷ []
parts_of (form.Lambda binds body) = bind_parts binds ++ body ∷ []
parts_of (form.As point of) = point ∷ of ∷ []
parts_of other = []

-- the forms that a command names, in the order of the text
abbrev pub forms_named : Command → List Raw
forms_named (command.Def first count name uses binds of body) = bind_parts binds ++ of ∷ body ∷ []
forms_named (command.Post first count name uses binds of) = bind_parts binds ++ of ∷ []
forms_named (command.Check first count term of) = term ∷ of ∷ []
forms_named (command.Compute first count term) = term ∷ []
forms_named (command.Assume first count names of) = of ∷ []
forms_named _ = []

-- its patterns
abbrev pub patterns_of : Form → List Pat
patterns_of (form.Arrow bind body) = bind.pat ∷ []
patterns_of (form.Sigma bind body) = bind.pat ∷ []
patterns_of (form.Lambda binds body) = map (λ bind. bind.pat) binds
patterns_of other = []

-- ---- trees

pub data PatternTree : Type 0 where
  NameOf : (name : List ℕ) → PatternTree
  NoName : PatternTree
  PairOf : (left right : PatternTree) → PatternTree

-- the pattern of this number stands for the tree
abbrev pub IsPattern : List Shape → ℕ → PatternTree → Type 0
IsPattern shapes number (NameOf name) = slice_get shapes number ≡ Some (shape.Named name)
IsPattern shapes number NoName = slice_get shapes number ≡ Some shape.Blank
IsPattern shapes number (PairOf left right) =
    (l : Pat) × (r : Pat) × (slice_get shapes number ≡ Some (shape.Pair l r))
    × IsPattern shapes l.shape left × IsPattern shapes r.shape right

abbrev pub ArePatterns : List Shape → List Pat → List PatternTree → Type 0
ArePatterns shapes [] [] = Unit {0}
ArePatterns shapes (pat ∷ pats) (tree ∷ trees) =
    IsPattern shapes pat.shape tree × ArePatterns shapes pats trees
ArePatterns shapes pats trees = ⊥

-- A form without its parts, with the trees of its patterns and of its parts.
mutual
  pub data Tree : Type 0 where
    At : (head : Form) (patterns : List PatternTree) (parts : Trees) → Tree

  pub data Trees : Type 0 where
    Nil : Trees
    And : (first : Tree) (rest : Trees) → Trees

-- The form of this number stands for the tree, and forms for trees.
abbrev mutual
  pub IsTree : List Shape → List Form → ℕ → Tree → Type 0
  IsTree shapes forms number (At head patterns parts) =
      (written : Form) × (slice_get forms number ≡ Some written) × (bare written ≡ head)
      × ArePatterns shapes (patterns_of written) patterns
      × AreTrees shapes forms (parts_of written) parts

  pub AreTrees : List Shape → List Form → List Raw → Trees → Type 0
  AreTrees shapes forms [] Nil = Unit {0}
  AreTrees shapes forms (raw ∷ raws) (And tree trees) =
      IsTree shapes forms raw.form tree × AreTrees shapes forms raws trees
  AreTrees shapes forms raws trees = ⊥

-- ---- texts

-- the form that was read stands for the tree
abbrev pub Makes : Builder → Tree → Type 0
Makes b tree = IsTree b.shapes b.forms (top_operand b).raw.form tree

-- The tokens of the text are a term of the grammar, and the term is this tree.
pub record IsTerm (text : List ℕ) (tree : Tree) : Type 0 where
  pub tokens : List Token
  pub lexed : Lexed text tokens
  pub steps : List Step
  pub gives : Gives rule.Term (kinds_of tokens) steps
  pub is : Makes (built text tokens 0 steps nothing_read) tree

-- Some text is read as the form, but for its places and numbers.
pub record IsReadable (shapes : List Shape) (forms : List Form) (raw : Raw) : Type 0 where
  pub text : List ℕ
  pub tree : Tree
  pub reads : IsTerm text tree
  pub is : IsTree shapes forms raw.form tree

-- The text is read as the form, but for its places and numbers.
abbrev pub ReadsBack : List Shape → List Form → Raw → List ℕ → Type 0
ReadsBack shapes forms raw text =
    (tree : Tree) → IsTree shapes forms raw.form tree → IsTerm text tree

-- some text is read as each of the forms
abbrev pub AreReadable : List Shape → List Form → List Raw → Type 0
AreReadable shapes forms [] = Unit {0}
AreReadable shapes forms (raw ∷ raws) =
    IsReadable shapes forms raw × AreReadable shapes forms raws

-- Some text is read as each form that a command of the list names.
abbrev pub NameReadable : List Shape → List Form → List Command → Type 0
NameReadable shapes forms commands =
    (number : ℕ) (one : Command) → slice_get commands number ≡ Some one
    → AreReadable shapes forms (forms_named one)
