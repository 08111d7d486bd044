-- The node table: what each kind of node is made of, and its word in a derivation file.
use Rattle.std.specs.Prelude.{◌≡◌, ℕ, List, Bool, true, false, Some, find, map, refl}
use Rattle.std.specs.Str.{bytes_eq}
use Rattle.rz_rules.specs.declared.kinds.Sort.{Sort}
use Rattle.rz_rules.specs.declared.kinds.Sort.TheVariants.{Point, Term}
use Rattle.rz_rules.specs.declared.kinds.Space.{Space}
use Rattle.rz_rules.specs.declared.kinds.Space.TheVariants.{Points, Terms}
use Rattle.rz_rules.specs.declared.kinds.Role.{Role}
use Rattle.rz_rules.specs.declared.kinds.Role.TheVariants.{Variable, Declared, Former}
use Rattle.rz_rules.specs.declared.kinds.Slot.{Slot}
use Rattle.rz_rules.specs.declared.kinds.Kind.{Kind}
use Rattle.rz_rules.specs.declared.kinds.Kind.TheVariants as kind
use Rattle.rz_rules.specs.declared.kinds.Form.{Form}
use Rattle.rz_rules.specs.declared.kinds.TheConstants as table
use Rattle.std.specs.Borrow.{Bor}

-- the word of a node, its sort, the places of its kids, and what its number and its name are
pub record KindForm : Type 0 where
  pub word : List ℕ
  pub sort : Sort
  pub kids : List Slot
  pub role : Role

-- places in which the node binds nothing, one cube variable, or one term variable
abbrev pub plain : Sort → Slot
plain sort = record { sort = sort; points = 0; terms = 0 }

abbrev pub under_point : Sort → Slot
under_point sort = record { sort = sort; points = 1; terms = 0 }

abbrev pub under_term : Sort → Slot
under_term sort = record { sort = sort; points = 0; terms = 1 }

-- a row of the code's table
abbrev pub node : record { now : List ℕ } × Sort × record { now : List Slot } × Role → KindForm
node entry = record { word = entry.0.now; sort = entry.1; kids = entry.2.now; role = entry.3 }

-- the node table
abbrev pub form : Kind → KindForm
form kind.CubeOne = node table.CUBE_ONE
form kind.CubeTwo = node table.CUBE_TWO
form kind.Product = node table.PRODUCT
form kind.PointVariable = node table.POINT_VARIABLE
form kind.OnlyPoint = node table.ONLY_POINT
form kind.Zero = node table.ZERO
form kind.One = node table.ONE
form kind.PointPair = node table.POINT_PAIR
form kind.PointLeft = node table.POINT_LEFT
form kind.PointRight = node table.POINT_RIGHT
form kind.Top = node table.TOP
form kind.Bottom = node table.BOTTOM
form kind.Conjunction = node table.CONJUNCTION
form kind.Disjunction = node table.DISJUNCTION
form kind.EqualPoints = node table.EQUAL_POINTS
form kind.AtMost = node table.AT_MOST
form kind.Universe = node table.UNIVERSE
form kind.TermVariable = node table.TERM_VARIABLE
form kind.Constant = node table.CONSTANT
form kind.Postulate = node table.POSTULATE
form kind.Pi = node table.PI
form kind.Lambda = node table.LAMBDA
form kind.Application = node table.APPLICATION
form kind.Sigma = node table.SIGMA
form kind.Pair = node table.PAIR
form kind.First = node table.FIRST
form kind.Second = node table.SECOND
form kind.Identity = node table.IDENTITY
form kind.Reflexivity = node table.REFLEXIVITY
form kind.IdentityInduction = node table.IDENTITY_INDUCTION
form kind.UnitType = node table.UNIT_TYPE
form kind.Star = node table.STAR
form kind.Extension = node table.EXTENSION
form kind.ExtensionLambda = node table.EXTENSION_LAMBDA
form kind.ExtensionApplication = node table.EXTENSION_APPLICATION
form kind.RecOr = node table.REC_OR
form kind.RecBottom = node table.REC_BOTTOM
form kind.EmptyContext = node table.EMPTY_CONTEXT
form kind.CubeEntry = node table.CUBE_ENTRY
form kind.TopeEntry = node table.TOPE_ENTRY
form kind.TermEntry = node table.TERM_ENTRY

-- the sorts of a node's kids
abbrev pub kid_sorts : Kind → List Sort
kid_sorts kind = map (λ slot. slot.sort) (form kind).kids

-- how many variables of a space the node binds at a place
abbrev pub bound : Slot → Space → ℕ
bound slot Points = slot.points
bound slot Terms = slot.terms

-- the sort of the variables of a space
abbrev pub sort_in : Space → Sort
sort_in Points = Point
sort_in Terms = Term

-- variables have numbers, constants and postulates have names
abbrev pub is_numbered : Role → Bool
is_numbered (Variable space) = true
is_numbered Declared = false
is_numbered Former = false

abbrev pub is_named : Role → Bool
is_named (Variable space) = false
is_named Declared = true
is_named Former = false

-- the code answers this row of the table
pub record IsKindRow (form : KindForm) (row : Bor (List ℕ) × Sort × Bor (List Slot) × Role) : Type 0 where
  pub word : row.0.now ≡ form.word
  pub sort : row.1 ≡ form.sort
  pub kids : row.2.now ≡ form.kids
  pub role : row.3 ≡ form.role

pub record IsForm (form : KindForm) (given : Form) : Type 0 where
  pub word : given.word.now ≡ form.word
  pub sort : given.sort ≡ form.sort
  pub kids : given.kids.now ≡ form.kids
  pub role : given.role ≡ form.role

abbrev pub word_of_kind : Kind → List ℕ
word_of_kind kind = (form kind).word

abbrev pub all_kinds : List Kind
all_kinds = table.KINDS.now

-- no two kinds have one word, and none is left out
pub kind_words_are_distinct : (kind : Kind) → find (λ other. bytes_eq (word_of_kind other) (word_of_kind kind)) all_kinds ≡ Some kind
kind_words_are_distinct kind.CubeOne = refl
kind_words_are_distinct kind = refl
