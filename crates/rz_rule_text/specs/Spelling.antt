-- What a walk from the end of a text keeps.
use Rattle.std.specs.Prelude.{◌≡◌, ℕ, ◌<◌, ◌≤◌, ◌^◌, Bool, false, IsTrue, MatchBool, List, [], ◌∷◌, ◌++◌, length, take, map, Option, Some, None, All}
use Rattle.rz_rules.specs.declared.nodes.Node.{Node}
use Rattle.rz_rules.specs.declared.judgments.Judgment.{Judgment}
use Rattle.rz_rules.specs.declared.kinds.Kind.{Kind}
use Rattle.rz_rules.specs.declared.symbols.Label.{Label}
use Rattle.rz_rules.specs.declared.symbols.Symbol.{Symbol}
use Rattle.rz_rules.specs.declared.symbols.Symbol.TheVariants as symbol
use Rattle.rz_rules.specs.declared.symbols.TheConstants.{LETTERS}
use Rattle.rz_rules.specs.Form.{form, kid_sorts}
use Rattle.rz_rules.specs.Tree.{Tree, At, sort_of, tree_of, trees_in, trees_of}
use Rattle.rz_rules.specs.Substitution.{IndicesBelow}
use Rattle.rz_rules.specs.Judgment.{IsStatement, ids_of, kind_of, sorts_of, statement}
use Rattle.rz_rules.specs.declared.judgments.JudgmentKind.{JudgmentKind}
use Rattle.rz_rules.specs.Row.{Assignment, letters_in, name_of, number_of, spelled}
use Rattle.rz_rules.specs.Text.{Mark, label_fits, marks_of}
use Rattle.rz_rule_text.specs.declared.text.Stack.{Stack}
use Rattle.rz_rule_text.specs.Letters.{HasName, IsFound, has_name, is_row_name, letter_at, name_in, tree_for}

-- the name is that of a node
pub record IsNamed (nodes : List Node) (name : Option ℕ) : Type 0 where
  pub id : ℕ
  pub there : name ≡ Some id
  pub has : HasName nodes id

-- an id stands for a tree of the marked sort; where there is none an index of the tree reaches 2^32, and the tree is by a
-- substitution or a shift
abbrev pub StandsAt : List Node → Option ℕ → Tree → Mark → Type 0
StandsAt nodes (Some id) tree mark = (id < length nodes) × (tree_of nodes id ≡ tree) × (sort_of tree ≡ mark.sort)
StandsAt nodes None tree mark = (mark.plain ≡ false) × (IndicesBelow (2 ^ 32) tree → ⊥)

-- the ids stand for the trees of a stack, one by one
abbrev pub Stands : List Node → List (Option ℕ) → List Tree → List Mark → Type 0
Stands nodes [] [] [] = Unit {0}
Stands nodes (id ∷ ids) (tree ∷ trees) (mark ∷ marks) = StandsAt nodes id tree mark × Stands nodes ids trees marks
Stands nodes ids trees marks = ⊥

-- a judgment names nodes that are there
abbrev pub IsLive : List Node → Judgment → Type 0
IsLive nodes says = All (λ id. id < length nodes) (ids_of says)

-- and these nodes are of the sorts of its kind
pub record IsJudgmentOver (nodes : List Node) (says : Judgment) : Type 0 where
  pub live : IsLive nodes says
  pub sorts : map sort_of (map (tree_of nodes) (ids_of says)) ≡ sorts_of (kind_of says)

-- the letters and the name that a text needs are there
pub record AreLetters (nodes : List Node) (text : List Symbol) (letters : List (Option ℕ)) (name : Option ℕ) : Type 0 where
  pub count : length letters ≡ LETTERS
  pub found : All (IsFound nodes letters) (letters_in text)
  pub named : IsTrue (has_name text) → IsNamed nodes name

-- the stack has what the text spells with these letters
pub record HasSpelled (nodes : List Node) (text : List Symbol) (assignment : Assignment) (stack : Stack) : Type 0 where
  pub marks : List Mark
  pub marked : marks_of text ≡ Some marks
  pub trees : Stands nodes stack.trees.items (spelled text assignment).trees marks
  pub statements : (spelled text assignment).statements ≡ map (statement (trees_in nodes)) stack.said.items
  pub over : All (IsJudgmentOver nodes) stack.said.items

-- an index of the judgments that the text spells reaches 2^32
abbrev pub IsTooHigh : List Symbol → Assignment → Type 0
IsTooHigh text assignment = All IsStatement (spelled text assignment).statements → ⊥

-- what a symbol takes of the letters is what they stand for
abbrev pub Fits : List Node → Symbol → Assignment → List (Option ℕ) → Option ℕ → Type 0
Fits nodes (symbol.Letter letter) assignment letters name =
    IsFound nodes letters letter × (tree_for nodes (letter_at letters letter.number) ≡ assignment.letters letter.number) × (letter.number < length letters)
Fits nodes (symbol.Node kind label) assignment letters name =
    IsTrue (is_row_name label) → IsNamed nodes name × (name_in (tree_for nodes name) ≡ assignment.name)
Fits nodes symbol assignment letters name = Unit {0}

-- a symbol may be put in front of a text that the stack has
pub record CanPut (nodes : List Node) (symbol : Symbol) (behind : List Symbol) (assignment : Assignment) (stack : Stack) (letters : List (Option ℕ)) (name : Option ℕ) : Type 0 where
  pub has : HasSpelled nodes behind assignment stack
  pub marks : List Mark
  pub marked : marks_of (symbol ∷ behind) ≡ Some marks
  pub fits : Fits nodes symbol assignment letters name

-- what is answered of a symbol in front of a text: the stack has both, or a judgment is too high
abbrev pub Answers : List Node → List Symbol → Assignment → Stack → Bool → Type 0
Answers nodes text assignment stack put = MatchBool put (HasSpelled nodes text assignment stack) (IsTooHigh text assignment)

-- the kids that are on top, as many as a kind has
pub record CanMake (nodes : List Node) (ids : List (Option ℕ)) (kind : Kind) (label : Label) (name : Option ℕ) : Type 0 where
  pub enough : length (form kind).kids ≤ length ids
  pub kids : (kids : List ℕ) → take (length (form kind).kids) ids ≡ map (λ kid. Some kid) kids
      → All (λ id. id < length nodes) kids × (map sort_of (map (tree_of nodes) kids) ≡ kid_sorts kind)
  pub label_is : IsTrue (label_fits (form kind).role label)
  pub named : IsTrue (is_row_name label) → IsNamed nodes name

-- the node is made of the kids on top, or one of these is none
pub record IsMadeOf (old new : List Node) (ids : List (Option ℕ)) (kind : Kind) (label : Label) (name : List ℕ) (id : ℕ) : Type 0 where
  pub kids : List ℕ
  pub on_top : take (length (form kind).kids) ids ≡ map (λ kid. Some kid) kids
  pub live : id < length new
  pub tree : tree_of new id ≡ At kind (number_of label) (name_of label name) (trees_of (map (tree_of old) kids))

-- the top of a stack, where it has an id
abbrev pub first_of : List (Option ℕ) → Option ℕ
first_of [] = None
first_of (id ∷ ids) = id

-- one id more
pub record Keeps (old : List ℕ) (tree : Option ℕ) (new : List ℕ) : Type 0 where
  pub id : ℕ
  pub is : tree ≡ Some id
  pub kept : new ≡ old ++ id ∷ []

-- the judgment of a kind with the context and the parts on top is said in front of the others
pub record SaysOnTop (kind : JudgmentKind) (old new : Stack) : Type 0 where
  pub says : Judgment
  pub kind_is : kind_of says ≡ kind
  pub on_top : take (length (sorts_of kind)) old.trees.items ≡ map (λ id. Some id) (ids_of says)
  pub said : new.said.items ≡ says ∷ old.said.items
