-- The letters of a row's text, read off judgments over nodes.
use Rattle.std.specs.Prelude.{◌≡◌, ℕ, ◌<◌, ◌&&◌, ◌||◌, ◌⊎◌, nat_lt, Bool, true, false, IsTrue, MatchBool, if◌then◌else◌, List, [], ◌∷◌, ◌++◌, length, drop, map, replicate, Option, Some, None, IsSome, IfSome, is_some, All, Contains}
use Rattle.std.specs.List.{list_all, list_any}
use Rattle.rz_rules.specs.declared.kinds.Kind.{Kind}
use Rattle.rz_rules.specs.declared.nodes.Node.{Node}
use Rattle.rz_rules.specs.declared.judgments.Judgment.{Judgment}
use Rattle.rz_rules.specs.declared.symbols.Letter.{Letter}
use Rattle.rz_rules.specs.declared.symbols.Label.{Label}
use Rattle.rz_rules.specs.declared.symbols.Symbol.{Symbol}
use Rattle.rz_rules.specs.declared.symbols.Symbol.TheVariants as symbol
use Rattle.rz_rules.specs.declared.symbols.TheConstants.{LETTERS}
use Rattle.rz_rule_text.specs.declared.letters.Walk.{Walk}
use Rattle.rz_rule_text.specs.Letters.{HasName, IsFound, has_name, is_row_name, letter_at, name_in}
use Rattle.rz_rules.specs.Form.{form}
use Rattle.rz_rules.specs.Tree.{Tree, At, tree_at, tree_of, trees_in}
use Rattle.rz_rules.specs.Judgment.{ids_of, judgment_form, statement}
use Rattle.rz_rules.specs.Text.{label_fits, same_letter}
use Rattle.rz_rules.specs.Row.{Assignment, HasLetter, IsInstance, letters_in, name_of, number_of, spelled}

abbrev pub number_in : Tree → ℕ
number_in (At kind number name kids) = number

abbrev pub kind_in : Tree → Kind
kind_in (At kind number name kids) = kind

-- a tree's node has the number and the name that a label says
abbrev pub HasLabel : Tree → Label → Assignment → Type 0
HasLabel tree label assignment = (number_in tree ≡ number_of label) × (name_in tree ≡ name_of label assignment.name)

-- the letters and the row's name stand for what was found: trees by their ids, and the name in a node
pub record StandsFor (nodes : List Node) (letters : List (Option ℕ)) (name : Option ℕ) (assignment : Assignment) : Type 0 where
  pub trees : (k id : ℕ) → letter_at letters k ≡ Some id → assignment.letters k ≡ tree_of nodes id
  pub named : (id : ℕ) → name ≡ Some id → assignment.name ≡ name_in (tree_of nodes id)

-- the next of the trees that are expected, where it is known
abbrev pub first_expected : List (Option ℕ) → Option ℕ
first_expected [] = None
first_expected (tree ∷ others) = tree

-- the trees that are expected, where they are known, are those on a stack
abbrev pub Agrees : List Node → List (Option ℕ) → List Tree → Type 0
Agrees nodes [] trees = Unit {0}
Agrees nodes (None ∷ expected) trees = Agrees nodes expected (drop 1 trees)
Agrees nodes (Some id ∷ expected) trees = (tree_at trees 0 ≡ tree_of nodes id) × Agrees nodes expected (drop 1 trees)

-- the text spells what a walk expects and then its other judgments, with what it found
pub record Remains (nodes : List Node) (text : List Symbol) (assignment : Assignment) (walk : Walk) : Type 0 where
  pub letters : All (HasLetter assignment) (letters_in text)
  pub trees : Agrees nodes walk.expected.items (spelled text assignment).trees
  pub statements : (spelled text assignment).statements ≡ map (statement (trees_in nodes)) walk.rest.now
  pub found : StandsFor nodes walk.finding.letters.items walk.finding.name assignment

-- an id, where there is one, is there
abbrev pub IsLive : List Node → Option ℕ → Type 0
IsLive nodes place = IfSome place (λ id. id < length nodes)

-- what was found is there
pub record IsFinding (nodes : List Node) (letters : List (Option ℕ)) (name : Option ℕ) : Type 0 where
  pub count : length letters ≡ LETTERS
  pub live : All (IsLive nodes) letters
  pub named : IfSome name (HasName nodes)

-- what is answered of a name: it is the row's from here on, or the row has another
abbrev pub AnswersName : List Node → List ℕ → List (Option ℕ) → Option ℕ → Option ℕ → Bool → Type 0
AnswersName nodes name letters old new passed = MatchBool passed
    ((assignment : Assignment) → name ≡ assignment.name → StandsFor nodes letters old assignment → StandsFor nodes letters new assignment)
    ((assignment : Assignment) → name ≡ assignment.name → StandsFor nodes letters old assignment → ⊥)

-- what is answered of a label: the row's name is noted, or no name makes it the label of the tree
abbrev pub AnswersLabel : List Node → Tree → Label → List (Option ℕ) → Option ℕ → Option ℕ → Bool → Type 0
AnswersLabel nodes tree label letters old new passed = MatchBool passed
    ((assignment : Assignment) → HasLabel tree label assignment → StandsFor nodes letters old assignment → StandsFor nodes letters new assignment)
    ((assignment : Assignment) → HasLabel tree label assignment → StandsFor nodes letters old assignment → ⊥)

-- a walk names nodes that are there
pub record IsWalk (nodes : List Node) (walk : Walk) : Type 0 where
  pub expected : All (IsLive nodes) walk.expected.items
  pub rest : All (λ says. All (λ id. id < length nodes) (ids_of says)) walk.rest.now
  pub finding : IsFinding nodes walk.finding.letters.items walk.finding.name

-- whether the first of the trees that are expected is known
abbrev pub is_known : List Bool → Bool
is_known [] = false
is_known (known ∷ others) = known

-- the letters that a walk through the text meets at known trees
abbrev pub letters_met : List Bool → List Symbol → List Letter
letters_met known [] = []
letters_met known (symbol.Letter letter ∷ text) =
    (if is_known known then letter ∷ [] else []) ++ letters_met (drop 1 known) text
letters_met known (symbol.Node kind label ∷ text) =
    letters_met (replicate (length (form kind).kids) (is_known known) ++ drop 1 known) text
letters_met known (symbol.Put space ∷ text) = letters_met (false ∷ false ∷ drop 1 known) text
letters_met known (symbol.Shift space from ∷ text) = letters_met (false ∷ drop 1 known) text
letters_met known (symbol.Says kind ∷ text) =
    letters_met (true ∷ replicate (length (judgment_form kind).parts) true ++ known) text

-- whether a walk through the text meets the row's name at a known tree
abbrev pub meets_name : List Bool → List Symbol → Bool
meets_name known [] = false
meets_name known (symbol.Letter letter ∷ text) = meets_name (drop 1 known) text
meets_name known (symbol.Node kind label ∷ text) =
    (is_known known && is_row_name label) || meets_name (replicate (length (form kind).kids) (is_known known) ++ drop 1 known) text
meets_name known (symbol.Put space ∷ text) = meets_name (false ∷ false ∷ drop 1 known) text
meets_name known (symbol.Shift space from ∷ text) = meets_name (false ∷ drop 1 known) text
meets_name known (symbol.Says kind ∷ text) = meets_name (true ∷ replicate (length (judgment_form kind).parts) true ++ known) text

-- each letter of the text, and the name where there is one, is met outside of substitutions and shifts
abbrev pub is_determined : List Symbol → Bool
is_determined text =
    list_all (λ letter. list_any (same_letter letter) (letters_met [] text)) (letters_in text)
    && (if has_name text then meets_name [] text else true)

-- whether each tree that a walk expects is known
abbrev pub known : Walk → List Bool
known walk = map is_some walk.expected.items

-- a symbol that some text may have
abbrev pub symbol_fits : Symbol → Bool
symbol_fits (symbol.Letter letter) = nat_lt letter.number LETTERS
symbol_fits (symbol.Node kind label) = label_fits (form kind).role label
symbol_fits symbol = true

-- a walk past a symbol keeps what it found, and owes no more letters and names than before
pub record Meets (nodes : List Node) (symbol : Symbol) (old new : Walk) : Type 0 where
  pub kept : (letter : Letter) → IsFound nodes old.finding.letters.items letter → IsFound nodes new.finding.letters.items letter
  pub met : (text : List Symbol) (letter : Letter) → Contains (letters_met (known old) (symbol ∷ text)) letter
      → IsFound nodes new.finding.letters.items letter ⊎ Contains (letters_met (known new) text) letter
  pub kept_name : IsSome old.finding.name → IsSome new.finding.name
  pub met_name : (text : List Symbol) → IsTrue (meets_name (known old) (symbol ∷ text))
      → IsSome new.finding.name ⊎ IsTrue (meets_name (known new) text)

-- each text that is left before the symbol is left behind it
abbrev pub Passes : List Node → Symbol → Walk → Walk → Type 0
Passes nodes symbol old new = (text : List Symbol) (assignment : Assignment) → Remains nodes (symbol ∷ text) assignment old → Remains nodes text assignment new

-- no text with the symbol in front is left
abbrev pub Refuses : List Node → Symbol → Walk → Type 0
Refuses nodes symbol walk = (text : List Symbol) (assignment : Assignment) → Remains nodes (symbol ∷ text) assignment walk → ⊥

-- what a walk answers at a symbol
abbrev pub Answers : List Node → Symbol → Walk → Walk → Bool → Type 0
Answers nodes symbol old new passed = MatchBool passed (Passes nodes symbol old new × Meets nodes symbol old new) (Refuses nodes symbol old)

-- the letters of each instance are those that were found
abbrev pub FindsAll : List Node → List Symbol → List Judgment → List (Option ℕ) → Option ℕ → Type 0
FindsAll nodes text judgments letters name =
    (assignment : Assignment) → IsInstance text assignment (map (statement (trees_in nodes)) judgments) → StandsFor nodes letters name assignment

-- no trees in the place of the letters make the text spell these judgments
abbrev pub HasNoInstance : List Node → List Symbol → List Judgment → Type 0
HasNoInstance nodes text judgments =
    (assignment : Assignment) → IsInstance text assignment (map (statement (trees_in nodes)) judgments) → ⊥

-- a walk past a whole text: what was left before it is over, and what it meets is found
pub record IsPassed (nodes : List Node) (text : List Symbol) (old new : Walk) : Type 0 where
  pub remains : (assignment : Assignment) → Remains nodes text assignment old → Remains nodes [] assignment new
  pub met : (letter : Letter) → Contains (letters_met (known old) text) letter → IsFound nodes new.finding.letters.items letter
  pub met_name : IsTrue (meets_name (known old) text) → IsSome new.finding.name

-- no walk past the text
abbrev pub IsRefused : List Node → List Symbol → Walk → Type 0
IsRefused nodes text walk = (assignment : Assignment) → Remains nodes text assignment walk → ⊥

-- the end of a text, behind its last judgment
abbrev pub last_words : List Symbol → List Symbol → List Symbol
last_words end [] = end
last_words end (symbol.Says kind ∷ text) = last_words text text
last_words end (symbol ∷ text) = last_words end text

-- behind its last judgment the text spells first the context and then the term that the judgment speaks of
pub record SpeaksOf (nodes : List Node) (text : List Symbol) (context term : ℕ) (assignment : Assignment) : Type 0 where
  pub letters : All (HasLetter assignment) (letters_in (last_words text text))
  pub context_is : tree_at (spelled (last_words text text) assignment).trees 0 ≡ tree_of nodes context
  pub term_is : tree_at (spelled (last_words text text) assignment).trees 1 ≡ tree_of nodes term
  pub last : (spelled (last_words text text) assignment).statements ≡ []

-- the letters of each text that speaks of the term are those that were found
abbrev pub FindsSubject : List Node → List Symbol → ℕ → ℕ → List (Option ℕ) → Option ℕ → Type 0
FindsSubject nodes text context term letters name =
    (assignment : Assignment) → SpeaksOf nodes text context term assignment → StandsFor nodes letters name assignment

abbrev pub HasNoSubject : List Node → List Symbol → ℕ → ℕ → Type 0
HasNoSubject nodes text context term = (assignment : Assignment) → SpeaksOf nodes text context term assignment → ⊥

-- each letter of the text, and the name where there is one, is met in the context and the term of its last judgment
abbrev pub subject_determines : List Symbol → Bool
subject_determines text =
    let met = letters_met (true ∷ true ∷ []) (last_words text text) in
    list_all (λ letter. list_any (same_letter letter) met) (letters_in text)
    && (if has_name text then meets_name (true ∷ true ∷ []) (last_words text text) else true)
