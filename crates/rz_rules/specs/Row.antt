-- What the text of a row means.
use Rattle.std.specs.Prelude.{◌≡◌, ℕ, List, [], ◌∷◌, length, take, drop, All}
use Rattle.rz_rules.specs.declared.symbols.Letter.{Letter}
use Rattle.rz_rules.specs.declared.symbols.Label.{Label}
use Rattle.rz_rules.specs.declared.symbols.Label.TheVariants.{Plain, Index, RowName}
use Rattle.rz_rules.specs.declared.symbols.Symbol.{Symbol}
use Rattle.rz_rules.specs.declared.symbols.Symbol.TheVariants as symbol
use Rattle.rz_rules.specs.Form.{form}
use Rattle.rz_rules.specs.Tree.{Tree, At, IsTree, trees_of, tree_at}
use Rattle.rz_rules.specs.Substitution.{none, shift, put}
use Rattle.rz_rules.specs.Judgment.{Statement, judgment_form}

-- the trees in the place of the letters, by their numbers, and the name that the row speaks of
pub record Assignment : Type 0 where
  pub letters : ℕ → Tree
  pub name : List ℕ

-- what a piece of a text spells: trees that no judgment in front has taken yet, the first on top, and its judgments
pub record Spelling : Type 0 where
  pub trees : List Tree
  pub statements : List Statement

abbrev pub number_of : Label → ℕ
number_of Plain = 0
number_of (Index k) = k
number_of RowName = 0

abbrev pub name_of : Label → List ℕ → List ℕ
name_of Plain name = []
name_of (Index k) name = []
name_of RowName name = name

-- A symbol in front of what is spelled behind it takes its trees from the top. In each text of the table there are as
-- many as it takes; in another, a missing operand of a substitution, of a shift or of a judgment is `nil`.
abbrev pub with_symbol : Symbol → Assignment → Spelling → Spelling
with_symbol (symbol.Letter letter) assignment behind =
    record behind { trees = assignment.letters letter.number ∷ behind.trees }
with_symbol (symbol.Node kind label) assignment behind =
    let kids = length (form kind).kids in
    let tree = At kind (number_of label) (name_of label assignment.name) (trees_of (take kids behind.trees)) in
    record behind { trees = tree ∷ drop kids behind.trees }
with_symbol (symbol.Put space) assignment behind =
    record behind { trees = put space none (tree_at behind.trees 1) (tree_at behind.trees 0) ∷ drop 2 behind.trees }
with_symbol (symbol.Shift space from) assignment behind =
    record behind { trees = shift space from 1 (tree_at behind.trees 0) ∷ drop 1 behind.trees }
with_symbol (symbol.Says kind) assignment behind =
    let parts = length (judgment_form kind).parts in
    let says : Statement = record { kind = kind; context = tree_at behind.trees 0; parts = take parts (drop 1 behind.trees) } in
    record { trees = drop parts (drop 1 behind.trees); statements = says ∷ behind.statements }

-- what a text spells, from its end on
abbrev pub spelled : List Symbol → Assignment → Spelling
spelled [] assignment = record { trees = []; statements = [] }
spelled (symbol ∷ text) assignment = with_symbol symbol assignment (spelled text assignment)

-- the letters of a text, at each of their places
abbrev pub letters_in : List Symbol → List Letter
letters_in [] = []
letters_in (symbol.Letter letter ∷ text) = letter ∷ letters_in text
letters_in (symbol ∷ text) = letters_in text

-- a letter stands for a tree of its sort
abbrev pub HasLetter : Assignment → Letter → Type 0
HasLetter assignment letter = IsTree letter.sort (assignment.letters letter.number)

-- with these trees in the place of its letters a text spells these judgments
pub record IsInstance (text : List Symbol) (assignment : Assignment) (statements : List Statement) : Type 0 where
  pub letters : All (HasLetter assignment) (letters_in text)
  pub spells : (spelled text assignment).statements ≡ statements
