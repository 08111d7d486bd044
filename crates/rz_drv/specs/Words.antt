-- What the words of a line spell.
use Rattle.std.specs.Prelude.{◌≡◌, ◌≢◌, ℕ, ◌<◌, ◌^◌, if◌then◌else◌, Bool, true, false, List, [], ◌∷◌, ◌++◌, map}
use Rattle.std.specs.Borrow.{Bor}
use Rattle.std.specs.Fmt.{decimal}
use Rattle.std.specs.List.{concat}
use Rattle.rz_rules.specs.declared.kinds.Kind.{Kind}
use Rattle.rz_rules.specs.declared.judgments.JudgmentKind.{JudgmentKind}
use Rattle.rz_rules.specs.declared.judgments.Line.{Line}
use Rattle.rz_rules.specs.declared.rows.Row.{Row}
use Rattle.rz_rules.specs.declared.nodes.Node.{Node}
use Rattle.rz_rules.specs.Name.{IsName}
use Rattle.rz_rules.specs.Form.{form, is_named, is_numbered, word_of_kind}
use Rattle.rz_rules.specs.Table.{word_of_row}
use Rattle.rz_rules.specs.Judgment.{ids_of, kind_of, word_of_judgment_kind}
use Rattle.rz_rules.specs.File.{Item, numbers_of, words_of}
use Rattle.rz_drv.specs.declared.items.Item.{Item as ReadItem}
use Rattle.rz_drv.specs.declared.nodes.NodeParts.{NodeParts}
use Rattle.rz_drv.specs.declared.steps.StepParts.{StepParts}
use Rattle.rz_drv.specs.Items.{AreSmall, IsItem, IsLine, IsNode, item_of}

abbrev pub words_in : List (Bor (List ℕ)) → List (List ℕ)
words_in words = map (λ word. word.now) words

-- words, each behind a space
abbrev pub spaced : List (List ℕ) → List ℕ
spaced words = concat (map (λ word. 32 ∷ word) words)

-- these are the item's words
pub record HasWords (words : List (List ℕ)) (item : ReadItem) : Type 0 where
  pub is : IsItem (item_of item)
  pub spelled : words_of (item_of item) ≡ words

-- no item has these words
abbrev pub NoneHas : List (List ℕ) → Type 0
NoneHas words = (item : Item) → IsItem item → words_of item ≢ words

-- words spell numbers
abbrev pub SpellsNumbers : List (List ℕ) → List ℕ → Type 0
SpellsNumbers words numbers = (map decimal numbers ≡ words) × AreSmall numbers

abbrev pub NoNumbersSpell : List (List ℕ) → Type 0
NoNumbersSpell words = (numbers : List ℕ) → AreSmall numbers → map decimal numbers ≢ words

-- a node's own number, where it has one
abbrev pub own_number : Bool → ℕ → List ℕ
own_number numbered number = if numbered then number ∷ [] else []

-- the words of a node's own number
abbrev pub number_words : Node → List (List ℕ)
number_words node = map decimal (own_number (is_numbered (form node.kind).role) node.number)

-- a node's name, where it has one
abbrev pub own_name : Kind → List ℕ → List (List ℕ)
own_name kind name = if is_named (form kind).role then name ∷ [] else []

-- ---- nodes

-- the words of a node behind the first
abbrev pub node_words : Kind → List ℕ → List ℕ → List (List ℕ)
node_words kind name numbers = word_of_kind kind ∷ own_name kind name ++ map decimal numbers

-- words spell the parts of a node
pub record SpellsNode (words : List (List ℕ)) (parts : NodeParts) : Type 0 where
  pub spelled : node_words parts.kind parts.name parts.numbers.items ≡ words
  pub unnamed : is_named (form parts.kind).role ≡ false → parts.name ≡ []
  pub small : AreSmall parts.numbers.items

abbrev pub NoNodeSpells : List (List ℕ) → Type 0
NoNodeSpells words =
    (kind : Kind) (name numbers : List ℕ) → (is_named (form kind).role ≡ true → IsName name) → AreSmall numbers
    → node_words kind name numbers ≢ words

-- the node with these parts
pub record IsNodeOf (parts : NodeParts) (node : Node) : Type 0 where
  pub kind_is : node.kind ≡ parts.kind
  pub name_is : node.name ≡ parts.name
  pub numbers_are : numbers_of node ≡ parts.numbers.items
  pub is : IsNode node

-- ---- steps

-- the words of a step behind the first
abbrev pub step_words : Row → ℕ → JudgmentKind → List ℕ → List (List ℕ)
step_words row number kind numbers =
    word_of_row row ∷ decimal number ∷ word_of_judgment_kind kind ∷ map decimal numbers

-- words spell the parts of a step
pub record SpellsStep (words : List (List ℕ)) (parts : StepParts) : Type 0 where
  pub spelled : step_words parts.row parts.number parts.kind parts.numbers.items ≡ words
  pub number : parts.number < 2 ^ 64
  pub small : AreSmall parts.numbers.items

abbrev pub NoStepSpells : List (List ℕ) → Type 0
NoStepSpells words =
    (row : Row) (number : ℕ) (kind : JudgmentKind) (numbers : List ℕ) → number < 2 ^ 64 → AreSmall numbers
    → step_words row number kind numbers ≢ words

-- the step with these parts
pub record IsLineOf (parts : StepParts) (line : Line) : Type 0 where
  pub row_is : line.row ≡ parts.row
  pub number_is : line.number ≡ parts.number
  pub kind_is : kind_of line.says ≡ parts.kind
  pub numbers_are : ids_of line.says ++ line.from ≡ parts.numbers.items
  pub is : IsLine line
