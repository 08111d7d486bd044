-- The derivation file, byte by byte: a header, then nodes, then steps, then claims, each in a line, and the line `end`.
use Rattle.std.specs.Prelude.{◌≡◌, ℕ, ◌<◌, ◌^◌, ◌==◌, if◌then◌else◌, List, [], ◌∷◌, ◌++◌, length, All, map, codes}
use Rattle.std.specs.List.{join_with_byte, onto_first, concat, slice_index_or}
use Rattle.std.specs.Fmt.{decimal}
use Rattle.rz_rules.specs.declared.nodes.Node.{Node}
use Rattle.rz_rules.specs.declared.judgments.JudgmentKind.TheVariants.{Formed}
use Rattle.rz_rules.specs.declared.judgments.Line.{Line}
use Rattle.rz_rules.specs.Name.{IsName}
use Rattle.rz_rules.specs.Form.{form, is_numbered, is_named, word_of_kind}
use Rattle.rz_rules.specs.Tree.{Tree, HasForm, blank, sort_of, tree_at, tree_over}
use Rattle.rz_rules.specs.Judgment.{Statement, kind_of, ids_of, sorts_of, statement, word_of_judgment_kind}
use Rattle.rz_rules.specs.Derivation.{Step, Follows}
use Rattle.rz_rules.specs.Table.{word_of_row}

-- what stands in a line of its own: a node, a step, or a claim, which names a step
pub data Item : Type 0 where
  NodeItem : (node : Node) → Item
  StepItem : (line : Line) → Item
  ClaimItem : (name : List ℕ) (step : ℕ) → Item

-- the name of a node, where its kind has one
abbrev pub name_words : Node → List (List ℕ)
name_words node = if is_named (form node.kind).role then node.name ∷ [] else []

-- the numbers of a node: its own, where its kind has one, and its kids
abbrev pub numbers_of : Node → List ℕ
numbers_of node = (if is_numbered (form node.kind).role then node.number ∷ [] else []) ++ node.kids

-- the words of an item
abbrev pub words_of : Item → List (List ℕ)
words_of (NodeItem node) = codes "n" ∷ word_of_kind node.kind ∷ name_words node ++ map decimal (numbers_of node)
words_of (StepItem line) =
    codes "s" ∷ word_of_row line.row ∷ decimal line.number ∷ word_of_judgment_kind (kind_of line.says)
    ∷ map decimal (ids_of line.says ++ line.from)
words_of (ClaimItem name step) = codes "c" ∷ name ∷ decimal step ∷ []

-- words as a line: one space between two, and a line feed
abbrev pub line_of : List (List ℕ) → List ℕ
line_of words = join_with_byte 32 words ++ 10 ∷ []

abbrev pub header : List ℕ
header = line_of (codes "rzk-derivation" ∷ codes "1" ∷ [])

abbrev pub end_line : List ℕ
end_line = line_of (codes "end" ∷ [])

-- the lines of the file with these items; the last piece, after the final line feed, is empty
abbrev pub lines_of : List Item → List (List ℕ)
lines_of items = header ∷ map (λ item. line_of (words_of item)) items ++ end_line ∷ [] ∷ []

-- a claim: a name for what a step says
pub record Claim : Type 0 where
  pub name : List ℕ
  pub says : Statement

-- what the items so far give: the trees of the nodes, what the steps say, and the claims
pub record FileState : Type 0 where
  pub trees : List Tree
  pub statements : List Statement
  pub claims : List Claim

abbrev pub empty_state : FileState
empty_state = record { trees = []; statements = []; claims = [] }

-- what a step says
abbrev pub statement_at : List Statement → ℕ → Statement
statement_at statements step = slice_index_or statements step (record { kind = Formed; context = blank; parts = [] })

-- the state after one item more
abbrev pub extended : FileState → Item → FileState
extended state (NodeItem node) = record state { trees = state.trees ++ tree_over state.trees node ∷ [] }
extended state (StepItem line) = record state { statements = state.statements ++ statement state.trees line.says ∷ [] }
extended state (ClaimItem name step) =
    record state { claims = state.claims ++ record { name = name; says = statement_at state.statements step } ∷ [] }

-- nodes stand before steps and claims, and a node's kids before it
pub record NodeFits (state : FileState) (node : Node) : Type 0 where
  pub steps : state.statements ≡ []
  pub claims : state.claims ≡ []
  pub form : HasForm state.trees (length state.trees) node

-- steps stand before claims, and a step's premises before it
pub record StepFits (state : FileState) (line : Line) : Type 0 where
  pub claims : state.claims ≡ []
  pub number : line.number < 2 ^ 32
  pub ids : All (λ id. id < length state.trees) (ids_of line.says)
  pub sorts : map sort_of (map (tree_at state.trees) (ids_of line.says)) ≡ sorts_of (kind_of line.says)
  pub from : All (λ step. step < length state.statements) line.from

-- a claim names a step
pub record ClaimFits (state : FileState) (name : List ℕ) (step : ℕ) : Type 0 where
  pub named : IsName name
  pub there : step < length state.statements

abbrev pub Fits : FileState → Item → Type 0
Fits state (NodeItem node) = NodeFits state node
Fits state (StepItem line) = StepFits state line
Fits state (ClaimItem name step) = ClaimFits state name step

-- each item fits after those before it
abbrev pub AllFit : FileState → List Item → Type 0
AllFit state [] = Unit {0}
AllFit state (item ∷ items) = Fits state item × AllFit (extended state item) items

-- a line of the file as a line over trees
abbrev pub step_over : List Tree → Line → Step
step_over trees line = record { row = line.row; number = line.number; says = statement trees line.says; from = line.from }

-- a step follows from those before it
abbrev pub ItemFollows : FileState → Item → Type 0
ItemFollows state (NodeItem node) = Unit {0}
ItemFollows state (StepItem line) = Follows state.statements (step_over state.trees line)
ItemFollows state (ClaimItem name step) = Unit {0}

abbrev pub AllFollow : FileState → List Item → Type 0
AllFollow state [] = Unit {0}
AllFollow state (item ∷ items) = ItemFollows state item × AllFollow (extended state item) items

abbrev pub state_after : FileState → List Item → FileState
state_after state [] = state
state_after state (item ∷ items) = state_after (extended state item) items

-- the bytes are a file of derivations in format 1, with these claims
abbrev pub IsFormatOne : List ℕ → List Claim → Type 0
IsFormatOne bytes claims =
    (items : List Item) × AllFit empty_state items × AllFollow empty_state items
    × (bytes ≡ concat (lines_of items)) × (claims ≡ (state_after empty_state items).claims)

-- the bytes are a file of derivations, with these claims; there is one format
abbrev pub IsFile : List ℕ → List Claim → Type 0
IsFile bytes claims = IsFormatOne bytes claims

-- the lines of any bytes, each with its line feed, and last what has none
abbrev pub lines : List ℕ → List (List ℕ)
lines [] = [] ∷ []
lines (byte ∷ bytes) = if byte == 10 then (byte ∷ []) ∷ lines bytes else onto_first byte (lines bytes)

-- some file of the grammar begins with these lines
abbrev pub BeginsFile : List (List ℕ) → Type 0
BeginsFile front =
    (items : List Item) × AllFit empty_state items × (rest : List (List ℕ)) × (lines_of items ≡ front ++ rest)

-- some file of derivations begins with these lines
abbrev pub BeginsDerivations : List (List ℕ) → Type 0
BeginsDerivations front =
    (items : List Item) × AllFit empty_state items × AllFollow empty_state items
    × (rest : List (List ℕ)) × (lines_of items ≡ front ++ rest)
