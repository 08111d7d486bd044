-- What stands for the letters of a row: ids of nodes, one for each letter of its text, in the order of the letters' numbers.
use Rattle.std.specs.Prelude.{◌≡◌, ℕ, ◌<◌, ◌==◌, if◌then◌else◌, IsTrue, List, [], ◌∷◌, length, map, Option, Some, None}
use Rattle.std.specs.List.{range_with_len}
use Rattle.rz_rules.specs.declared.kinds.Sort.{Sort}
use Rattle.rz_rules.specs.declared.nodes.Node.{Node}
use Rattle.rz_rules.specs.declared.rows.Row.{Row}
use Rattle.rz_rules.specs.declared.symbols.Symbol.{Symbol}
use Rattle.rz_rules.specs.declared.symbols.Symbol.TheVariants as symbol
use Rattle.rz_rules.specs.declared.symbols.TheConstants.{LETTERS}
use Rattle.rz_rules.specs.Tree.{sort_of, tree_of}
use Rattle.rz_rules.specs.Row.{Assignment}
use Rattle.rz_rules.specs.Table.{rule_of}
use Rattle.rz_rule_text.specs.Letters.{assignment_of, has_name}
use Rattle.rz_rule_text.specs.Spelling.{IsNamed}

-- the sort of the letter with a number, where a text has it
abbrev pub sort_of_letter : List Symbol → ℕ → Option Sort
sort_of_letter [] number = None
sort_of_letter (symbol.Letter letter ∷ text) number = if letter.number == number then Some letter.sort else sort_of_letter text number
sort_of_letter (symbol ∷ text) number = sort_of_letter text number

-- the letters of a text by their numbers
abbrev pub slots : List Symbol → List (Option Sort)
slots text = map (sort_of_letter text) (range_with_len 0 LETTERS)

-- ids in the places of the letters that a text has
abbrev pub placed : List (Option Sort) → List ℕ → List (Option ℕ)
placed [] ids = []
placed (None ∷ slots) ids = None ∷ placed slots ids
placed (Some sort ∷ slots) [] = None ∷ placed slots []
placed (Some sort ∷ slots) (id ∷ ids) = Some id ∷ placed slots ids

-- each of these letters has its id, that of a tree of its sort
abbrev pub Fill : List Node → List (Option Sort) → List ℕ → Type 0
Fill nodes [] [] = Unit {0}
Fill nodes (None ∷ slots) ids = Fill nodes slots ids
Fill nodes (Some sort ∷ slots) (id ∷ ids) = (id < length nodes) × (sort_of (tree_of nodes id) ≡ sort) × Fill nodes slots ids
Fill nodes slots ids = ⊥

-- ids stand for the letters of a row, and a node has the name that it speaks of
pub record StandFor (nodes : List Node) (row : Row) (letters : List ℕ) (name : Option ℕ) : Type 0 where
  pub fill : Fill nodes (slots (rule_of row).text) letters
  pub named : IsTrue (has_name (rule_of row).text) → IsNamed nodes name

-- the trees in the place of a row's letters
abbrev pub letters_at : List Node → Row → List ℕ → Option ℕ → Assignment
letters_at nodes row letters name = assignment_of nodes (placed (slots (rule_of row).text) letters) name
