-- Letters that stand for nodes of a pool.
use Rattle.std.specs.Prelude.{◌≡◌, ℕ, ◌<◌, ◌||◌, Bool, true, false, List, [], ◌∷◌, length, Option, Some, None}
use Rattle.std.specs.List.{slice_index_or}
use Rattle.rz_rules.specs.declared.nodes.Node.{Node}
use Rattle.rz_rules.specs.declared.symbols.Letter.{Letter}
use Rattle.rz_rules.specs.declared.symbols.Label.{Label}
use Rattle.rz_rules.specs.declared.symbols.Label.TheVariants.{Plain, Index, RowName}
use Rattle.rz_rules.specs.declared.symbols.Symbol.{Symbol}
use Rattle.rz_rules.specs.declared.symbols.Symbol.TheVariants as symbol
use Rattle.rz_rules.specs.Name.{IsName}
use Rattle.rz_rules.specs.Tree.{Tree, At, blank, sort_of, tree_of}
use Rattle.rz_rules.specs.Row.{Assignment}

-- the name in a tree's node
abbrev pub name_in : Tree → List ℕ
name_in (At kind number name kids) = name

-- the id of a letter's tree, by the letter's number
abbrev pub letter_at : List (Option ℕ) → ℕ → Option ℕ
letter_at letters k = slice_index_or letters k None

-- a letter stands for a tree of its sort
pub record IsFound (nodes : List Node) (letters : List (Option ℕ)) (letter : Letter) : Type 0 where
  pub id : ℕ
  pub there : letter_at letters letter.number ≡ Some id
  pub live : id < length nodes
  pub sort : sort_of (tree_of nodes id) ≡ letter.sort

-- a node that has a name
pub record HasName (nodes : List Node) (id : ℕ) : Type 0 where
  pub live : id < length nodes
  pub name : IsName (name_in (tree_of nodes id))

abbrev pub is_row_name : Label → Bool
is_row_name Plain = false
is_row_name (Index k) = false
is_row_name RowName = true

-- whether a text has the row's name
abbrev pub has_name : List Symbol → Bool
has_name [] = false
has_name (symbol.Node kind label ∷ text) = is_row_name label || has_name text
has_name (symbol ∷ text) = has_name text

abbrev pub tree_for : List Node → Option ℕ → Tree
tree_for nodes None = blank
tree_for nodes (Some id) = tree_of nodes id

-- the letters' trees, and the name in a node
abbrev pub assignment_of : List Node → List (Option ℕ) → Option ℕ → Assignment
assignment_of nodes letters name = record { letters = λ k. tree_for nodes (letter_at letters k); name = name_in (tree_for nodes name) }
