-- Texts that are complete, of the right sorts, and substitute only in what has neither substitution nor shift.
use Rattle.std.specs.Prelude.{◌≡◌, ◌^◌, ◌==◌, ◌&&◌, nat_lt, Bool, true, false, if◌then◌else◌, List, [], ◌∷◌, length, take, drop, Option, Some, None, option_and_then}
use Rattle.std.specs.List.{list_all}
use Rattle.rz_rules.specs.declared.kinds.Sort.{Sort}
use Rattle.rz_rules.specs.declared.kinds.Sort.TheVariants as sort
use Rattle.rz_rules.specs.declared.kinds.Role.{Role}
use Rattle.rz_rules.specs.declared.kinds.Role.TheVariants.{Variable, Declared, Former}
use Rattle.rz_rules.specs.declared.symbols.Letter.{Letter}
use Rattle.rz_rules.specs.declared.symbols.Label.{Label}
use Rattle.rz_rules.specs.declared.symbols.Label.TheVariants.{Plain, Index, RowName}
use Rattle.rz_rules.specs.declared.symbols.Symbol.{Symbol}
use Rattle.rz_rules.specs.declared.symbols.Symbol.TheVariants as symbol
use Rattle.rz_rules.specs.declared.symbols.TheConstants.{LETTERS}
use Rattle.rz_rules.specs.Form.{form, kid_sorts, sort_in}
use Rattle.rz_rules.specs.Judgment.{sorts_of}

abbrev pub same_sort : Sort → Sort → Bool
same_sort sort.Cube sort.Cube = true
same_sort sort.Point sort.Point = true
same_sort sort.Tope sort.Tope = true
same_sort sort.Term sort.Term = true
same_sort sort.Context sort.Context = true
same_sort left right = false

abbrev pub same_letter : Letter → Letter → Bool
same_letter left right = (left.number == right.number) && same_sort left.sort right.sort

-- a variable has an index, a constant or a postulate the row's name, and no other node has either
abbrev pub label_fits : Role → Label → Bool
label_fits (Variable space) (Index k) = nat_lt k (2 ^ 32)
label_fits Declared RowName = true
label_fits Former Plain = true
label_fits role label = false

-- what is known of a tree on the stack: its sort, and whether its text has neither a substitution nor a shift
pub record Mark : Type 0 where
  pub sort : Sort
  pub plain : Bool

-- the trees on top are of these sorts
abbrev pub starts_with : List Sort → List Mark → Bool
starts_with [] marks = true
starts_with (sort ∷ sorts) [] = false
starts_with (sort ∷ sorts) (mark ∷ marks) = same_sort sort mark.sort && starts_with sorts marks

-- the stack with a symbol in front, where the symbol finds what it takes
abbrev pub with_mark : Symbol → List Mark → Option (List Mark)
with_mark (symbol.Letter letter) marks =
    if nat_lt letter.number LETTERS then Some (record { sort = letter.sort; plain = true } ∷ marks) else None
with_mark (symbol.Node kind label) marks =
    let kids = length (form kind).kids in
    if label_fits (form kind).role label && starts_with (kid_sorts kind) marks
    then Some (record { sort = (form kind).sort; plain = list_all (λ mark. mark.plain) (take kids marks) } ∷ drop kids marks)
    else None
with_mark (symbol.Put space) (body ∷ value ∷ marks) =
    if body.plain && value.plain && same_sort value.sort (sort_in space)
    then Some (record { sort = body.sort; plain = false } ∷ marks) else None
with_mark (symbol.Put space) marks = None
with_mark (symbol.Shift space from) (tree ∷ marks) =
    if tree.plain then Some (record { sort = tree.sort; plain = false } ∷ marks) else None
with_mark (symbol.Shift space from) [] = None
with_mark (symbol.Says kind) marks =
    if starts_with (sorts_of kind) marks then Some (drop (length (sorts_of kind)) marks) else None

-- the stack that a text leaves, read from its end
abbrev pub marks_of : List Symbol → Option (List Mark)
marks_of [] = Some []
marks_of (symbol ∷ text) = option_and_then (with_mark symbol) (marks_of text)

-- a text leaves nothing on the stack
abbrev pub IsText : List Symbol → Type 0
IsText text = marks_of text ≡ Some []
