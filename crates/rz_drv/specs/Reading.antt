-- A reader of a file, which reads it item by item.
use Rattle.std.specs.Prelude.{◌≡◌, ℕ, ◌+◌, ◌<◌, ◌^◌, List, ◌∷◌, [], ◌++◌, length}
use Rattle.rz_rules.specs.File.{Item, AllFit, empty_state, state_after, header, lines, lines_of}
use Rattle.rz_drv.specs.declared.faults.DrvFault.{DrvFault}
use Rattle.rz_drv.specs.declared.faults.DrvFault.TheVariants.{Malformed, OutOfMemory}
use Rattle.rz_drv.specs.declared.items.Item.{Item as ReadItem}
use Rattle.rz_drv.specs.declared.reading.Reader.{Reader}
use Rattle.rz_drv.specs.Items.{item_of}
use Rattle.rz_drv.specs.Lines.{item_lines, BreaksAt, IsFirstBadLine}
use Rattle.rz_drv.specs.Outline.{IsOutline}

-- of these bytes the header was read, and then these items, which fit
pub record HasRead (bytes : List ℕ) (items : List Item) (reader : Reader) : Type 0 where
  pub fit : AllFit empty_state items
  pub outline : IsOutline (state_after empty_state items) reader.outline
  pub split : lines bytes ≡ header ∷ item_lines items ++ lines reader.rest.now
  pub count : reader.line ≡ length items + 1
  pub room : reader.line + length reader.rest.now + 2 < 2 ^ 64

-- a reader of some bytes that has read some items
abbrev pub IsReading : Reader → Type 0
IsReading reader = (bytes : List ℕ) × (items : List Item) × HasRead bytes items reader

-- how many bytes are left
abbrev pub left : Reader → ℕ
left reader = length reader.rest.now

-- whatever was read, this item was read behind it
pub record Reads (old new : Reader) (item : ReadItem) : Type 0 where
  pub more : (bytes : List ℕ) (items : List Item) → HasRead bytes items old → HasRead bytes (items ++ item_of item ∷ []) new
  pub shorter : left new < left old

-- what was read is still what was read
abbrev pub Stays : Reader → Reader → Type 0
Stays old new = (bytes : List ℕ) (items : List Item) → HasRead bytes items old → HasRead bytes items new

-- the bytes are the file with the items that were read
abbrev pub Ends : Reader → Type 0
Ends reader = (bytes : List ℕ) (items : List Item) → HasRead bytes items reader → lines bytes ≡ lines_of items

-- behind the items that were read the file breaks off
abbrev pub IsNextFault : Reader → DrvFault → Type 0
IsNextFault reader (Malformed line) =
    (bytes : List ℕ) (items : List Item) → HasRead bytes items reader → BreaksAt (lines bytes) items line
IsNextFault reader OutOfMemory = Unit {0}

-- the first line is none of a file
abbrev pub IsFirstFault : List ℕ → DrvFault → Type 0
IsFirstFault bytes (Malformed line) = IsFirstBadLine (lines bytes) line × (line ≡ 1)
IsFirstFault bytes OutOfMemory = ⊥

-- the number of the line that was read last
abbrev pub IsLastLine : Reader → ℕ → Type 0
IsLastLine reader line = (bytes : List ℕ) (items : List Item) → HasRead bytes items reader → line ≡ length items + 1
