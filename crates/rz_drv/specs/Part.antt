-- A part of a derivation, and its spelling.
use Rattle.std.specs.Prelude.{◌≡◌, ◌≢◌, ℕ, List, [], ◌++◌, map}
use Rattle.std.specs.List.{concat}
use Rattle.rz_rules.specs.File.{Item, NodeItem, StepItem, ClaimItem, AllFit, empty_state, lines, lines_of}
use Rattle.rz_drv.specs.declared.parts.Part.{Part}
use Rattle.rz_drv.specs.declared.faults.DrvFault.{DrvFault}
use Rattle.rz_drv.specs.declared.faults.DrvFault.TheVariants.{Malformed, OutOfMemory}
use Rattle.rz_drv.specs.declared.items.Item.{Item as ReadItem}
use Rattle.rz_drv.specs.declared.items.Item.TheVariants.{Node, Step, Claim}
use Rattle.rz_drv.specs.Lines.{IsFirstBadLine}

abbrev pub claim_item : List ℕ × ℕ → Item
claim_item claim = ClaimItem claim.0 claim.1

-- the items of a part, in the order of the file
abbrev pub items_of : Part → List Item
items_of part =
    map (λ node. NodeItem node) part.nodes ++ (map (λ line. StepItem line) part.lines ++ map claim_item part.claims)

-- a part is in form: each item fits after those before it
abbrev pub IsPart : Part → Type 0
IsPart part = AllFit empty_state (items_of part)

-- the bytes of the file with this part
abbrev pub spelling : Part → List ℕ
spelling part = concat (lines_of (items_of part))

-- no other part has the spelling of this one
abbrev pub HasOwnSpelling : Part → Type 0
HasOwnSpelling part = (other : Part) → IsPart other → spelling other ≡ spelling part → other ≡ part

-- bytes that are the spelling of no part, with the first line that isn't in the grammar
abbrev pub IsFault : List ℕ → DrvFault → Type 0
IsFault bytes (Malformed line) =
    ((part : Part) → IsPart part → spelling part ≢ bytes) × IsFirstBadLine (lines bytes) line
IsFault bytes OutOfMemory = Unit {0}

-- what stands in a part stands before this item in a file
abbrev pub IsBehind : Part → ReadItem → Type 0
IsBehind part (Node node) = (part.lines ≡ []) × (part.claims ≡ [])
IsBehind part (Step line) = part.claims ≡ []
IsBehind part (Claim name step) = Unit {0}
