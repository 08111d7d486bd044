-- A run over the items of a file.
use Rattle.std.specs.Prelude.{◌≡◌, ℕ, List, length, take}
use Rattle.rz_rules.specs.File.{Item, FileState, empty_state, lines_of, AllFit, AllFollow, state_after, BeginsFile}
use Rattle.rz_drv.specs.declared.faults.DrvFault.{DrvFault}
use Rattle.rz_drv.specs.declared.faults.DrvFault.TheVariants as faults
use Rattle.rz_drv.specs.declared.reading.Reader.{Reader}
use Rattle.rz_drv.specs.Reading.{HasRead}
use Rattle.rz_kernel.specs.declared.answer.KernelAnswer.{KernelAnswer}
use Rattle.rz_kernel.specs.declared.answer.KernelAnswer.TheVariants.{Yes, Malformed, BadRow}
use Rattle.rz_kernel.specs.Answer.{IsFirstBad, KernelSays}

-- what is right to answer on the bytes that are these lines together
abbrev pub LinesSay : List (List ℕ) → KernelAnswer → Type 0
LinesSay all (Yes n) =
    (items : List Item) × AllFit empty_state items × AllFollow empty_state items
    × (all ≡ lines_of items) × (n ≡ length (state_after empty_state items).claims)
LinesSay all (Malformed line) = IsFirstBad all line × (BeginsFile (take line all) → ⊥)
LinesSay all (BadRow line) = IsFirstBad all line × BeginsFile (take line all)

-- what is right to answer where reading failed
abbrev pub FaultSays : List ℕ → DrvFault → Type 0
FaultSays bytes (faults.Malformed line) = KernelSays bytes (Malformed line)
FaultSays bytes faults.OutOfMemory = Unit {0}

-- the reader has read items, which follow, and this is what they give
pub record HasTaken (bytes : List ℕ) (reader : Reader) (known : FileState) : Type 0 where
  pub items : List Item
  pub read : HasRead bytes items reader
  pub follow : AllFollow empty_state items
  pub known_is : known ≡ state_after empty_state items
