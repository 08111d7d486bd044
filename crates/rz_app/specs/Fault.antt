-- What a call writes, or begins to write, where a device may fail.
use Rattle.std.specs.Prelude.{◌≡◌, ◌≢◌, ℕ, ◌⊎◌, Option, List, ◌∷◌, ◌++◌, codes, All}
use Rattle.rz_io.specs.Device.{Told, Untold, Absent, Present, Rose, GainsPart}
use Rattle.rz_app.specs.Command.{Command, files_of}
use Rattle.rz_app.specs.Answer.{AnswersCommand, line}

-- the store tells bytes of a name
abbrev pub IsPresent : Told → Type 0
IsPresent Untold = ⊥
IsPresent Absent = ⊥
IsPresent (Present bytes) = Unit {0}

-- the text on the first of these files whose read failed or found none: the store counted that,
-- from the first number of faults to the second, or tells that the name is missing
pub record CannotRead
    (names : List (List ℕ)) (told : List ℕ → Told) (before now : ℕ) (text : List ℕ) : Type 0 where
  pub earlier : List (List ℕ)
  pub name : List ℕ
  pub later : List (List ℕ)
  pub place : names ≡ earlier ++ name ∷ later
  pub first : All (λ other. told other ≢ Absent) earlier
  pub cause : Rose before now ⊎ (told name ≡ Absent)
  pub text_is : text ≡ line (codes "cannot read " ++ name)

-- the whole text of a call, and its status where all of it is written
abbrev pub Composes : Option Command → (List ℕ → Told) → ℕ → ℕ → List ℕ → ℕ → Type 0
Composes asked told before now text status =
    AnswersCommand asked told text status
    ⊎ (CannotRead (files_of asked) told before now text × (status ≡ 3))

-- of the whole text of a call a sink took a front, and not all
pub record BreaksOff
    (asked : Option Command) (told : List ℕ → Told) (before now : ℕ)
    (old new : Option (List ℕ)) : Type 0 where
  pub text : List ℕ
  pub status : ℕ
  pub composed : Composes asked told before now text status
  pub front : GainsPart old new text
