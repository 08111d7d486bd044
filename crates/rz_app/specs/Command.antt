-- What the words after the program's name ask for.
use Rattle.std.specs.Prelude.{ℕ, ◌==◌, Bool, false, not, cond, if◌then◌else◌, Option, Some, None, List, [], ◌∷◌, codes}
use Rattle.std.specs.List.{list_any}
use Rattle.std.specs.Str.{bytes_eq}
use Rattle.rz_tope_query.specs.Sequent.{IsNoSequent, SaysSequent, Sequent}
use Rattle.rz_app.specs.declared.command.Request.{Request}
use Rattle.rz_app.specs.declared.command.Request.TheVariants as request

-- a command with its operands
pub data Command : Type 0 where
  Kernel : (file : List ℕ) → Command
  -- the operand is to be a sequent
  Tope : (operand : List ℕ) → Command

-- an operand is not empty and doesn't begin with `-`
abbrev pub is_operand : List ℕ → Bool
is_operand [] = false
is_operand (byte ∷ bytes) = not (byte == 45)

-- the command of a word with an operand
abbrev pub command_of : List ℕ → List ℕ → Option Command
command_of word operand =
    if bytes_eq word (codes "kernel") then Some (Kernel operand)
    else if bytes_eq word (codes "tope") then Some (Tope operand)
    else None

-- the command whose form the words have, if they have one
abbrev pub command : List (List ℕ) → Option Command
command [] = None
command (word ∷ []) = None
command (word ∷ operand ∷ []) = if is_operand operand then command_of word operand else None
command (word ∷ operand ∷ more ∷ rest) = None

-- the names that don't stand among the earlier ones, each at its first place
abbrev pub new_names : List (List ℕ) → List (List ℕ) → List (List ℕ)
new_names earlier [] = []
new_names earlier (name ∷ names) =
    cond (list_any (bytes_eq name) earlier)
    (new_names earlier names)
    (name ∷ new_names (name ∷ earlier) names)

-- the operands of a command that name files, in their order
abbrev pub file_operands : Command → List (List ℕ)
file_operands (Kernel file) = file ∷ []
file_operands (Tope operand) = []

-- the files that a command reads, in their order: each name counts once, at its first place
abbrev pub files_of : Option Command → List (List ℕ)
files_of None = []
files_of (Some asked) = new_names [] (file_operands asked)

-- a request as the command that it asks for
abbrev pub request_command : Request → Command
request_command (request.Kernel file) = Kernel file.now
request_command (request.Tope operand) = Tope operand.now

-- The words are no command: they have the form of none, or what is to be a sequent is none.
abbrev pub IsNoCommand : Option Command → Type 0
IsNoCommand None = Unit {0}
IsNoCommand (Some (Kernel file)) = ⊥
IsNoCommand (Some (Tope operand)) = IsNoSequent operand

-- the words ask about this sequent
abbrev pub AsksAbout : Option Command → Sequent → Type 0
AsksAbout None sequent = ⊥
AsksAbout (Some (Kernel file)) sequent = ⊥
AsksAbout (Some (Tope operand)) sequent = SaysSequent operand sequent
