-- What a call answers: a text and a status.
use Rattle.std.specs.Prelude.{◌≡◌, ℕ, ◌+◌, ◌≤◌, ◌⊎◌, Option, Some, None, List, [], ◌∷◌, ◌++◌, codes, length, reverse}
use Rattle.std.specs.Fmt.{decimal}
use Rattle.std.specs.List.{flat_map, slice_index_or}
use Rattle.rz_rules.specs.declared.coordinates.Coord.{Coord}
use Rattle.rz_rules.specs.declared.coordinates.Coord.TheVariants.{Zero, One, Of}
use Rattle.rz_rules.specs.Validity.{RankList, coordinates_limit}
use Rattle.rz_io.specs.Device.{Told, MayRead}
use Rattle.rz_kernel.specs.Answer.{KernelSays}
use Rattle.rz_kernel.specs.declared.answer.KernelAnswer.{KernelAnswer}
use Rattle.rz_kernel.specs.declared.answer.KernelAnswer.TheVariants.{Yes, Malformed, BadRow}
use Rattle.rz_tope_query.specs.declared.decision.Decision.{Decision}
use Rattle.rz_tope_query.specs.declared.decision.Decision.TheVariants as decision
use Rattle.rz_tope_query.specs.Sequent.{IsNoSequent, Sequent}
use Rattle.rz_tope_query.specs.Decision.{IsDecided, count_of}
use Rattle.rz_app.specs.Command.{Command, Kernel, Tope, command, files_of}

-- a line ends with a line feed
abbrev pub line : List ℕ → List ℕ
line text = text ++ 10 ∷ []

-- what is written where the words are no command
abbrev pub usage : List ℕ
usage =
    line (codes "usage: rzk check|json|derive FILE.. | kernel FILE | "
    ++ codes "tope SEQUENT | script FILE | sample N")

-- the kernel's answer as it is written
abbrev pub text_of : KernelAnswer → List ℕ
text_of (Yes claims) = line (codes "yes " ++ decimal claims)
text_of (Malformed number) = line (codes "malformed " ++ decimal number)
text_of (BadRow number) = line (codes "badrow " ++ decimal number)

-- 0 for a yes
abbrev pub status_of : KernelAnswer → ℕ
status_of (Yes claims) = 0
status_of (Malformed number) = 1
status_of (BadRow number) = 1

-- the text and the status on a file of derivations: the kernel's answer
pub record KernelWrites (bytes : List ℕ) (text : List ℕ) (status : ℕ) : Type 0 where
  pub answer : KernelAnswer
  pub says : KernelSays bytes answer
  pub text_is : text ≡ text_of answer
  pub status_is : status ≡ status_of answer

-- ---- sequents

-- the name of a variable: its index counts the names behind it
abbrev pub variable_name : List (List ℕ) → ℕ → List ℕ
variable_name names index = slice_index_or (reverse names) index []

-- the letters of a path, each behind a point
abbrev pub path_text : List ℕ → List ℕ
path_text path = flat_map (λ letter. codes "." ++ letter ∷ []) path

-- a coordinate as it is written: the name of its variable, and its path
abbrev pub coordinate_text : List (List ℕ) → Coord → List ℕ
coordinate_text names Zero = codes "0_2"
coordinate_text names One = codes "1_2"
coordinate_text names (Of variable path) = variable_name names variable ++ path_text path

-- a coordinate and its rank, with the greatest rank that there is
abbrev pub rank_line : List (List ℕ) → ℕ → Coord × ℕ → List ℕ
rank_line names greatest ranked =
    coordinate_text names ranked.0 ++ line (codes " " ++ decimal ranked.1 ++ codes "/" ++ decimal greatest)

-- the ranks in their order; the greatest is that of the end 1, one more than there are coordinates
abbrev pub rank_lines : List (List ℕ) → RankList → List ℕ
rank_lines names ranks = flat_map (rank_line names (length ranks + 1)) ranks

-- at most eight coordinates occur in a sequent
abbrev pub HasFewCoordinates : Sequent → Type 0
HasFewCoordinates sequent = count_of sequent ≤ coordinates_limit

-- what is decided of a sequent, as it is written
abbrev pub decision_text : Decision → List ℕ
decision_text (decision.Yes bytes) = bytes
decision_text (decision.No names ranks) = line (codes "no") ++ rank_lines names ranks
decision_text (decision.Silent count) = line (codes "silent " ++ decimal count)

abbrev pub decision_status : Decision → ℕ
decision_status (decision.Yes bytes) = 0
decision_status (decision.No names ranks) = 1
decision_status (decision.Silent count) = 7

-- The text and the status on an operand that says a sequent. Where that holds: any file of derivations that claims it and
-- nothing else; where it doesn't: any ranks that refute it; and where too many coordinates occur: their number.
pub record TopeWrites (operand : List ℕ) (text : List ℕ) (status : ℕ) : Type 0 where
  pub decision : Decision
  pub decided : IsDecided operand decision
  pub text_is : text ≡ decision_text decision
  pub status_is : status ≡ decision_status decision

-- the same on words that are no command
abbrev pub WritesUsage : List ℕ → ℕ → Type 0
WritesUsage text status = (text ≡ usage) × (status ≡ 2)

-- ---- all commands

-- these may be the bytes of these files, in their order
abbrev pub MayHold : (List ℕ → Told) → List (List ℕ) → List (List ℕ) → Type 0
MayHold told [] [] = Unit {0}
MayHold told [] (bytes ∷ contents) = ⊥
MayHold told (name ∷ names) [] = ⊥
MayHold told (name ∷ names) (bytes ∷ contents) =
    MayRead (told name) bytes × MayHold told names contents

-- the text and the status of a command, or of words that are none, over the bytes of its files
abbrev pub Writes : Option Command → List (List ℕ) → List ℕ → ℕ → Type 0
Writes None contents text status = WritesUsage text status
Writes (Some (Kernel file)) [] text status = ⊥
Writes (Some (Kernel file)) (bytes ∷ contents) text status = KernelWrites bytes text status
Writes (Some (Tope operand)) [] text status =
    TopeWrites operand text status ⊎ IsNoSequent operand × WritesUsage text status
Writes (Some (Tope operand)) (bytes ∷ contents) text status = ⊥

-- the text and the status of a command over what the store tells
pub record AnswersCommand
    (asked : Option Command) (told : List ℕ → Told) (text : List ℕ) (status : ℕ) : Type 0 where
  pub contents : List (List ℕ)
  pub read : MayHold told (files_of asked) contents
  pub writes : Writes asked contents text status

-- the text and the status of these words over what the store tells
abbrev pub Answers : List (List ℕ) → (List ℕ → Told) → List ℕ → ℕ → Type 0
Answers words told text status = AnswersCommand (command words) told text status

-- the statuses that a command has where no device fails and memory suffices
abbrev pub IsStatus : Option Command → ℕ → Type 0
IsStatus None status = status ≡ 2
IsStatus (Some (Kernel file)) status = (status ≡ 0) ⊎ (status ≡ 1)
IsStatus (Some (Tope operand)) status = (status ≡ 0) ⊎ (status ≡ 1) ⊎ (status ≡ 2) ⊎ (status ≡ 7)

-- how many steps a call counts that answers this status: none, since nothing is judged
abbrev pub CountsSteps : Option Command → (List ℕ → Told) → ℕ → ℕ → Type 0
CountsSteps None told status steps = steps ≡ 0
CountsSteps (Some (Kernel file)) told status steps = steps ≡ 0
CountsSteps (Some (Tope operand)) told status steps = steps ≡ 0
