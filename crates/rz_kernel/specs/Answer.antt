-- What the kernel answers on bytes.
use Rattle.std.specs.Prelude.{◌≡◌, ℕ, suc, ◌<◌, List, length, take}
use Rattle.rz_rules.specs.File.{Claim, IsFile, lines, BeginsFile, BeginsDerivations}
use Rattle.rz_kernel.specs.declared.answer.KernelAnswer.{KernelAnswer}
use Rattle.rz_kernel.specs.declared.answer.KernelAnswer.TheVariants.{Yes, Malformed, BadRow}

-- the lines before this one, counted from 1, begin a file of derivations, and those up to it don't
pub record IsFirstBad (all : List (List ℕ)) (line : ℕ) : Type 0 where
  pub place : ℕ
  pub counted : line ≡ suc place
  pub there : place < length all
  pub good : BeginsDerivations (take place all)
  pub bad : BeginsDerivations (take (suc place) all) → ⊥

-- Yes with the number of claims on a file of derivations; else the first bad line, Malformed where no file of the
-- grammar begins with the lines up to it, and BadRow where one does
abbrev pub KernelSays : List ℕ → KernelAnswer → Type 0
KernelSays bytes (Yes n) = (claims : List Claim) × IsFile bytes claims × (n ≡ length claims)
KernelSays bytes (Malformed line) = IsFirstBad (lines bytes) line × (BeginsFile (take line (lines bytes)) → ⊥)
KernelSays bytes (BadRow line) = IsFirstBad (lines bytes) line × BeginsFile (take line (lines bytes))
