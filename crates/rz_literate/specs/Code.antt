-- The code lines of a Markdown file.
use Rattle.std.specs.Prelude.{◌≡◌, ◌≢◌, ℕ, Bool, false, not, ◌&&◌, ◌||◌, List, [], ◌∷◌, ◌++◌, map, slice_index, nat_eq, ◌==◌, if◌then◌else◌, IsTrue, Option, Some, None, codes}
use Rattle.std.specs.List.{ends_with, onto_first}
use Rattle.std.specs.Str.{IsUtf8, IsValidUpTo}
use Rattle.rz_literate.specs.declared.fault.TextFault.{TextFault}
use Rattle.rz_literate.specs.declared.fault.TextFault.TheVariants.{NotText, OutOfMemory}
use Rattle.rz_literate.specs.declared.fence.Fence.{Fence}
use Rattle.rz_literate.specs.Fence.{line_feed, carriage_return, space, opening, closes}

-- the lines of a text, each with the line feed that ends it; the last may have none
abbrev pub full_lines : List ℕ → List (List ℕ)
full_lines [] = []
full_lines (b ∷ bytes) = if b == line_feed then (b ∷ []) ∷ full_lines bytes else onto_first b (full_lines bytes)

-- a line feed or a carriage return
abbrev pub is_line_end : ℕ → Bool
is_line_end b = b == line_feed || b == carriage_return

-- a space, but for a byte that ends a line
abbrev pub blank_byte : ℕ → ℕ
blank_byte b = if is_line_end b then b else space

-- a line of no code: as many bytes, blank
abbrev pub blank : List ℕ → List ℕ
blank line = map blank_byte line

-- a line is code where a fence of code is open before it and it doesn't close that fence
abbrev pub is_code_line : Option Fence → List ℕ → Bool
is_code_line None line = false
is_code_line (Some fence) line = fence.is_code && not (closes fence line)

-- the fence that is open after a line, where this one, or none, is open before it
abbrev pub fence_after : Option Fence → List ℕ → Option Fence
fence_after None line = opening line
fence_after (Some fence) line = if closes fence line then None else Some fence

-- the lines one after the other, where this fence, or none, is open before them: code lines as they are, the others blank
abbrev pub code_lines : Option Fence → List (List ℕ) → List ℕ
code_lines fence [] = []
code_lines fence (line ∷ lines) = (if is_code_line fence line then line else blank line) ++ code_lines (fence_after fence line) lines

-- what is read of a file: of one whose name ends in `.md` its code lines, of another all of it
abbrev pub code_of : List ℕ → List ℕ → List ℕ
code_of name bytes = if ends_with nat_eq name (codes ".md") then code_lines None (full_lines bytes) else bytes

-- line feeds and carriage returns stay in their places
abbrev pub KeepsLineEnds : List ℕ → List ℕ → Type 0
KeepsLineEnds bytes text = (i : ℕ) → IsTrue (is_line_end (slice_index bytes i)) → slice_index text i ≡ slice_index bytes i

-- where another byte stands than before, it is a space
abbrev pub ChangesToSpaces : List ℕ → List ℕ → Type 0
ChangesToSpaces bytes text = (i : ℕ) → slice_index text i ≢ slice_index bytes i → slice_index text i ≡ space

-- a file is no text at the end of its longest front that is UTF-8; memory runs out over a text alone
abbrev pub IsFaultOf : List ℕ → TextFault → Type 0
IsFaultOf bytes (NotText place) = IsValidUpTo bytes place
IsFaultOf bytes OutOfMemory = IsUtf8 bytes
