-- The fences of a Markdown file. A line is a list of bytes, its ending among them.
use Rattle.std.specs.Prelude.{ℕ, ◌-◌, Bool, true, false, not, ◌&&◌, ◌||◌, List, length, take, drop, slice_index, nat_eq, nat_le, ◌==◌, if◌then◌else◌, Option, Some, None, codes}
use Rattle.std.specs.List.{prefix_len, list_any, list_all, starts_with}
use Rattle.std.specs.Option.{option_or, option_and_then, option_map_or}
use Rattle.std.specs.Str.{bytes_eq}
use Rattle.std.specs.Str.Lines.{strip_carriage_return}
use Rattle.rz_literate.specs.declared.fence.Mark.{Mark}
use Rattle.rz_literate.specs.declared.fence.Mark.TheVariants.{Backquote, Tilde}
use Rattle.rz_literate.specs.declared.fence.Fence.{Fence}

-- the bytes that stand apart in a line
abbrev pub tab : ℕ
tab = 9

abbrev pub line_feed : ℕ
line_feed = 10

abbrev pub carriage_return : ℕ
carriage_return = 13

abbrev pub space : ℕ
space = 32

-- the character of a fence
abbrev pub character : Mark → ℕ
character Backquote = 96
character Tilde = 126

-- how often a byte stands at the front of a text
abbrev pub run_length : ℕ → List ℕ → ℕ
run_length byte text = prefix_len (λ b. b == byte) text

-- a line without its ending: the line feed, and one carriage return before it
abbrev pub content : List ℕ → List ℕ
content line = if slice_index line (length line - 1) == line_feed then strip_carriage_return (take (length line - 1) line) else line

-- a line without its ending and its indentation of zero to three spaces; nothing where it is indented further
abbrev pub unindented : List ℕ → Option (List ℕ)
unindented line = let indent = run_length space (content line) in
    if nat_le indent 3 then Some (drop indent (content line)) else None

-- what may follow the run of an opening fence: after backquotes a text without backquotes, after tildes any
abbrev pub allows : Mark → List ℕ → Bool
allows Backquote info = not (list_any (λ b. b == character Backquote) info)
allows Tilde info = true

-- a text is `rzk`, or it begins with `rzk` and a space, or with `{.rzk` and then a space or `}`
abbrev pub is_code_name : List ℕ → Bool
is_code_name text = bytes_eq text (codes "rzk") || starts_with nat_eq text (codes "rzk ")
    || starts_with nat_eq text (codes "{.rzk ") || starts_with nat_eq text (codes "{.rzk}")

-- so does an info string, without the spaces before it
abbrev pub is_code_info : List ℕ → Bool
is_code_info info = is_code_name (drop (run_length space info) info)

-- the fence that an unindented text opens by a run of at least three of this character
abbrev pub opened_by : Mark → List ℕ → Option Fence
opened_by mark text = let run = run_length (character mark) text in let info = drop run text in
    if nat_le 3 run && allows mark info then Some (record { mark = mark; run = run; is_code = is_code_info info }) else None

-- the fence that a line outside a fence opens
abbrev pub opening : List ℕ → Option Fence
opening line = option_and_then (λ text. option_or (opened_by Backquote text) (opened_by Tilde text)) (unindented line)

-- a text is only spaces and tabs
abbrev pub is_white : List ℕ → Bool
is_white text = list_all (λ b. b == space || b == tab) text

-- an unindented text is a run at least as long of the same character, and then only spaces and tabs
abbrev pub closed_by : Fence → List ℕ → Bool
closed_by fence text = let run = run_length (character fence.mark) text in
    nat_le fence.run run && is_white (drop run text)

-- a line inside a fence closes it
abbrev pub closes : Fence → List ℕ → Bool
closes fence line = option_map_or (closed_by fence) (unindented line) false
