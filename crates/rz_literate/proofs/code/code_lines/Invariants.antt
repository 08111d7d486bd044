use Rattle.std.proofs.Common.{◌≡◌, ℕ, List, ◌++◌, None}
use Rattle.std.specs.String.{string_bytes}
use Rattle.std.specs.Str.Iter.{split_inclusive_text, split_inclusive_pattern}
use Rattle.rz_literate.specs.Fence.{line_feed}
use Rattle.rz_literate.specs.Code.{full_lines, code_lines}
use Rattle.rz_literate.proofs.code.code_lines.Given as goal

-- the lines are cut at line feeds, and what is written goes on with the lines that are left
pub record Writes (pattern : ℕ) (written whole : List ℕ) : Type 0 where
  pub cuts : pattern ≡ line_feed
  pub goes_on : written ≡ whole

abbrev pub invariant-loop-line : goal.invariant-loop-line
invariant-loop-line l = Writes (split_inclusive_pattern l.line-iterator)
    (string_bytes l.out ++ code_lines l.inside (full_lines (split_inclusive_text l.line-iterator)))
    (code_lines None (full_lines l.text))
