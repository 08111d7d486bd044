-- What steps rest on.
use Rattle.std.specs.Prelude.{◌≡◌, ℕ, ◌<◌, List, AllPairs, Contains, Some, slice_get}
use Rattle.rz_rules.specs.declared.judgments.Line.{Line}

-- a root, or a premise of such a step
pub data IsReachable (lines : List Line) (roots : List ℕ) : ℕ → Type 0 where
  Root : {step : ℕ} → Contains roots step → IsReachable lines roots step
  Premise : {step premise : ℕ} {line : Line} → IsReachable lines roots step
      → slice_get lines step ≡ Some line → Contains line.from premise → IsReachable lines roots premise

-- each number is less than those behind it
abbrev pub IsRising : List ℕ → Type 0
IsRising numbers = AllPairs (λ before after. before < after) numbers
