use Rattle.std.proofs.Common.{◌≡◌, ◌≢◌, ℕ, ◌+◌, ◌<◌, take}
use Rattle.rz_syntax.specs.declared.levels.TheConstants.{TOO_DEEP}
use Rattle.rz_syntax.specs.Grammar.{kinds_of}
use Rattle.rz_syntax.specs.Levels.{nested, outermost, level_of, IsLow}
use Rattle.rz_syntax.proofs.levels.check_levels.Given as goal

abbrev pub invariant-loop-number : goal.invariant-loop-number
invariant-loop-number l = record {
  is : l.nesting ≡ nested outermost (kinds_of (take l.number l.tokens));
  low : IsLow l.nesting;
  before : (number : ℕ) → number < l.number → level_of (take (number + 1) (kinds_of l.tokens)) ≢ TOO_DEEP;
}
