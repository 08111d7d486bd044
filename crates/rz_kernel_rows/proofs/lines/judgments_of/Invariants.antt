use Rattle.std.proofs.Common.{◌≡◌, map, take}
use Rattle.rz_kernel_rows.proofs.lines.judgments_of.Given as goal

-- what the lines so far say
abbrev pub invariant-loop-line : goal.invariant-loop-line
invariant-loop-line l = l.judgments.items ≡ map (λ line. line.says) (take l.line-index l.lines)
