use Rattle.std.proofs.Common.{◌≡◌, ◌≤◌, length, take}
use Rattle.rz_log.proofs.log.Log.release.Given as goal

abbrev pub invariant-loop-self : goal.invariant-loop-self
invariant-loop-self l = (l.mark ≤ length l.self) × (l.self ≡ take (length l.self) l.initial.self)

abbrev pub decreases-loop-self : goal.decreases-loop-self
decreases-loop-self l = length l.self
