use Rattle.std.proofs.Common.{◌≡◌, map, nat_eq, take, unwrap_or}
use Rattle.std.specs.HashMap.{get}
use Rattle.rz_pool.proofs.copies.copied_kids.Given as goal

abbrev pub invariant-loop-kid : goal.invariant-loop-kid
invariant-loop-kid l = l.copied ≡ map (λ kid. unwrap_or (get nat_eq l.copies kid) 0) (take l.kid-index l.kid-items)
