use Rattle.std.proofs.Common.{◌≡◌, drop}
use Rattle.std.specs.Map.{lookup}
use Rattle.rz_rules.specs.Coordinate.{are_same}
use Rattle.rz_tope.proofs.ranks.rank_of_variable.Given as goal

-- what is looked for is found in the pairs that are left
abbrev pub invariant-loop-pair : goal.invariant-loop-pair
invariant-loop-pair l = lookup (are_same l.coordinate) (drop l.pair-index l.ranks) ≡ lookup (are_same l.coordinate) l.ranks
