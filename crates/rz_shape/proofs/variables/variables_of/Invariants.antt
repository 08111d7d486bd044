use Rattle.std.proofs.Common.{◌≡◌, ◌≤◌, ◌++◌, length, reverse}
use Rattle.rz_shape.specs.Reading.{variables_from}
use Rattle.rz_shape.proofs.variables.variables_of.Given as goal

-- the variables so far, and those of the binders that are left
abbrev pub invariant-loop-last : goal.invariant-loop-last
invariant-loop-last l = record {
  few : l.points ≤ length l.variables.items;
  is : l.variables.items ++ variables_from l.points (reverse l.left) ≡ variables_from 0 (reverse l.binders);
}

abbrev pub decreases-loop-last : goal.decreases-loop-last
decreases-loop-last l = length l.left
