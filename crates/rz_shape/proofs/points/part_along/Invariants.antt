use Rattle.std.proofs.Common.{◌≡◌, drop}
use Rattle.rz_pool.specs.Pool.{Grows}
use Rattle.rz_shape.specs.Reading.{part_along}
use Rattle.rz_shape.specs.Walk.{IsThere, outcome_of}
use Rattle.rz_shape.proofs.points.part_along.Given as goal

-- the letters that are left lead from the part to the end
abbrev pub invariant-loop-letter : goal.invariant-loop-letter
invariant-loop-letter l = record {
  there : IsThere l.pool.nodes l.part;
  grows : Grows l.fn.pool.nodes l.pool.nodes;
  is : part_along l.raw l.path (outcome_of l.fn.pool.nodes l.fn.point) ≡ part_along l.raw (drop l.letter-index l.path) (outcome_of l.pool.nodes l.part);
}
