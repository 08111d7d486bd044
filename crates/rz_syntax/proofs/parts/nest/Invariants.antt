use Rattle.std.proofs.Common.{◌≡◌, ◌-◌, drop, length}
use Rattle.rz_syntax.specs.Building.{nest}
use Rattle.rz_syntax.proofs.parts.nest.Given as goal

abbrev pub invariant-loop-count : goal.invariant-loop-count
invariant-loop-count l = record {
  forms : l.forms ≡ (nest l.fn.forms (drop (length l.binds - l.count) l.binds) l.fn.body).0;
  outermost : l.body ≡ (nest l.fn.forms (drop (length l.binds - l.count) l.binds) l.fn.body).1;
}
