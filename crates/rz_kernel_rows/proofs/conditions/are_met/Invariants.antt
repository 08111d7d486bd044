use Rattle.std.proofs.Common.{take, All}
use Rattle.rz_rules.specs.Derivation.{IsMet}
use Rattle.rz_pool.specs.Pool.{Grows}
use Rattle.rz_context.specs.Knowledge.{IsKnown}
use Rattle.rz_rule_text.specs.Letters.{assignment_of}
use Rattle.rz_kernel_rows.proofs.conditions.are_met.Given as goal

-- the conditions so far are met, and the pool grew
abbrev pub invariant-loop-condition : goal.invariant-loop-condition
invariant-loop-condition l = record {
  met : All (IsMet (assignment_of l.initial.pool.nodes l.letters l.name)) (take l.condition-index l.conditions);
  known : IsKnown l.pool.nodes l.known;
  grows : Grows l.initial.pool.nodes l.pool.nodes;
}
