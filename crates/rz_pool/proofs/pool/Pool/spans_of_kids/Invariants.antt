use Rattle.std.proofs.Common.{◌≡◌, take}
use Rattle.rz_rules.specs.declared.kinds.Space.{Space}
use Rattle.rz_rules.specs.Tree.{tree_of}
use Rattle.rz_pool.specs.Spans.{span_of}
use Rattle.rz_pool.proofs.FreeBounds.{bound_of}
use Rattle.rz_pool.proofs.FreeLeasts.{least_of}
use Rattle.rz_pool.proofs.pool.Pool.spans_of_kids.Given as goal

-- the spans of the kids so far
abbrev pub invariant-loop-i : goal.invariant-loop-i
invariant-loop-i l = record {
  bound : (space : Space) → (span_of l.spans space).bound ≡ bound_of (tree_of l.self.nodes) space l.slots (take l.i l.ids);
  least : (space : Space) → (span_of l.spans space).least ≡ least_of (tree_of l.self.nodes) space l.slots (take l.i l.ids);
}
