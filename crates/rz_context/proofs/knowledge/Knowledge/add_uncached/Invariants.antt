use Rattle.std.proofs.Common.{take}
use Rattle.std.specs.BTreeSet.{contains}
use Rattle.std.specs.Ordering.{nat_cmp}
use Rattle.rz_context.specs.Knowledge.{IsAdded, Caches}
use Rattle.rz_context.proofs.knowledge.Knowledge.add_uncached.Given as goal

-- the ids so far wait, or are cached
abbrev pub invariant-loop-id : goal.invariant-loop-id
invariant-loop-id l = IsAdded (contains nat_cmp l.initial.waiting) (contains nat_cmp l.waiting) (Caches l.self l.context) (take l.id-index l.ids)
