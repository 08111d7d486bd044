use Rattle.std.proofs.Common.{◌≡◌, ◌<◌, length, take, All}
use Rattle.rz_pool.proofs.Sorts.{sorts_of_ids, sorts_of_slots}
use Rattle.rz_pool.proofs.pool.Pool.have_sorts.Given as goal

-- the ids so far have the sorts of the places so far
abbrev pub invariant-loop-i : goal.invariant-loop-i
invariant-loop-i l = record {
  live : All (λ id. id < length l.self.nodes) (take l.i l.ids);
  sorts : sorts_of_ids l.self.nodes (take l.i l.ids) ≡ sorts_of_slots (take l.i l.slots);
}
