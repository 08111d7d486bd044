use Rattle.std.proofs.Common.{◌≡◌, take}
use Rattle.rz_rules.proofs.nodes.Kids.from_slice.Given as goal

abbrev pub invariant-loop-id : goal.invariant-loop-id
invariant-loop-id l = l.kids ≡ take l.id-index l.ids
