use Rattle.std.proofs.Common.{◌≡◌, map, take, get_or}
use Rattle.rz_kernel.proofs.places.kids_at.Given as goal

-- the places of the kids so far
abbrev pub invariant-loop-id : goal.invariant-loop-id
invariant-loop-id l = l.kids ≡ map (λ id. get_or l.places id 0) (take l.id-index l.ids)
