use Rattle.std.proofs.Common.{◌≡◌, map, take}
use Rattle.std.specs.List.{slice_index_or}
use Rattle.rz_tope_tests.proofs.bench.pick.Given as goal

abbrev pub invariant-loop-place : goal.invariant-loop-place
invariant-loop-place l = l.picked.items ≡ map (λ place. slice_index_or l.numbers place 0) (take l.place-index l.places)
