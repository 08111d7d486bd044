use Rattle.std.proofs.Common.{◌≡◌, ◌++◌, ◌∷◌, take, map}
use Rattle.rz_cube.proofs.paths.append_behind.Given as goal

abbrev pub invariant-loop-path : goal.invariant-loop-path
invariant-loop-path l = l.list ≡ l.initial.list ++ map (λ path. l.side ∷ path) (take l.path-index l.paths)
