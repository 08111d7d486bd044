use Rattle.std.proofs.Common.{◌≡◌, ◌++◌, drop}
use Rattle.std.specs.List.{flat_map}
use Rattle.rz_app.specs.Answer.{rank_line}
use Rattle.rz_app.proofs.refutation.refutation.Given as goal

abbrev pub invariant-loop-coordinate : goal.invariant-loop-coordinate
invariant-loop-coordinate l =
    l.text ++ flat_map (rank_line l.names l.greatest) (drop l.coordinate-index l.ranks)
    ≡ l.initial.text ++ flat_map (rank_line l.names l.greatest) l.ranks
