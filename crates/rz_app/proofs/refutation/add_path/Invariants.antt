use Rattle.std.proofs.Common.{◌≡◌, ◌++◌, drop}
use Rattle.rz_app.specs.Answer.{path_text}
use Rattle.rz_app.proofs.refutation.add_path.Given as goal

abbrev pub invariant-loop-letter : goal.invariant-loop-letter
invariant-loop-letter l = l.text ++ path_text (drop l.letter-index l.path) ≡ l.initial.text ++ path_text l.path
