use Rattle.std.proofs.Common.{◌≡◌, ◌++◌, take, map}
use Rattle.rz_tope_query.proofs.names.add_names.Given as goal

abbrev pub invariant-loop-word : goal.invariant-loop-word
invariant-loop-word l = l.names ≡ l.initial.names ++ map (λ word. word.name) (take l.word-index l.words)
