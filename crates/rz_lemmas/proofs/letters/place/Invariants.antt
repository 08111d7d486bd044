use Rattle.std.proofs.Common.{◌≡◌, ◌++◌, drop}
use Rattle.rz_lemmas.specs.Letters.{placed, slots}
use Rattle.rz_lemmas.proofs.letters.place.Given as goal

abbrev pub invariant-loop-sort : goal.invariant-loop-sort
invariant-loop-sort l = l.letters.items ++ placed (drop l.sort-index (slots l.text)) l.left ≡ placed (slots l.text) l.ids
