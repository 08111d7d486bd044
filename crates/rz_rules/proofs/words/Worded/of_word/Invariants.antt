use Rattle.std.proofs.Common.{◌≡◌, drop}
use Rattle.rz_rules.proofs.Tables.{with_word}
use Rattle.rz_rules.proofs.words.Worded.of_word.Given as goal

-- what is found among the items that are left is what is found among all
abbrev pub invariant-loop-item : goal.invariant-loop-item
invariant-loop-item g l =
    let word_of = g.Self.Worded.word_of in
    with_word word_of l.word (drop l.item-index l.item-items) ≡ with_word word_of l.word l.item-items
