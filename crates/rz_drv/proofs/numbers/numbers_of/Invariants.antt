use Rattle.std.proofs.Common.{◌≡◌, ◌<◌, ◌^◌, map, take, All}
use Rattle.std.specs.Fmt.{decimal}
use Rattle.rz_drv.proofs.numbers.numbers_of.Given as goal

-- the numbers so far are those of the words so far
abbrev pub invariant-loop-word : goal.invariant-loop-word
invariant-loop-word l = record {
  same : map decimal l.numbers.items ≡ map (λ w. w.now) (take l.word-index l.words);
  small : All (λ n. n < 2 ^ 64) l.numbers.items;
}
