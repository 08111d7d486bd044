use Rattle.std.proofs.Common.{◌≡◌, None, Some}
use Rattle.rz_drv.proofs.Decimals.{none_spelled}
use Rattle.rz_drv.proofs.numbers.numbers_of.Goals as goal

pub returns-in_default-clause-none : goal.returns-in_default-clause-none
returns-in_default-clause-none c =
    none_spelled c.args.words.now c.loop-word.word-index c.loop-word-test.true
    (λ n small is. let e : None ≡ Some n = c.in_default.ensures.only n small is in absurd cc)
