use Rattle.std.proofs.Common.{◌∷◌, ◌++◌, refl, ap, ◌∙◌, arith}
use Rattle.std.specs.Fmt.{decimal}
use Rattle.rz_drv.proofs.Writings.{written_more}
use Rattle.rz_drv.proofs.encoding.add_numbers.Goals as goal

pub loop-number-preserved : goal.loop-number-preserved
loop-number-preserved c =
    written_more decimal (λ word. 32 ∷ word) c.args.numbers.now c.loop-number.number-index 0 _ c.args.bytes.now c.loop-number.bytes _ (omega arith) refl c.loop-number.invariant
    (c.in_ok-add_word.ensures ∙ ap (λ w. c.loop-number.bytes ++ 32 ∷ w) (c.as_str.ensures.value ∙ c.in_ok-format.ensures.ok))
