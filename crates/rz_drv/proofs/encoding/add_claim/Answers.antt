use Rattle.std.proofs.Common.{◌∷◌, [], ◌++◌, refl, ap, ◌∙◌}
use Rattle.std.specs.Prelude.{codes}
use Rattle.std.specs.Fmt.{decimal}
use Rattle.std.proofs.lemmas.Result.{on_ok_weaker}
use Rattle.rz_rules.specs.File.{words_of}
use Rattle.rz_drv.specs.Part.{claim_item}
use Rattle.rz_drv.proofs.Writings.{put_word, put_words, put_end}
use Rattle.rz_drv.proofs.encoding.add_claim.Goals as goal

pub returns : goal.returns
returns c =
    let claim = c.args.claim.now in
    let old = c.args.bytes.now in
    let one = put_word old c.push.new.self c.add_word.new.bytes (codes "c") [] claim.0 c.in_ok-push.ensures.ok (c.in_ok-add_word.ensures ∙ ap (λ w. c.push.new.self ++ 32 ∷ w) c.as_str.ensures.value) in
    let two = put_words old c.add_word.new.bytes c.add_numbers.new.bytes (codes "c") (claim.0 ∷ []) (decimal claim.1 ∷ []) one c.in_ok-add_numbers.ensures in
    on_ok_weaker c.push-2.result (put_end old c.add_numbers.new.bytes c.push-2.new.self _ (words_of (claim_item claim)) refl two) c.push-2.ensures.ok
