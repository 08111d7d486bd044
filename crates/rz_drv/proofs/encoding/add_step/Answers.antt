use Rattle.std.proofs.Common.{◌∷◌, [], ◌++◌, map, sym, ap, ◌∙◌}
use Rattle.std.specs.Prelude.{codes}
use Rattle.std.specs.Fmt.{decimal}
use Rattle.std.proofs.lemmas.List.{map-append}
use Rattle.std.proofs.lemmas.Result.{on_ok_weaker}
use Rattle.rz_rules.specs.Judgment.{context_of, kind_of, parts_of, word_of_judgment_kind}
use Rattle.rz_rules.specs.Table.{word_of_row}
use Rattle.rz_rules.specs.File.{StepItem, words_of}
use Rattle.rz_drv.specs.Words.{spaced}
use Rattle.rz_drv.proofs.Writings.{put_word, put_words, put_end}
use Rattle.rz_drv.proofs.encoding.add_step.Goals as goal

pub returns : goal.returns
returns c =
    let line = c.args.step.now in
    let old = c.args.bytes.now in
    let row = word_of_row line.row in
    let kind = word_of_judgment_kind (kind_of line.says) in
    let number = decimal line.number in
    let context = decimal (context_of line.says) in
    let one = put_word old c.push.new.self c.add_word.new.bytes (codes "s") [] row c.in_ok-push.ensures.ok (c.in_ok-add_word.ensures ∙ ap (λ w. c.push.new.self ++ 32 ∷ w) c.word.ensures) in
    let two = put_words old c.add_word.new.bytes c.add_numbers.new.bytes (codes "s") (row ∷ []) (number ∷ []) one c.in_ok-add_numbers.ensures in
    let three = put_word old c.add_numbers.new.bytes c.add_word-2.new.bytes (codes "s") (row ∷ number ∷ []) kind two
    (c.in_ok-add_word-2.ensures ∙ ap (λ w. c.add_numbers.new.bytes ++ 32 ∷ w) (c.word-2.ensures ∙ ap word_of_judgment_kind c.kind.ensures)) in
    let four = put_words old c.add_word-2.new.bytes c.add_numbers-2.new.bytes (codes "s") (row ∷ number ∷ kind ∷ []) (context ∷ []) three
    (c.in_ok-add_numbers-2.ensures ∙ ap (λ n. c.add_word-2.new.bytes ++ spaced (decimal n ∷ [])) c.context.ensures) in
    let five = put_words old c.add_numbers-2.new.bytes c.add_numbers-3.new.bytes (codes "s") (row ∷ number ∷ kind ∷ context ∷ []) (map decimal (parts_of line.says)) four
    (c.in_ok-add_numbers-3.ensures ∙ ap (λ ns. c.add_numbers-2.new.bytes ++ spaced (map decimal ns)) (c.as_slice.ensures.value ∙ c.parts.ensures)) in
    let six = put_words old c.add_numbers-3.new.bytes c.add_numbers-4.new.bytes (codes "s") (row ∷ number ∷ kind ∷ context ∷ map decimal (parts_of line.says)) (map decimal line.from) five
    (c.in_ok-add_numbers-4.ensures ∙ ap (λ ns. c.add_numbers-3.new.bytes ++ spaced (map decimal ns)) c.as_slice-2.ensures) in
    on_ok_weaker c.push-2.result
    (put_end old c.add_numbers-4.new.bytes c.push-2.new.self _ (words_of (StepItem line))
    (ap (λ ws. codes "s" ∷ row ∷ number ∷ kind ∷ context ∷ ws) (sym (map-append decimal (parts_of line.says) line.from))) six) c.push-2.ensures.ok
