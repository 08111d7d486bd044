use Rattle.std.proofs.Common.{◌≡◌, List, ℕ, ◌∷◌, [], ◌++◌, map, sym, ap, ◌∙◌, append_assoc}
use Rattle.std.specs.Prelude.{codes}
use Rattle.std.specs.Fmt.{decimal}
use Rattle.std.proofs.lemmas.List.{map-append}
use Rattle.std.proofs.lemmas.Result.{on_ok_weaker}
use Rattle.rz_rules.specs.Form.{form, is_numbered, word_of_kind}
use Rattle.rz_rules.specs.File.{NodeItem, name_words, words_of}
use Rattle.rz_drv.specs.Words.{own_number, number_words, spaced}
use Rattle.rz_drv.proofs.Writings.{put_word, put_words, put_end}
use Rattle.rz_drv.proofs.encoding.add_node.Goals as goal

pub returns : goal.returns
returns c =
    let node = c.args.node.now in
    let old = c.args.bytes.now in
    let kind = put_word old c.push.new.self c.add_word.new.bytes (codes "n") [] (word_of_kind node.kind) c.in_ok-push.ensures.ok (c.in_ok-add_word.ensures ∙ ap (λ w. c.push.new.self ++ 32 ∷ w) c.word.ensures) in
    let name = put_words old c.add_word.new.bytes c.add_name.new.bytes (codes "n") (word_of_kind node.kind ∷ []) (name_words node) kind c.in_ok-add_name.ensures in
    let number = put_words old c.add_name.new.bytes c.add_own_number.new.bytes (codes "n") (word_of_kind node.kind ∷ name_words node) (number_words node) name c.in_ok-add_own_number.ensures in
    let kids = put_words old c.add_own_number.new.bytes c.add_numbers.new.bytes (codes "n") (word_of_kind node.kind ∷ name_words node ++ number_words node) (map decimal node.kids) number
    (c.in_ok-add_numbers.ensures ∙ ap (λ ns. c.add_own_number.new.bytes ++ spaced (map decimal ns)) c.as_slice.ensures.value) in
    let own : List ℕ = own_number (is_numbered (form node.kind).role) node.number in
    let words : (name_words node ++ number_words node) ++ map decimal node.kids ≡ name_words node ++ map decimal (own ++ node.kids) =
    append_assoc (name_words node) (number_words node) (map decimal node.kids) ∙ ap (λ ws. name_words node ++ ws) (sym (map-append decimal own node.kids)) in
    on_ok_weaker c.push-2.result
    (put_end old c.add_numbers.new.bytes c.push-2.new.self _ (words_of (NodeItem node)) (ap (λ ws. codes "n" ∷ word_of_kind node.kind ∷ ws) words) kids) c.push-2.ensures.ok
