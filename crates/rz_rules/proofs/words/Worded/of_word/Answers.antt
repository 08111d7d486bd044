use Rattle.std.proofs.Common.{◌≡◌, Some, None, true, sym, ap, ◌∙◌}
use Rattle.std.specs.Str.{bytes_eq}
use Rattle.rz_rules.proofs.Tables.{with_word, found_is, found_at, found_none}
use Rattle.rz_rules.proofs.words.Worded.of_word.Goals as goal

pub returns-then-eq-clause-only : goal.returns-then-eq-clause-only
returns-then-eq-clause-only g c =
    let word_of = g.Self.Worded.word_of in
    let items = c.every-item-items.result.now in
    let x = c.item-item.result in
    let same : bytes_eq (word_of x) c.args.word.now ≡ true = ap (λ w. bytes_eq w c.args.word.now) (sym c.word.ensures ∙ sym c.as_bytes.ensures.value) ∙ (sym c.eq.ensures ∙ c.if-eq.true) in
    found_is word_of items c.args.word.now (Some x) (λ item. ap (with_word word_of (word_of item)) c.every-item-items.ensures ∙ g.met.Self.Worded.words_are_distinct item)
    (found_at word_of items c.args.word.now c.loop-item.item-index x c.loop-item-test.true c.item-item.is same c.loop-item.invariant)

pub returns-clause-only : goal.returns-clause-only
returns-clause-only g c =
    let word_of = g.Self.Worded.word_of in
    let items = c.every-item-items.result.now in
    found_is word_of items c.args.word.now None (λ item. ap (with_word word_of (word_of item)) c.every-item-items.ensures ∙ g.met.Self.Worded.words_are_distinct item)
    (found_none word_of items c.args.word.now c.loop-item.item-index c.loop-item-test.false c.loop-item.invariant)
