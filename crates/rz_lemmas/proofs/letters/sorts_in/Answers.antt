use Rattle.std.proofs.Common.{◌++◌, ◌∷◌, [], List, append_assoc, ap, subst, ◌∙◌}
use Rattle.rz_rules.specs.declared.symbols.Symbol.{Symbol}
use Rattle.rz_rules.specs.declared.symbols.Symbol.TheVariants as symbol
use Rattle.rz_lemmas.proofs.Slots.{IsSorting, letter_is_one, sorting_letter}
use Rattle.rz_lemmas.proofs.letters.sorts_in.Goals as goal

pub bounds-sorts-letter : goal.bounds-sorts-letter
bounds-sorts-letter c =
    let h = subst (λ (left : List Symbol). IsSorting c.args.text.now left c.loop-symbol.sorts) (c.in-Some.ensures.cases.0 ∙ ap (λ (s : Symbol). c.in-Some.others.now ++ s ∷ []) c.in-Letter.is) c.loop-symbol.invariant in
    letter_is_one c.args.text.now c.in-Some.others.now h.behind c.in-Letter.letter c.requires
    (h.split ∙ append_assoc c.in-Some.others.now (symbol.Letter c.in-Letter.letter ∷ []) h.behind)

pub loop-symbol-preserved-in-Letter : goal.loop-symbol-preserved-in-Letter
loop-symbol-preserved-in-Letter c =
    let h = subst (λ (left : List Symbol). IsSorting c.args.text.now left c.loop-symbol.sorts) (c.in-Some.ensures.cases.0 ∙ ap (λ (s : Symbol). c.in-Some.others.now ++ s ∷ []) c.in-Letter.is) c.loop-symbol.invariant in
    sorting_letter c.args.text.now c.in-Some.others.now c.in-Letter.letter c.loop-symbol.sorts c.requires h
