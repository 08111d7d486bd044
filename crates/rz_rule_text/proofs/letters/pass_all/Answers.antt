use Rattle.std.proofs.Common.{◌+◌, List, All, IsTrue, drop, get_or, subst}
use Rattle.std.proofs.lemmas.List.Elements.{All-head}
use Rattle.rz_rules.specs.declared.symbols.Symbol.{Symbol}
use Rattle.rz_rule_text.specs.Finding.{symbol_fits}
use Rattle.rz_rule_text.proofs.Found.{IsUnderway, answers_passed, at_start, left_at, past}
use Rattle.rz_rule_text.proofs.letters.pass_all.Goals as goal

pub loop-symbol-init : goal.loop-symbol-init
loop-symbol-init c = at_start c.args.pool.now.nodes c.args.text.now c.args.walk.now c.requires.walk c.requires.fits

pub pass-requires-clause-fits : goal.pass-requires-clause-fits
pass-requires-clause-fits c =
    let P : Symbol → Type 0 = λ symbol. IsTrue (symbol_fits symbol) in
    let text = c.args.text.now in
    let i = c.loop-symbol.symbol-index in
    All-head P (get_or text i _) (drop (i + 1) text) (subst (All P) (left_at text i _ c.loop-symbol-test.true) c.loop-symbol.invariant.fits)

pub loop-symbol-preserved : goal.loop-symbol-preserved
loop-symbol-preserved c =
    let ns = c.args.pool.now.nodes in
    let text = c.args.text.now in
    let i = c.loop-symbol.symbol-index in
    past ns text c.args.walk.now (get_or text i _) (drop (i + 1) text) c.loop-symbol.walk c.pass.new.walk
    (answers_passed ns (get_or text i _) c.loop-symbol.walk c.pass.new.walk c.in_ok-pass.field-0 c.if-not-branch.false c.in_ok-pass.ensures.step)
    c.in_ok-pass.ensures.walk
    (subst (λ (left : List Symbol). IsUnderway ns text c.args.walk.now left c.loop-symbol.walk) (left_at text i _ c.loop-symbol-test.true) c.loop-symbol.invariant)
