use Rattle.std.proofs.Common.{ap, sym, ◌∙◌}
use Rattle.rz_rule_text.specs.Finding.{last_words}
use Rattle.rz_rule_text.proofs.Found.{no_judgment}
use Rattle.rz_rule_text.proofs.letters.behind_judgments.Goals as goal

pub loop-symbol-preserved : goal.loop-symbol-preserved
loop-symbol-preserved c =
    let end = c.loop-symbol.end.now in
    sym (no_judgment c.in-Some.symbol.now end c.in-Some.others.now c.in_default-symbol.not-Says)
    ∙ ap (last_words end) (sym c.in-Some.ensures.cases.0) ∙ c.loop-symbol.invariant
