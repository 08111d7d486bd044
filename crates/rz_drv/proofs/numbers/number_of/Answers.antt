use Rattle.std.proofs.Common.{◌≡◌, true, false, subst, sym, ◌∙◌}
use Rattle.std.proofs.lemmas.Str.{IsUtf8-from_ascii}
use Rattle.std.proofs.lemmas.Fmt.{IsAscii-decimal}
use Rattle.std.specs.Fmt.{decimal}
use Rattle.std.specs.Str.{IsUtf8}
use Rattle.rz_drv.specs.Numeral.{IsNumeralWord}
use Rattle.rz_drv.proofs.Decimals.{IsNumeralWord-decimal, decimal_parsed, parsed_decimal}
use Rattle.rz_drv.proofs.numbers.number_of.Goals as goal

pub returns-then-not-is_numeral-clause-only : goal.returns-then-not-is_numeral-clause-only
returns-then-not-is_numeral-clause-only c = λ n small is. let h : false ≡ true = c.if-not-is_numeral.ensures.1 (subst IsNumeralWord is (IsNumeralWord-decimal n small)) in absurd cc

pub returns-in-Ok-clause-found : goal.returns-in-Ok-clause-found
returns-in-Ok-clause-found c =
    rw (c.ok.ensures.value, ← c.in-Ok.ensures.cases.0) (decimal_parsed c.in-Ok.text.now c.parse.result (subst IsNumeralWord (sym c.in-Ok.ensures.cases.0) (c.is_numeral.ensures.0 c.if-not-is_numeral.false)) c.parse.ensures.value.0)

pub returns-in-Ok-clause-only : goal.returns-in-Ok-clause-only
returns-in-Ok-clause-only c = λ n small is. c.ok.ensures.value ∙ parsed_decimal c.in-Ok.text.now c.parse.result c.parse.ensures.value.0 n small (is ∙ sym c.in-Ok.ensures.cases.0)

pub returns-in-Err-clause-only : goal.returns-in-Err-clause-only
returns-in-Err-clause-only c = λ n small is. absurd (c.in-Err.ensures.cases.0 (subst IsUtf8 is (IsUtf8-from_ascii (decimal n) (IsAscii-decimal n small))))
