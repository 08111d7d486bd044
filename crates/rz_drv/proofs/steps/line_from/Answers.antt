use Rattle.std.proofs.Common.{◌++◌, ◌∙◌, arith}
use Rattle.std.proofs.lemmas.List.{take-append-drop}
use Rattle.rz_drv.proofs.Grammar.{line_found}
use Rattle.rz_drv.proofs.steps.line_from.Goals as goal

pub returns-clause-found : goal.returns-clause-found
returns-clause-found c =
    line_found c.args.parts.now c.in-Some.says c.split_at.result.0.now c.split_at.result.1.now c.in_ok-from_slice.field-0 c.in-Some.ensures.kind c.in-Some.ensures.ids c.in_ok-from_slice.ensures
    ((λ i. c.split_at.ensures.front i ++ c.split_at.ensures.back i) ∙ take-append-drop _ c.deref.result.now ∙ c.deref.ensures.value) (omega (arith, c.if-parts.false)) c.requires
