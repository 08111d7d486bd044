use Rattle.std.proofs.Common.{◌≡◌, ◌+◌, ℕ, Some, get_or, slice_get, take, sym, subst, arith}
use Rattle.std.specs.List.{AllZip}
use Rattle.std.proofs.lemmas.List.Elements.{Contains-get_or}
use Rattle.rz_rules.specs.declared.judgments.Line.{Line}
use Rattle.rz_export.specs.Moves.{IsMovedLine}
use Rattle.rz_export.proofs.Pushes.{zip_more}
use Rattle.rz_export.proofs.moves.moved_lines.Goals as goal

pub moved_line-requires-clause-named : goal.moved_line-requires-clause-named
moved_line-requires-clause-named c =
    c.requires.named (get_or c.args.steps.now c.loop-step.step-index 0) c.line.result.now
    (Contains-get_or c.args.steps.now c.loop-step.step-index 0 (omega arith)) c.line.ensures.line

pub moved_line-requires-clause-premises : goal.moved_line-requires-clause-premises
moved_line-requires-clause-premises c =
    c.requires.premises (get_or c.args.steps.now c.loop-step.step-index 0) c.line.result.now
    (Contains-get_or c.args.steps.now c.loop-step.step-index 0 (omega arith)) c.line.ensures.line

pub loop-step-preserved : goal.loop-step-preserved
loop-step-preserved c =
    let steps = c.args.steps.now in
    let i = c.loop-step.step-index in
    let Moved : ℕ → Line → Type 0 = λ step new. (old : Line) × (slice_get c.args.log.now step ≡ Some old) × IsMovedLine c.args.ids.now steps old new in
    subst (AllZip Moved (take (i + 1) steps)) (sym c.in_ok-push.ensures.ok)
    (zip_more Moved steps i 0 c.loop-step.lines c.in_ok-moved_line.field-0 (omega arith) c.loop-step.invariant
    (c.line.result.now, c.line.ensures.line, c.in_ok-moved_line.ensures))
