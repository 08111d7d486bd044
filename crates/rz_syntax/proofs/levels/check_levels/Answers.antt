use Rattle.std.proofs.Common.{arith, ◌<◌, ◌≤◌, ap, ◌∙◌, sym, subst}
use Rattle.rz_syntax.specs.declared.levels.TheConstants.{TOO_DEEP}
use Rattle.rz_syntax.specs.declared.levels.Bend.{Bend}
use Rattle.rz_syntax.specs.declared.levels.Nesting.{Nesting}
use Rattle.rz_syntax.specs.Levels.{bent, IsLow}
use Rattle.rz_syntax.proofs.Nesting.{rises, stays_low, level-more, too_nested, not_more}
use Rattle.rz_syntax.proofs.levels.check_levels.Goals as goal

pub loop-number-preserved : goal.loop-number-preserved
loop-number-preserved c =
    let is = level-more c.args.tokens.now c.loop-number.number _ c.loop-number.nesting c.enter.new.nesting c.loop-number-test.true c.loop-number.invariant.is (c.in_ok-enter.ensures ∙ ap (λ (b : Bend). bent b c.loop-number.nesting) c.bend_of.ensures) in
    let low : IsLow c.enter.new.nesting = subst IsLow (sym c.in_ok-enter.ensures) (stays_low c.bend_of.result c.loop-number.nesting c.loop-number.invariant.low (subst (λ (n : Nesting). n.level < TOO_DEEP) c.in_ok-enter.ensures c.if-nesting-ge-TOO_DEEP.false)) in
    record { is = is; low = low; before = not_more c.args.tokens.now c.loop-number.number c.enter.new.nesting is low.level c.loop-number.invariant.before }

pub returns-then-nesting-ge-TOO_DEEP-clause-deep : goal.returns-then-nesting-ge-TOO_DEEP-clause-deep
returns-then-nesting-ge-TOO_DEEP-clause-deep c =
    let is = level-more c.args.tokens.now c.loop-number.number _ c.loop-number.nesting c.enter.new.nesting c.loop-number-test.true c.loop-number.invariant.is (c.in_ok-enter.ensures ∙ ap (λ (b : Bend). bent b c.loop-number.nesting) c.bend_of.ensures) in
    let most : c.enter.new.nesting.level ≤ TOO_DEEP = subst (λ (n : Nesting). n.level ≤ TOO_DEEP) (sym c.in_ok-enter.ensures) (rises c.bend_of.result c.loop-number.nesting c.loop-number.invariant.low) in
    too_nested c.args.tokens.now c.loop-number.number c.enter.new.nesting c.loop-number-test.true is (omega (arith, most, c.if-nesting-ge-TOO_DEEP.true)) c.loop-number.invariant.before
