use Rattle.std.proofs.Common.{Some, refl, sym, true≢false, arith}
use Rattle.std.specs.Prelude.{slice_get}
use Rattle.rz_rules.specs.declared.kinds.Sort.TheVariants.{Cube}
use Rattle.rz_rules.specs.Form.{plain}
use Rattle.rz_drv.proofs.Sorts.{same_at, same_more}
use Rattle.rz_drv.proofs.outlines.Outline.have_slots.Goals as goal

pub returns-then-not-has_sort : goal.returns-then-not-has_sort
returns-then-not-has_sort c = (
  λ h. absurd (true≢false (sym h)),
  λ e. c.if-not-has_sort.ensures.1 (same_at (slice_get c.args.self.now.sorts.items) (λ slot. Some slot.sort) c.args.ids.now c.args.slots.now c.loop-i.i 0 (plain Cube) (omega arith) e),
)

pub loop-i-preserved : goal.loop-i-preserved
loop-i-preserved c =
    same_more (slice_get c.args.self.now.sorts.items) (λ slot. Some slot.sort) c.args.ids.now c.args.slots.now c.loop-i.i 0 (plain Cube) (omega arith) (omega arith) c.loop-i.invariant
    (c.if-not-has_sort.ensures.0 refl)
