use Rattle.std.proofs.Common.{ℕ, List, sym, subst, arith}
use Rattle.rz_kernel_rows.specs.Leaves.{IsStep}
use Rattle.rz_kernel_rows.proofs.Cubes.{leaves_of-some}
use Rattle.rz_kernel_rows.proofs.leaves.is_narrow.Goals as goal

pub returns-then-count-len-gt-MOST_LEAVES : goal.returns-then-count-len-gt-MOST_LEAVES
returns-then-count-len-gt-MOST_LEAVES c =
    let ns = c.args.pool.now.nodes in
    let step = subst (λ (before : List ℕ). IsStep ns before c.loop-next.count c.counted.new.waiting.items c.in_ok-count.count) (sym c.in-Some.ensures.items) c.in_ok-count.ensures.step in
    let some = leaves_of-some ns c.counted.new.waiting.items in (
      λ wrong. absurd cc,
      λ few. absurd (omega (arith, few, step.all, c.loop-next.invariant.all, some, c.if-count-len-gt-MOST_LEAVES.true, c.len.ensures, c.counted.new.waiting.ok)),
    )

pub loop-next-smaller : goal.loop-next-smaller
loop-next-smaller c =
    let ns = c.args.pool.now.nodes in
    let step = subst (λ (before : List ℕ). IsStep ns before c.loop-next.count c.counted.new.waiting.items c.in_ok-count.count) (sym c.in-Some.ensures.items) c.in_ok-count.ensures.step in
    let some = leaves_of-some ns c.counted.new.waiting.items in
    let more = leaves_of-some ns c.loop-next.waiting.items in
    omega (arith, step.less, some, more)

pub loop-next-preserved : goal.loop-next-preserved
loop-next-preserved c =
    let ns = c.args.pool.now.nodes in
    let step = subst (λ (before : List ℕ). IsStep ns before c.loop-next.count c.counted.new.waiting.items c.in_ok-count.count) (sym c.in-Some.ensures.items) c.in_ok-count.ensures.step in
    record {
      there = step.low;
      all = omega (arith, step.all, c.loop-next.invariant.all);
      few = omega (arith, c.if-count-len-gt-MOST_LEAVES.false, c.len.ensures, c.counted.new.waiting.ok);
    }
