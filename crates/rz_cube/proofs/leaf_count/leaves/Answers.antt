use Rattle.std.proofs.Common.{ℕ, List, sym, subst, arith}
use Rattle.rz_cube.specs.Point.{IsStep}
use Rattle.rz_cube.proofs.Cubes.{leaves_of-some}
use Rattle.rz_cube.proofs.leaf_count.leaves.Goals as goal

pub returns-then-count-len-gt-MOST_LEAVES-clause-wide : goal.returns-then-count-len-gt-MOST_LEAVES-clause-wide
returns-then-count-len-gt-MOST_LEAVES-clause-wide c is =
    let ns = c.args.pool.now.nodes in
    let step = subst (λ (before : List ℕ). IsStep ns before c.loop-next.count c.counted.new.waiting.items c.in_ok-count.count) (sym c.in-Some.ensures.items) c.in_ok-count.ensures.step in
    let some = leaves_of-some ns c.counted.new.waiting.items in
    omega (arith, step.all, c.loop-next.invariant.all, some, c.if-count-len-gt-MOST_LEAVES.true, c.len.ensures, c.counted.new.waiting.ok)

pub loop-next-smaller : goal.loop-next-smaller
loop-next-smaller c =
    let ns = c.args.pool.now.nodes in
    let step = subst (λ (before : List ℕ). IsStep ns before c.loop-next.count c.counted.new.waiting.items c.in_ok-count.count) (sym c.in-Some.ensures.items) c.in_ok-count.ensures.step in
    let some = leaves_of-some ns c.counted.new.waiting.items in
    let more = leaves_of-some ns c.loop-next.waiting.items in
    omega (arith, step.less, some, more)

pub loop-next-preserved : goal.loop-next-preserved
loop-next-preserved c =
    let ns = c.args.pool.now.nodes in
    let step = subst (λ (before : List ℕ). IsStep ns before c.loop-next.count c.counted.new.waiting.items c.in_ok-count.count) (sym c.in-Some.ensures.items) c.in_ok-count.ensures.step in
    record {
      there = step.low;
      all = omega (arith, step.all, c.loop-next.invariant.all);
      few = omega (arith, c.if-count-len-gt-MOST_LEAVES.false, c.len.ensures, c.counted.new.waiting.ok);
    }
