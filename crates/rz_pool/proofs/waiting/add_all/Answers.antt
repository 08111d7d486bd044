use Rattle.std.proofs.Common.{true, cond, get_or, refl, ap, ◌∙◌, arith}
use Rattle.std.specs.Ordering.{nat_cmp, is_eq}
use Rattle.std.specs.BTreeSet.{contains}
use Rattle.rz_pool.proofs.Orders.{list_any-joins}
use Rattle.rz_pool.proofs.waiting.add_all.Goals as goal

pub loop-number-preserved : goal.loop-number-preserved
loop-number-preserved c q =
    let i = c.loop-number.number-index in
    let x = get_or c.args.numbers.now i 0 in
    c.in_ok-insert.ensures.updates.0 q
    ∙ (ap (cond (is_eq (nat_cmp x q)) true) (c.loop-number.invariant q)
    ∙ list_any-joins q x (contains nat_cmp c.args.waiting.now q) c.args.numbers.now i (omega arith) refl)
