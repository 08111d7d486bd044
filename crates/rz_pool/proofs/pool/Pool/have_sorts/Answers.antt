use Rattle.std.proofs.Common.{◌<◌, length, refl, sym, true≢false, arith}
use Rattle.std.proofs.lemmas.List.Elements.{All-more}
use Rattle.rz_rules.specs.declared.kinds.Sort.TheVariants.{Cube}
use Rattle.rz_rules.specs.Form.{plain}
use Rattle.rz_pool.proofs.Sorts.{sort_at, sorts_more}
use Rattle.rz_pool.proofs.pool.Pool.have_sorts.Goals as goal

pub returns-then-not-has_sort : goal.returns-then-not-has_sort
returns-then-not-has_sort c = (
  λ h. absurd (true≢false (sym h)),
  λ w. c.if-not-has_sort.ensures.1 (w.0 c.loop-i.i 0 (omega arith), sort_at c.args.self.now.nodes c.args.ids.now c.args.slots.now c.loop-i.i (plain Cube) (omega arith) w.1),
)

pub loop-i-preserved : goal.loop-i-preserved
loop-i-preserved c =
    let here = c.if-not-has_sort.ensures.0 refl in
    record {
      live = All-more (λ id. id < length c.args.self.now.nodes) c.args.ids.now c.loop-i.i 0 (omega arith) c.loop-i.invariant.live here.0;
      sorts = sorts_more c.args.self.now.nodes c.args.ids.now c.args.slots.now c.loop-i.i (plain Cube) (omega arith) (omega arith) c.loop-i.invariant.sorts here.1;
    }
