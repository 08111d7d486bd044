use Rattle.std.proofs.Common.{arith, ap, length, ◌∙◌, [], ◌∷◌, length-append}
use Rattle.rz_syntax.specs.Lists.{list_at}
use Rattle.rz_syntax.proofs.Linking.{grows_on, grows_one, longer, list_at-last, stacked}
use Rattle.rz_syntax.proofs.lists.Lists.push_all.Goals as goal

pub loop-count-preserved : goal.loop-count-preserved
loop-count-preserved g c =
    let number = c.in_ok-list.ensures.number in
    let grown = c.in_ok-list.ensures.added in
    record {
      within = omega (arith, number, longer _ _ (grows_one _ _ _ grown), ap length grown, length-append c.loop-count.self ((c.index-items-items.result ∷ list_at c.loop-count.self c.loop-count.list) ∷ []));
      added = stacked c.args.items.now c.index-items-items.result c.loop-count.count (list_at c.loop-count.self c.loop-count.list) (list_at c.push.new.self c.in_ok-list.list) (list_at c.args.self.now c.args.others)
          c.loop-count-test.true c.index-items-items.is c.loop-count.invariant.added (ap (list_at c.push.new.self) number ∙ list_at-last _ _ _ grown);
      grows = grows_on _ _ _ c.loop-count.invariant.grows (grows_one _ _ _ grown);
    }
