use Rattle.std.proofs.Common.{get_or, take, sym, subst, arith}
use Rattle.std.specs.BTreeSet.{contains}
use Rattle.std.specs.Ordering.{nat_cmp}
use Rattle.std.proofs.lemmas.List.{take_more}
use Rattle.rz_context.specs.Knowledge.{IsAdded, Caches}
use Rattle.rz_context.proofs.Uncached.{IsAdded-more, IsAdded-none}
use Rattle.rz_context.proofs.knowledge.Knowledge.add_uncached.Goals as goal

pub loop-id-init : goal.loop-id-init
loop-id-init c = IsAdded-none (contains nat_cmp c.args.waiting.now) (Caches c.args.self.now c.args.context)

pub loop-id-preserved : goal.loop-id-preserved
loop-id-preserved c =
    let old = contains nat_cmp c.args.waiting.now in
    let new = contains nat_cmp c.add_if_uncached.new.waiting in
    let i = c.loop-id.id-index in
    let x = get_or c.args.ids.now i 0 in
    let cached = Caches c.args.self.now c.args.context in
    subst (IsAdded old new cached) (sym (take_more c.args.ids.now i 0 (omega arith)))
    (IsAdded-more old (contains nat_cmp c.loop-id.waiting) new cached (take i c.args.ids.now) x c.loop-id.invariant
    c.in_ok-add_if_uncached.ensures.kept c.in_ok-add_if_uncached.ensures.only c.in_ok-add_if_uncached.ensures.here)
