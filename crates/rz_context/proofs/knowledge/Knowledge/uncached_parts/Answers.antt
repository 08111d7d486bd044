use Rattle.std.proofs.Common.{◌≡◌, ℕ, ◌<◌, Bool, true, false, List, [], ◌∷◌, length, refl, sym, ap, subst, true≢false, arith}
use Rattle.std.specs.List.{list_any}
use Rattle.std.specs.Ordering.{nat_cmp, eq_by_cmp}
use Rattle.std.specs.BTreeSet.{contains}
use Rattle.rz_context.specs.Knowledge.{IsAdded, Caches}
use Rattle.rz_context.proofs.Uncached.{IsListing-start, IsListing-push, IsCaching-end}
use Rattle.rz_context.proofs.knowledge.Knowledge.uncached_parts.Goals as goal

none : (keys : List ℕ) (test : ℕ → Bool) → (0 < length keys → false ≡ true) → list_any test keys ≡ false
none [] test h = refl
none (k ∷ keys) test h = absurd (true≢false (sym (h (omega arith))))

pub loop-part-init : goal.loop-part-init
loop-part-init c =
    rw c.new-parts.ensures.items
    (IsListing-start c.args.pool.now.nodes c.args.id (Caches c.args.self.now c.args.context) (contains nat_cmp c.new-waiting.result) (contains nat_cmp c.add_uncached.new.waiting)
    c.requires (λ q. ap (list_any (eq_by_cmp nat_cmp q)) c.new-waiting.ensures.empty) c.in_ok-add_uncached.ensures)

pub loop-part-preserved : goal.loop-part-preserved
loop-part-preserved c =
    let popped = c.in-Some.ensures in
    rw c.in_ok-push.ensures.items
    (IsListing-push c.args.pool.now.nodes c.args.id (Caches c.args.self.now c.args.context) (contains nat_cmp c.loop-part.waiting) c.loop-part.parts.items c.loop-part.invariant
    c.in-Some.part c.node.result.now popped.member c.node.ensures.node c.node.ensures.form.kids
    (contains nat_cmp c.pop_last.new.self) (contains nat_cmp c.add_uncached-in-Some.new.waiting)
    popped.greatest popped.updates.0 popped.updates.2
    (subst (IsAdded (contains nat_cmp c.pop_last.new.self) (contains nat_cmp c.add_uncached-in-Some.new.waiting) (Caches c.args.self.now c.args.context)) c.as_slice.ensures.value c.in_ok-add_uncached-2.ensures))

pub returns : goal.returns
returns c = IsCaching-end c.args.pool.now.nodes c.args.id (Caches c.args.self.now c.args.context) (contains nat_cmp c.loop-part.waiting) c.loop-part.parts.items c.loop-part.invariant
    (λ q. none c.loop-part.waiting.keys (eq_by_cmp nat_cmp q) c.in_default.ensures.variant.1)
