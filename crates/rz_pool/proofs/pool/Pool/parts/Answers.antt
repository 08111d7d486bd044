use Rattle.std.proofs.Common.{◌≡◌, ℕ, ◌<◌, Bool, true, false, cond, ◌||◌, List, [], ◌∷◌, length, refl, sym, ap, ◌∙◌, true≢false, arith}
use Rattle.std.specs.List.{list_any}
use Rattle.std.specs.Ordering.{nat_cmp, is_eq, eq_by_cmp}
use Rattle.std.specs.BTreeSet.{contains}
use Rattle.rz_pool.proofs.Orders.{equal_numbers}
use Rattle.rz_pool.proofs.Listing.{IsListing-start, IsListing-push, ListsParts-end}
use Rattle.rz_pool.proofs.pool.Pool.parts.Goals as goal

none : (keys : List ℕ) (test : ℕ → Bool) → (0 < length keys → false ≡ true) → list_any test keys ≡ false
none [] test h = refl
none (k ∷ keys) test h = absurd (true≢false (sym (h (omega arith))))

at_first : (b : Bool) → cond b true false ≡ true → b ≡ true
at_first true h = refl
at_first false h = h

pub loop-part-init : goal.loop-part-init
loop-part-init c =
    let updates = c.in_ok-insert.ensures.updates in
    let empty : (q : ℕ) → contains nat_cmp c.new-waiting.result q ≡ false = λ q. ap (list_any (eq_by_cmp nat_cmp q)) c.new-waiting.ensures.empty in
    rw c.new-parts.ensures.items
    (IsListing-start c.args.self.now.nodes c.args.id (contains nat_cmp c.insert.new.self) c.requires updates.1
    (λ q h. sym (equal_numbers c.args.id q
    (at_first (is_eq (nat_cmp c.args.id q)) (sym (ap (cond (is_eq (nat_cmp c.args.id q)) true) (empty q)) ∙ (sym (updates.0 q) ∙ h))))))

pub loop-part-preserved : goal.loop-part-preserved
loop-part-preserved c =
    let popped = c.in-Some.ensures in
    let part = c.in-Some.part in
    let node = c.node.result.now in
    rw c.in_ok-push.ensures.items
    (IsListing-push c.args.self.now.nodes c.args.id (contains nat_cmp c.loop-part.waiting) c.loop-part.parts.items c.loop-part.invariant
    part node popped.member c.node.ensures.node c.node.ensures.tree c.node.ensures.form.kids
    (contains nat_cmp c.pop_last.new.self) (contains nat_cmp c.add_all.new.waiting)
    popped.greatest popped.updates.0 popped.updates.2
    (λ q. c.in_ok-add_all.ensures q ∙ ap (λ ids. contains nat_cmp c.pop_last.new.self q || list_any (eq_by_cmp nat_cmp q) ids) c.as_slice.ensures.value))

pub returns : goal.returns
returns c = ListsParts-end c.args.self.now.nodes c.args.id (contains nat_cmp c.loop-part.waiting) c.loop-part.parts.items c.loop-part.invariant
    (λ q. none c.loop-part.waiting.keys (eq_by_cmp nat_cmp q) c.in_default.ensures.variant.1)
