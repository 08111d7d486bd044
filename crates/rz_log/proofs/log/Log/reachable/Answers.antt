use Rattle.std.proofs.Common.{◌≡◌, ℕ, ◌<◌, Bool, true, false, ◌||◌, List, [], ◌∷◌, length, refl, sym, ap, subst, ◌∙◌, true≢false, arith}
use Rattle.std.specs.Prelude.{IsTrue, ◌↔◌, Contains}
use Rattle.std.specs.List.{list_any}
use Rattle.std.specs.Ordering.{nat_cmp, eq_by_cmp}
use Rattle.std.specs.BTreeSet.{contains}
use Rattle.rz_log.specs.Reachable.{IsReachable}
use Rattle.rz_log.proofs.Reaching.{IsListing, listing_start, listing_push, listing_end, listed_iff}
use Rattle.rz_log.proofs.log.Log.reachable.Goals as goal

none : (keys : List ℕ) (test : ℕ → Bool) → (0 < length keys → false ≡ true) → list_any test keys ≡ false
none [] test h = refl
none (k ∷ keys) test h = absurd (true≢false (sym (h (omega arith))))

pub loop-step-init : goal.loop-step-init
loop-step-init c =
    let steps = c.as_slice.result.now in
    let start : (q : ℕ) → contains nat_cmp c.add_all.new.waiting q ≡ list_any (eq_by_cmp nat_cmp q) steps =
    λ q. c.in_ok-add_all.ensures q ∙ ap (λ (b : Bool). b || list_any (eq_by_cmp nat_cmp q) steps) (ap (list_any (eq_by_cmp nat_cmp q)) c.new-waiting.ensures.empty) in
    subst (IsListing c.args.self.now c.args.roots.now (contains nat_cmp c.add_all.new.waiting)) (sym c.new-rising.ensures.items)
    (listing_start c.args.self.now c.args.roots.now (contains nat_cmp c.add_all.new.waiting) c.requires
    (λ q. subst (λ (roots : List ℕ). IsTrue (contains nat_cmp c.add_all.new.waiting q) ↔ Contains roots q) c.as_slice.ensures
    (subst (λ (b : Bool). IsTrue b ↔ Contains steps q) (sym (start q)) (listed_iff steps q))))

pub loop-step-preserved : goal.loop-step-preserved
loop-step-preserved c =
    let popped = c.in-Some.ensures in
    let line = c.line.result.now in
    subst (IsListing c.args.self.now c.args.roots.now (contains nat_cmp c.add_all-in-Some.new.waiting)) (sym c.in_ok-push_front.ensures.items)
    (listing_push c.args.self.now c.args.roots.now (contains nat_cmp c.loop-step.waiting) c.loop-step.rising.items c.loop-step.invariant
    c.in-Some.step line popped.member c.line.ensures.line c.line.ensures.earlier
    (contains nat_cmp c.pop_last.new.self) (contains nat_cmp c.add_all-in-Some.new.waiting)
    popped.greatest popped.updates.0
    (λ q. c.in_ok-add_all-2.ensures q ∙ ap (λ (ids : List ℕ). contains nat_cmp c.pop_last.new.self q || list_any (eq_by_cmp nat_cmp q) ids) c.as_slice-in-Some.ensures))

pub returns-clause-exact : goal.returns-clause-exact
returns-clause-exact c step =
    subst (λ (steps : List ℕ). Contains steps step ↔ IsReachable c.args.self.now c.args.roots.now step) (sym (c.from_vec.ensures ∙ c.into_vec.ensures.items))
    (listing_end c.args.self.now c.args.roots.now (contains nat_cmp c.loop-step.waiting) c.loop-step.rising.items c.loop-step.invariant
    (λ q h. true≢false (sym h ∙ none c.loop-step.waiting.keys (eq_by_cmp nat_cmp q) c.in_default.ensures.variant.1)) step)
