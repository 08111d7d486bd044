use Rattle.std.proofs.Common.{◌≡◌, ℕ, ◌<◌, Bool, true, false, ◌||◌, List, [], ◌∷◌, length, refl, sym, ap, subst, ◌∙◌, true≢false, arith}
use Rattle.std.specs.Prelude.{IsTrue, ◌↔◌, Contains}
use Rattle.std.specs.List.{list_any}
use Rattle.std.specs.Ordering.{nat_cmp, eq_by_cmp}
use Rattle.std.specs.BTreeSet.{contains}
use Rattle.rz_export.specs.Needs.{IsNeeded}
use Rattle.rz_export.proofs.Listing.{IsListing, listing_start, listing_push, listing_end, listed_iff}
use Rattle.rz_export.proofs.needs.parts_of.Goals as goal

none : (keys : List ℕ) (test : ℕ → Bool) → (0 < length keys → false ≡ true) → list_any test keys ≡ false
none [] test h = refl
none (k ∷ keys) test h = absurd (true≢false (sym (h (omega arith))))

pub loop-id-init : goal.loop-id-init
loop-id-init c =
    let named = c.args.named.now in
    let start : (q : ℕ) → contains nat_cmp c.add_all.new.waiting q ≡ list_any (eq_by_cmp nat_cmp q) named =
    λ q. c.in_ok-add_all.ensures q ∙ ap (λ (b : Bool). b || list_any (eq_by_cmp nat_cmp q) named) (ap (list_any (eq_by_cmp nat_cmp q)) c.new-waiting.ensures.empty) in
    subst (IsListing c.args.pool.now.nodes named (contains nat_cmp c.add_all.new.waiting)) (sym c.new-rising.ensures.items)
    (listing_start c.args.pool.now.nodes named (contains nat_cmp c.add_all.new.waiting) c.requires
    (λ q. subst (λ (b : Bool). IsTrue b ↔ Contains named q) (sym (start q)) (listed_iff named q)))

pub loop-id-preserved : goal.loop-id-preserved
loop-id-preserved c =
    let popped = c.in-Some.ensures in
    let node = c.node.result.now in
    subst (IsListing c.args.pool.now.nodes c.args.named.now (contains nat_cmp c.add_all-in-Some.new.waiting)) (sym c.in_ok-push_front.ensures.items)
    (listing_push c.args.pool.now.nodes c.args.named.now (contains nat_cmp c.loop-id.waiting) c.loop-id.rising.items c.loop-id.invariant
    c.in-Some.id node popped.member c.node.ensures.node c.node.ensures.form.kids
    (contains nat_cmp c.pop_last.new.self) (contains nat_cmp c.add_all-in-Some.new.waiting)
    popped.greatest popped.updates.0
    (λ q. c.in_ok-add_all-2.ensures q ∙ ap (λ (ids : List ℕ). contains nat_cmp c.pop_last.new.self q || list_any (eq_by_cmp nat_cmp q) ids) c.as_slice.ensures.value))

pub returns-clause-exact : goal.returns-clause-exact
returns-clause-exact c id =
    subst (λ (ids : List ℕ). Contains ids id ↔ IsNeeded c.args.pool.now.nodes c.args.named.now id) (sym (c.from_vec.ensures ∙ c.into_vec.ensures.items))
    (listing_end c.args.pool.now.nodes c.args.named.now (contains nat_cmp c.loop-id.waiting) c.loop-id.rising.items c.loop-id.invariant
    (λ q h. true≢false (sym h ∙ none c.loop-id.waiting.keys (eq_by_cmp nat_cmp q) c.in_default.ensures.variant.1)) id)
