use Rattle.std.proofs.Common.{◌≡◌, ℕ, ◌+◌, ◌&&◌, Bool, List, Option, None, Contains, take, sym, ap, subst, ◌∙◌, arith}
use Rattle.rz_rule_text.proofs.Taking.{IsTaken, taken_more}
use Rattle.rz_rule_text.proofs.text.take_known.Goals as goal
use Rattle.rz_rule_text.proofs.text.take_known.Goals.{then-known, else-known}

pub loop-taken-preserved : goal.loop-taken-preserved
loop-taken-preserved c =
    let kept = c.keep_known-kept.result in
    let both : c.if-known.known ≡ (c.loop-taken.known && kept) =
    elim c.if-known.branch [
      | then-known w ↦ w.known-is ∙ sym (ap (λ (b : Bool). b && kept) w.if-known.true)
      | else-known w ↦ w.known-is ∙ w.if-known.false ∙ sym (ap (λ (b : Bool). b && kept) w.if-known.false)
    ] in
    let next = taken_more c.args.trees.now.items c.loop-taken.taken c.loop-taken.trees.items c.loop-taken.kids c.keep_known-kept.new.kids c.loop-taken.known kept c.next.result
    (omega arith) c.next.ensures.first c.keep_known-kept.ensures.kept c.keep_known-kept.ensures.lost c.loop-taken.invariant in
    subst (λ (b : Bool). IsTaken c.args.trees.now.items (c.loop-taken.taken + 1) c.next.new.trees.items c.keep_known-kept.new.kids b) (sym both)
    (subst (λ (left : List (Option ℕ)). IsTaken c.args.trees.now.items (c.loop-taken.taken + 1) left c.keep_known-kept.new.kids (c.loop-taken.known && kept)) (sym c.next.ensures.rest) next)

pub returns-else-known-2-clause-none : goal.returns-else-known-2-clause-none
returns-else-known-2-clause-none c =
    let same : c.loop-taken.taken ≡ c.args.count = omega arith in
    subst (λ (n : ℕ). Contains (take n c.args.trees.now.items) None) same (c.loop-taken.invariant.lost c.if-known-2.false)
