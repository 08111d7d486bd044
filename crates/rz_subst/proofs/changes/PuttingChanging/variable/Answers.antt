use Rattle.std.proofs.Common.{◌≡◌, ◌+◌, ◌^◌, Bool, true, false, not, refl, sym, ap, subst, ◌∙◌, arith}
use Rattle.rz_rules.specs.Tree.{tree_of}
use Rattle.rz_rules.specs.Substitution.{Depth, weakened, same_space, IndicesBelow}
use Rattle.rz_pool.specs.Counts.{depth_of}
use Rattle.rz_subst.proofs.PutVariables.{same_spaces, one_space, in_another_space, before_it, behind_it, in_its_place, too_large}
use Rattle.rz_subst.proofs.changes.PuttingChanging.variable.Goals as goal

not_true : (b : Bool) → true ≡ not b → b ≡ false
not_true true e = e
not_true false e = refl

not_false : (b : Bool) → false ≡ not b → b ≡ true
not_false true e = refl
not_false false e = e

pub returns-then-ne-clause-change : goal.returns-then-ne-clause-change
returns-then-ne-clause-change c =
    let s = c.args.self.now.space in
    let x = c.args.space in
    let apart : same_space s x ≡ false = sym (same_spaces s x) ∙ not_true _ c.if-ne.ensures in
    in_another_space c.args.pool.now.nodes s x (depth_of c.args.self.now.at) (depth_of c.args.depth) (tree_of c.args.pool.now.nodes c.args.self.now.value) c.args.number
    apart c.requires.number

pub returns-then-number-above-clause-change : goal.returns-then-number-above-clause-change
returns-then-number-above-clause-change c =
    let s = c.args.self.now.space in
    let x = c.args.space in
    let same : s ≡ x = one_space s x (sym (same_spaces s x) ∙ not_false _ c.if-ne.ensures) in
    let above : c.of-above.result ≡ depth_of c.args.self.now.at x + depth_of c.args.depth x = c.of-above.ensures ∙ ap (λ (d : Depth). d x) c.in_ok-at.ensures in
    before_it c.args.pool.now.nodes s x (depth_of c.args.self.now.at) (depth_of c.args.depth) (tree_of c.args.pool.now.nodes c.args.self.now.value) c.args.number
    same (omega (arith, above, c.if-number-above.true)) c.requires.number

pub returns-then-number-above-2-clause-change : goal.returns-then-number-above-2-clause-change
returns-then-number-above-2-clause-change c =
    let s = c.args.self.now.space in
    let x = c.args.space in
    let same : s ≡ x = one_space s x (sym (same_spaces s x) ∙ not_false _ c.if-ne.ensures) in
    let above : c.of-above.result ≡ depth_of c.args.self.now.at x + depth_of c.args.depth x = c.of-above.ensures ∙ ap (λ (d : Depth). d x) c.in_ok-at.ensures in
    behind_it c.args.pool.now.nodes s x (depth_of c.args.self.now.at) (depth_of c.args.depth) (tree_of c.args.pool.now.nodes c.args.self.now.value) c.args.number
    same (omega (arith, above, c.if-number-above-2.true)) c.requires.number

pub returns-in-Some-clause-change : goal.returns-in-Some-clause-change
returns-in-Some-clause-change c =
    let s = c.args.self.now.space in
    let x = c.args.space in
    let value = tree_of c.args.pool.now.nodes c.args.self.now.value in
    let new = c.weaken.new.pool.nodes in
    let same : s ≡ x = one_space s x (sym (same_spaces s x) ∙ not_false _ c.if-ne.ensures) in
    let above : c.of-above.result ≡ depth_of c.args.self.now.at x + depth_of c.args.depth x = c.of-above.ensures ∙ ap (λ (d : Depth). d x) c.in_ok-at.ensures in
    let answer = rw c.in-Some.is at c.in_ok-raised.ensures.answer in
    in_its_place new s x (depth_of c.args.self.now.at) (depth_of c.args.depth) value c.args.number
    same c.in-Some.raised (omega (arith, above, c.if-number-above.false, c.if-number-above-2.false))
    (answer.0, answer.1 ∙ ap (λ (d : Depth). weakened d value) c.in_ok-at.ensures)

pub returns-in-None-clause-change : goal.returns-in-None-clause-change
returns-in-None-clause-change c =
    let s = c.args.self.now.space in
    let x = c.args.space in
    let value = tree_of c.args.pool.now.nodes c.args.self.now.value in
    let new = c.weaken.new.pool.nodes in
    let same : s ≡ x = one_space s x (sym (same_spaces s x) ∙ not_false _ c.if-ne.ensures) in
    let above : c.of-above.result ≡ depth_of c.args.self.now.at x + depth_of c.args.depth x = c.of-above.ensures ∙ ap (λ (d : Depth). d x) c.in_ok-at.ensures in
    let large = rw c.in-None.is at c.in_ok-raised.ensures.answer in
    too_large new s x (depth_of c.args.self.now.at) (depth_of c.args.depth) value c.args.number
    same (omega (arith, above, c.if-number-above.false, c.if-number-above-2.false))
    (λ fits. large (subst (λ (d : Depth). IndicesBelow (2 ^ 32) (weakened d value)) (sym c.in_ok-at.ensures) fits))
