-- Steps in a row.
use Rattle.std.proofs.Common.{◌≡◌, ℕ, zero, suc, ◌+◌, refl, sym, subst, arith}
use Rattle.rz_rules.specs.Tree.{Tree}
use Rattle.rz_reduction.specs.Turn.{Reaches, StepsTo}

pub steps-append : (C v : Tree) (more count : ℕ) (t u : Tree) (answered : ℕ)
    → StepsTo C (suc count) t answered u → StepsTo C more u 0 v → StepsTo C (suc count + more) t answered v
steps-append C v more zero t u answered steps further =
    let total : suc more ≡ suc zero + more = omega arith in
    subst (λ n. StepsTo C n t answered v) total (steps.0, steps.1, subst (λ x. StepsTo C more x 0 v) (sym steps.2) further)
steps-append C v more (suc count) t u answered steps further =
    let total : suc (suc count + more) ≡ suc (suc count) + more = omega arith in
    subst (λ n. StepsTo C n t answered v) total (steps.0, steps.1, steps-append C v more count steps.0 u 0 steps.2 further)

-- one step more
reach_more : (C : Tree) (made : ℕ) (start t u : Tree) → Reaches C made start t → Reaches C 1 t u → Reaches C (made + 1) start u
reach_more C zero start t u reached step =
    let total : 1 ≡ zero + 1 = omega arith in
    subst (λ n. Reaches C n start u) total (subst (λ x. Reaches C 1 x u) (sym reached) step)
reach_more C (suc made) start t u reached step =
    let total : suc (made + 1) ≡ suc made + 1 = omega arith in
    subst (λ n. Reaches C n start u) total (reached.0, reached.1, reached.2, reach_more C made reached.0 t u reached.3 step)

pub steps-reach : (C t u : Tree) (count answered made : ℕ) (start : Tree)
    → Reaches C made start t → StepsTo C count t answered u → Reaches C (made + count) start u
steps-reach C t u zero answered made start reached steps =
    let total : made ≡ made + zero = omega arith in
    subst (λ n. Reaches C n start u) total (subst (Reaches C made start) steps reached)
steps-reach C t u (suc count) answered made start reached steps =
    let total : made + 1 + count ≡ made + suc count = omega arith in
    subst (λ n. Reaches C n start u) total
    (steps-reach C steps.0 u count 0 (made + 1) start (reach_more C made start t steps.0 reached (steps.0, answered, steps.1, refl)) steps.2)
