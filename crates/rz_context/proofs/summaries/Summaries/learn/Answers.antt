use Rattle.std.proofs.Common.{◌≡◌, ℕ, length, sym, subst, arith}
use Rattle.rz_context.specs.Summary.{AreSummaries, IsLow, IsSummary}
use Rattle.rz_context.proofs.Kept.{summaries_more}
use Rattle.rz_context.proofs.summaries.Summaries.learn.Goals as goal

pub loop-self-preserved : goal.loop-self-preserved
loop-self-preserved c =
    let ns = c.args.pool.now.nodes in
    let summaries = c.loop-self.self.summaries.items in
    let same : c.len-in-loop-self-2.result ≡ length summaries = omega (arith, c.len-in-loop-self-2.ensures) in
    subst (AreSummaries ns) (sym c.in_ok-push.ensures.items) (summaries_more ns summaries c.in_ok-summary.summary c.loop-self.invariant
    (omega (arith, c.loop-self-test.true, c.len.ensures, c.len-in-loop-self.ensures.len))
    (subst (λ (n : ℕ). IsLow n c.in_ok-summary.summary) same c.in_ok-summary.ensures.low)
    (subst (λ (n : ℕ). IsSummary ns n c.in_ok-summary.summary) same c.in_ok-summary.ensures.summary))
