use Rattle.std.proofs.Common.{◌≡◌, true, sym, ◌∙◌, true≢false}
use Rattle.rz_rules.specs.declared.kinds.Space.{Space}
use Rattle.rz_rules.specs.declared.kinds.Space.TheVariants.{Points, Terms}
use Rattle.rz_subst.specs.Walk.{reach_of, StaysIn}
use Rattle.rz_subst.proofs.walk.is_beyond.Goals as goal

pub returns-then-points-clause-beyond : goal.returns-then-points-clause-beyond
returns-then-points-clause-beyond c = (
  λ both space. elim space as (λ (s : Space). StaysIn (reach_of c.args.reach) c.args.pool.now.nodes c.args.place s) [
    | Points ↦ c.stays_in-points.ensures.stays.0 c.if-points.true
    | Terms ↦ c.stays_in-terms.ensures.stays.0 both
  ],
  λ all. c.stays_in-terms.ensures.stays.1 (all Terms),
)

pub returns-else-points-clause-beyond : goal.returns-else-points-clause-beyond
returns-else-points-clause-beyond c = (
  λ points. absurd (true≢false (sym points ∙ c.if-points.false)),
  λ all. let there : c.stays_in-points.result ≡ true = c.stays_in-points.ensures.stays.1 (all Points) in absurd (true≢false (cc c.if-points.false)),
)
