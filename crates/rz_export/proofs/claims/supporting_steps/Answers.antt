use Rattle.std.proofs.Common.{◌<◌, ℕ, List, length, All, sym, subst}
use Rattle.std.specs.Prelude.{◌↔◌, Contains, IfOk}
use Rattle.rz_log.specs.Reachable.{IsReachable}
use Rattle.rz_export.proofs.Needing.{claims_live}
use Rattle.rz_export.proofs.claims.supporting_steps.Goals as goal

pub reachable-requires : goal.reachable-requires
reachable-requires c =
    subst (All (λ root. root < length c.args.log.now)) (sym c.in_ok-roots.ensures) (claims_live (length c.args.log.now) c.args.claims.now c.requires)

pub returns-clause-exact : goal.returns-clause-exact
returns-clause-exact c =
    subst (λ (roots : List ℕ). IfOk c.reachable.result (λ steps. (step : ℕ) → Contains steps step ↔ IsReachable c.args.log.now roots step))
    c.in_ok-roots.ensures c.reachable.ensures.exact
