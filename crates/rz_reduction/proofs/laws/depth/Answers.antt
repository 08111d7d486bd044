use Rattle.rz_reduction.proofs.Depth.{comparisons, runs, reaches, outcomes, limits, run_limits, one_deeper}
use Rattle.rz_reduction.proofs.laws.depth.Goals as goal

pub returns-clause-comparisons : goal.returns-clause-comparisons
returns-clause-comparisons c = comparisons

pub returns-clause-runs : goal.returns-clause-runs
returns-clause-runs c = runs

pub returns-clause-reaches : goal.returns-clause-reaches
returns-clause-reaches c = reaches

pub returns-clause-outcomes : goal.returns-clause-outcomes
returns-clause-outcomes c = outcomes

pub returns-clause-limits : goal.returns-clause-limits
returns-clause-limits c = limits

pub returns-clause-run_limits : goal.returns-clause-run_limits
returns-clause-run_limits c = run_limits

pub returns-clause-reading : goal.returns-clause-reading
returns-clause-reading c = one_deeper
