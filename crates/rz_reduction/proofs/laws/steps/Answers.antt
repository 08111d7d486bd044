use Rattle.rz_reduction.proofs.Steps.{steps-append, steps-reach}
use Rattle.rz_reduction.proofs.laws.steps.Goals as goal

pub returns-clause-append : goal.returns-clause-append
returns-clause-append c = λ C t u v count more answered. steps-append C v more count t u answered

pub returns-clause-reach : goal.returns-clause-reach
returns-clause-reach c = λ C start t u made count answered. steps-reach C t u count answered made start
