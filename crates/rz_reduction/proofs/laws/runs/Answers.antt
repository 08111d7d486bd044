use Rattle.std.proofs.Common.{refl}
use Rattle.rz_reduction.proofs.Turns.{run_begins, run_turn, run_follows, run_ends, reached_has_no_step}
use Rattle.rz_reduction.specs.Run.{step_limit}
use Rattle.rz_reduction.proofs.laws.runs.Goals as goal

pub returns-clause-begins : goal.returns-clause-begins
returns-clause-begins c = run_begins

pub returns-clause-goes_on : goal.returns-clause-goes_on
returns-clause-goes_on c = run_turn

pub returns-clause-follows : goal.returns-clause-follows
returns-clause-follows c = run_follows

pub returns-clause-ends : goal.returns-clause-ends
returns-clause-ends c = run_ends

pub returns-clause-limit : goal.returns-clause-limit
returns-clause-limit c = λ below answered C t. refl

pub returns-clause-normal : goal.returns-clause-normal
returns-clause-normal c = λ below answered C t u. reached_has_no_step below step_limit C t u answered
