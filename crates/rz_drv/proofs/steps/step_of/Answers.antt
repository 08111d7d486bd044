use Rattle.rz_drv.proofs.Grammar.{no_step_parts, no_step}
use Rattle.rz_drv.proofs.steps.step_of.Goals as goal

pub returns-in_default-clause-none : goal.returns-in_default-clause-none
returns-in_default-clause-none c = no_step_parts _ (rw c.in_default.is at c.in_ok-parts.ensures.none)

pub returns-clause-none : goal.returns-clause-none
returns-clause-none c = no_step _ c.in-Some.parts (rw c.in-Some.is at c.in_ok-parts.ensures.found) (rw c.in-None.is at c.in_ok-line.ensures.none)
